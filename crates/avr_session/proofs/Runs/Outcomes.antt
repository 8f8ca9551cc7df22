-- The outcome of a session: the line of its fault is the last one that was reported.
use Rattle.std.proofs.Common.{◌≡◌, Result, Ok, Err, rules}
use Rattle.avr_plan.specs.Plan.{Plan}
use Rattle.stk_host.specs.State.{HostState}
use Rattle.avr_session.specs.Standing.{NoFault, Faulty, Over}
use Rattle.avr_session.specs.declared.ending.End.{End}
use Rattle.avr_session.specs.declared.ending.End.TheVariants as ends
use Rattle.avr_session.specs.declared.ending.Outcome.{Outcome}
use Rattle.avr_session.specs.Concluding.{standing_after}
use Rattle.avr_session.specs.Outcomes.{outcome_status, ComesTo, EndsWithFaultLine, outcome_of}
use Rattle.avr_session.specs.Performing.{PlaysSession}
use Rattle.avr_session.specs.Run.{RunsSession}
use Rattle.avr_session.specs.Runs.{Devices, start}
use Rattle.avr_session.proofs.ActionByAction.Sequences.{session_played, session_stopped}

-- A session that was performed comes to the outcome of its result.
pub session_comes : (plan : Plan) {x y : HostState} {o p : Devices} (result : Result (Unit {0}) End)
    → x.progress ≡ start → PlaysSession plan x y o p (standing_after result)
    → EndsWithFaultLine plan.part p.desk (outcome_of result) → ComesTo plan o p (outcome_of result)
session_comes plan (Ok all) first done last = session_played plan NoFault first done
session_comes plan (Err (ends.Faulty fault)) first done last = (session_played plan Faulty first done, last)
session_comes plan (Err (ends.Over fault)) first done last = (session_played plan Over first done, last)
session_comes plan (Err ends.Stopped) first done last = session_stopped plan tt first done

-- A session that came to an outcome ran to the status of this outcome.
pub comes_runs : (plan : Plan) (old new : Devices) (outcome : Outcome) → ComesTo plan old new outcome
    → RunsSession plan old new (outcome_status outcome)
comes_runs plan old new outcome comes = search rules
