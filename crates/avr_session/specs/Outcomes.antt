-- The outcome of a session, and the fault whose line was reported.
use Rattle.std.specs.Prelude.{ℕ, Result, Ok, Err, ⊤}
use Rattle.avr_io.specs.Record.{DeskState}
use Rattle.avr_part.specs.Part.{Part}
use Rattle.avr_plan.specs.Plan.{Plan}
use Rattle.avr_session.specs.declared.ending.End.{End}
use Rattle.avr_session.specs.declared.ending.End.TheVariants as ends
use Rattle.avr_session.specs.declared.ending.Outcome.{Outcome}
use Rattle.avr_session.specs.declared.ending.Outcome.TheVariants as outcome
use Rattle.avr_session.specs.Lines.{fault_line}
use Rattle.avr_session.specs.Run.{StopsSession}
use Rattle.avr_session.specs.Runs.{Devices}
use Rattle.avr_session.specs.Session.{session}
use Rattle.avr_session.specs.Stopping.{EndWithLine, RanToStatus}

-- The status of an outcome.
abbrev pub outcome_status : Outcome → ℕ
outcome_status outcome.Done = 0
outcome_status _ = 1

-- The contract of `drive_outcome`. Done: the session ran whole, without a fault. Faulty: it ran whole, and this fault's
-- line is the last one. Stopped: it stopped at once.
abbrev pub ComesTo : Plan → Devices → Devices → Outcome → Type 0
ComesTo plan old new outcome.Done = RanToStatus (session plan) old new 0
ComesTo plan old new (outcome.Faulty fault) =
    RanToStatus (session plan) old new 1 × EndWithLine (fault_line plan.part fault) new.desk.kept.messages
ComesTo plan old new outcome.Stopped = StopsSession plan old new

-- ---- inside: how a session ended

-- If a fault ended the session, the fault's line is the last one reported.
abbrev pub EndsWithFaultLine : Part → DeskState → Outcome → Type 0
EndsWithFaultLine part view (outcome.Faulty fault) = EndWithLine (fault_line part fault) view.kept.messages
EndsWithFaultLine part view _ = ⊤

-- The outcome of a session that ended like this.
abbrev pub outcome_of : Result ⊤ End → Outcome
outcome_of (Ok done) = outcome.Done
outcome_of (Err (ends.Faulty fault)) = outcome.Faulty fault
outcome_of (Err (ends.Over fault)) = outcome.Faulty fault
outcome_of (Err ends.Stopped) = outcome.Stopped
