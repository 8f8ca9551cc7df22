use Rattle.avr_laws.proofs.Outcomes.TwoRuns.{as_one_by_any}
use Rattle.avr_laws.proofs.runs.an_ended_run_and_one_with_status_0_are_as_one.Goals as goal

pub returns : goal.returns
returns g c =
    let t = g.T.AnyProgrammer in as_one_by_any t.part t.device t.view t.IsIn t.IsReady t.becomes
