use Rattle.avr_laws.proofs.Table.AnyStatus.{reports_by_any}
use Rattle.avr_laws.proofs.any_line.what_a_run_reports_is_true.Goals as goal

pub returns : goal.returns
returns g c =
    let t = g.T.AnyProgrammer in reports_by_any t.part t.device t.view t.IsIn t.IsReady t.becomes
