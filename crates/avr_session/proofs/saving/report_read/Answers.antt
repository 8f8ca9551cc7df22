use Rattle.std.proofs.lemmas.Result.{err_from_is_err_and}
use Rattle.avr_session.specs.Reporting.{DeskStops}
use Rattle.avr_session.specs.Saving.{SaveStops}
use Rattle.avr_session.proofs.ActionByAction.Reports.{saves_then, reports_until}
use Rattle.avr_session.proofs.ActionByAction.Saves.{save_is_desk}
use Rattle.avr_session.proofs.saving.report_read.Goals as goal

pub returns-in_ok-save-in-Ok : goal.returns-in_ok-save-in-Ok
returns-in_ok-save-in-Ok g c =
    let kept_is = rw c.switches-switches.ensures at c.bytes_to_save-kept.ensures in
    rw (c.in-Ok.is, ← kept_is) (saves_then g.D.Desk _ _ c.args.target.file.now _ c.in_ok-save-in-Ok.ensures
    (rw c.switches-switches.ensures at c.report_bytes.ensures))

pub returns-in_err-save-in-Ok : goal.returns-in_err-save-in-Ok
returns-in_err-save-in-Ok g c =
    let p = err_from_is_err_and c.from_residual.result c.from_residual.ensures.1 in
    let kept_is = rw c.switches-switches.ensures at c.bytes_to_save-kept.ensures in
    rw (c.in-Ok.is, p.1, p.2, ← kept_is) (reports_until g.D.Desk _ _ (SaveStops c.args.target.file.now)
    DeskStops _ (save_is_desk c.args.target.file.now _ _) c.in_err-save-in-Ok.ensures)
