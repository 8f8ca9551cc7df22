use Rattle.std.proofs.Common.{[], ◌∷◌, rules}
use Rattle.std.proofs.lemmas.Result.{err_from_is_err_and}
use Rattle.stk_host.specs.declared.fault.HostFault.TheVariants.{WrongSignature}
use Rattle.avr_io.specs.OutputEvents.{PrintsLine}
use Rattle.avr_session.specs.Lines.{fault_line}
use Rattle.avr_session.proofs.ActionByAction.Reports.{reports_then, prints_until}
use Rattle.avr_session.proofs.reports.report_opening.Goals as goal

pub returns-in_ok-report_found-in-Ok : goal.returns-in_ok-report_found-in-Ok
returns-in_ok-report_found-in-Ok g c =
    rw c.in-Ok.is (reports_then g.D.Desk _ _ _ (rw c.switches-quiet.ensures at c.in_ok-report_found-in-Ok.ensures)
    (rw (c.switches-quiet.ensures, c.part.ensures) at c.warn_of_signature.ensures))

pub returns-in_err-report_found-in-Ok : goal.returns-in_err-report_found-in-Ok
returns-in_err-report_found-in-Ok g c =
    let p = err_from_is_err_and c.from_residual.result c.from_residual.ensures.1 in
    rw (c.in-Ok.is, p.1, p.2) (prints_until g.D.Desk _ _ _ (rw c.switches-quiet.ensures at
    c.in_err-report_found-in-Ok.ensures))

pub returns-in_ok-report_found-in-Err-WrongSignature : goal.returns-in_ok-report_found-in-Err-WrongSignature
returns-in_ok-report_found-in-Err-WrongSignature g c =
    let printed = reports_then g.D.Desk _ _ _
    (rw c.switches-quiet.ensures at c.in_ok-report_found-in-Err-WrongSignature.ensures)
    (rw c.part-in-Err-WrongSignature.ensures at c.report_fault.ensures) in
    search rules

pub returns-in_err-report_found-in-Err-WrongSignature : goal.returns-in_err-report_found-in-Err-WrongSignature
returns-in_err-report_found-in-Err-WrongSignature g c =
    let p = err_from_is_err_and c.from_residual-in_err-report_found-in-Err-WrongSignature.result
    c.from_residual-in_err-report_found-in-Err-WrongSignature.ensures.1 in
    let fault = WrongSignature c.in-Err-WrongSignature.found in
    let printed = prints_until g.D.Desk _ (PrintsLine (fault_line c.args.plan.now.part fault) ∷ []) _
    (rw c.switches-quiet.ensures at c.in_err-report_found-in-Err-WrongSignature.ensures) in
    rw (p.1, p.2) (search rules)
