use Rattle.std.proofs.lemmas.Result.{err_from_is_err_and}
use Rattle.avr_plan.proofs.KeptTexts.{nothing_behind_port, port_is_reported}
use Rattle.avr_plan.proofs.from_options.run_settings.Goals as goal

pub returns-in_err-port-clause-is_reported : goal.returns-in_err-port-clause-is_reported
returns-in_err-port-clause-is_reported c = λ notice.
    let is_reported = rw c.text_of-2.ensures at c.in_err-port.ensures.is_reported in
    let p = err_from_is_err_and c.from_residual-in_err-port.result c.from_residual-in_err-port.ensures.1 in
    rw (p.1, p.2) (search port_is_reported)

pub returns-in_err-updates-clause-is_reported : goal.returns-in_err-updates-clause-is_reported
returns-in_err-updates-clause-is_reported c = λ notice.
    let gives = rw c.text_of-2.ensures at c.in_ok-port.ensures.gives in search nothing_behind_port
