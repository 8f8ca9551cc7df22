use Rattle.std.proofs.Common.{false, refl, rules}
use Rattle.stk_host.specs.Operations.{closing}
use Rattle.avr_session.specs.Session.{closing_output}
use Rattle.avr_session.proofs.ActionByAction.Operations.{cause_is_reported}
use Rattle.avr_session.proofs.ActionByAction.Sequences.{operation_performs, print_stops_report}
use Rattle.avr_session.proofs.session.Session.close.Goals as goal

pub returns : goal.returns
returns g c =
    let part = c.args.self.now.plan.now.part in
    let emits = closing_output c.args.self.now.plan.now.switches.quiet part in
    let reports = c.report_step-reported.ensures.reports in
    let ends = operation_performs closing emits reports false (print_stops_report _ _ reports)
    (cause_is_reported part emits (λ stop. refl) reports) c.requires c.close-closed.ensures.calls c.conclude.ensures in
    search rules
