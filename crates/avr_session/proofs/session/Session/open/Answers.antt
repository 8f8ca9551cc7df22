use Rattle.std.proofs.Common.{ap, refl, rules}
use Rattle.stk_host.specs.Operations.{opening}
use Rattle.avr_session.specs.Actions.{OpenSession}
use Rattle.avr_session.specs.Session.{opening_output}
use Rattle.avr_session.proofs.ActionByAction.Operations.{opening_line}
use Rattle.avr_session.proofs.ActionByAction.Sequences.{does_printed}
use Rattle.avr_session.proofs.session.Session.open.Goals as goal

pub returns : goal.returns
returns g c =
    let plan = c.args.self.now.plan.now in
    let quiet = plan.switches.quiet in
    let does = does_printed plan OpenSession (opening_output quiet plan.part) refl (opening_line quiet plan.part)
    c.requires.0 (ap (λ part. opening part.signature plan.switches.force) c.requires.1)
    (rw c.switches-switches.ensures at c.open-opened.ensures.calls) c.report_opening-reported.ensures.reports
    c.conclude.ensures in
    search rules
