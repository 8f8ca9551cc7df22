use Rattle.std.proofs.Common.{ap, refl, rules}
use Rattle.stk_host.specs.Operations.{verifying}
use Rattle.avr_session.specs.Actions.{CompareImage}
use Rattle.avr_session.specs.Session.{verified_output}
use Rattle.avr_session.proofs.ActionByAction.Sequences.{does_printed}
use Rattle.avr_session.proofs.session.Session.verify.Goals as goal

pub returns : goal.returns
returns g c =
    let plan = c.args.self.now.plan.now in
    let mem = c.args.mem in
    let image = c.args.image.now in
    let does = does_printed plan (CompareImage mem image) (verified_output plan.switches.quiet plan.part mem image) refl
    (λ stop. refl) c.requires.ready.0 (ap (λ part. verifying part mem image) c.requires.ready.1)
    c.verify-verified.ensures.calls c.report_image-reported.ensures.reports c.conclude.ensures in
    search rules
