use Rattle.std.proofs.Common.{ap, refl, rules}
use Rattle.stk_host.specs.Operations.{writing}
use Rattle.avr_session.specs.Actions.{WriteImage}
use Rattle.avr_session.specs.Session.{written_output}
use Rattle.avr_session.proofs.ActionByAction.Sequences.{does_printed}
use Rattle.avr_session.proofs.session.Session.write.Goals as goal

pub returns : goal.returns
returns g c =
    let plan = c.args.self.now.plan.now in
    let mem = c.args.mem in
    let image = c.args.image.now in
    let does = does_printed plan (WriteImage mem image) (written_output plan.switches.quiet plan.part mem image) refl
    (λ stop. refl) c.requires.ready.0 (ap (λ part. writing part mem image) c.requires.ready.1)
    c.write-written.ensures.calls c.report_image-reported.ensures.reports c.conclude.ensures in
    search rules
