use Rattle.std.proofs.Common.{◌∙◌, ap, arith, length}
use Rattle.std.proofs.lemmas.Bool.Decides.{nat_tests}
use Rattle.stk_host.specs.Transcript.{sent}
use Rattle.stk_emu.proofs.Wires.Unsent.{unsent_sending}
use Rattle.stk_emu.proofs.recorder.UnloggedRecorder.add_sent.Goals.{then-self, else-self}
use Rattle.stk_emu.proofs.recorder.UnloggedRecorder.add_sent.Goals as goal

pub invariant_of-self : goal.invariant_of-self
invariant_of-self c =
    let count = ap (λ t. length (sent t)) c.then-self-inside.ensures
    ∙ unsent_sending c.self.inside.history.items c.args.bytes.now in
    elim c.if-self.branch [
      | then-self w ↦ grind (arith, nat_tests, count)
      | else-self w ↦ grind (arith, nat_tests, count)
    ]
