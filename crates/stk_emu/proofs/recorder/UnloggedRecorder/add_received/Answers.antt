use Rattle.std.proofs.Common.{◌∙◌, ap}
use Rattle.stk_host.specs.Transcript.{sent}
use Rattle.stk_emu.proofs.Wires.Unsent.{unsent_receiving}
use Rattle.stk_emu.proofs.recorder.UnloggedRecorder.add_received.Goals as goal

pub invariant_of-self : goal.invariant_of-self
invariant_of-self c =
    rw (ap sent c.then-self-inside.ensures ∙ unsent_receiving c.self.inside.history.items _) c.self.invariant
