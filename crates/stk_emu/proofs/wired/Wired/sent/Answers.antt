use Rattle.std.proofs.Common.{◌∙◌, ap}
use Rattle.stk_host.specs.Transcript as transcript
use Rattle.stk_emu.proofs.wired.Wired.sent.Goals as goal

pub returns : goal.returns
returns c = c.sent.ensures ∙ ap (λ w. transcript.sent w.transcript) c.self.view_is
