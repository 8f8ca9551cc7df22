use Rattle.std.proofs.Common.{◌∙◌, ap}
use Rattle.stk_host.specs.Transcript as transcript
use Rattle.stk_host.specs.Tape.{bytes_on_tape}
use Rattle.stk_emu.proofs.wired.Wired.heard.Goals as goal

pub returns : goal.returns
returns c = c.heard.ensures ∙ ap (λ w. bytes_on_tape (transcript.heard w.transcript)) c.self.view_is
