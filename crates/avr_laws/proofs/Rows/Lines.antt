-- Worked links that aren't authentic.
use Rattle.std.proofs.Common.{ℕ, [], ◌∷◌, rules}
use Rattle.stk_frame.specs.Frame.{frame}
use Rattle.stk_host.specs.Tape.{on_tape, answer}
use Rattle.stk_host.specs.Dialog.{Dialog, Done, Ask}
use Rattle.stk_emu.specs.Device.{device}
use Rattle.stk_emu.specs.Exchange.{NotExecuted, Executed}
use Rattle.avr_tool.specs.Authentic.{RepliesAreAuthentic}
use Rattle.stk_emu.proofs.Rows.Replies.{start, notice}

-- one frame, of a command that no programmer knows, whatever is read
abbrev asks : Dialog ⊥ ℕ
asks = Ask (0x05 ∷ []) (λ reading. Done 0)

-- a forged reply, though all else is in order
pub forged : RepliesAreAuthentic device asks 1 (on_tape (frame 1 (0x05 ∷ 0x00 ∷ []))) start (Executed ∷ []) → ⊥
unfolding answer
forged a' = search rules

-- and the programmer's own reply to a command that it didn't execute now, as a reply kept from before under the number
pub unseen : RepliesAreAuthentic device asks 1 (on_tape (notice 1)) start (NotExecuted ∷ []) → ⊥
unfolding answer
unseen a' = search rules
