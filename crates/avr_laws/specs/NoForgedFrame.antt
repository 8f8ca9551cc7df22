-- A link that forges no frame: what a host cuts from what it receives was sent by the programmer.
use Rattle.std.specs.Prelude.{ℕ, zero, suc, true, List, [], ◌∷◌, ◌≡◌, ◌⊎◌, false, take}
use Rattle.stk_frame.specs.Frame.{frame}
use Rattle.stk_frame.specs.Cut.{cut, is_good, body_of}
use Rattle.stk_host.specs.Tape.{Tape, answer, is_reply, leading_bytes, reply_byte_limit}
use Rattle.stk_host.specs.Dialog.{Dialog, Done, Emit, Ask, next}
use Rattle.stk_emu.specs.Device.{Device, refusal}
use Rattle.stk_emu.specs.Exchange.{Execution, NotExecuted, Executed, ThenRestarted, after_execution}
use Rattle.avr_tool.specs.Authentic.{first_execution, later_executions, on_reading}

-- The frame of the reply to a command, also if the programmer restarted since; nothing if it wasn't executed.
abbrev pub frame_of_reply : {P : Type 0} → Device P → ℕ → List ℕ → P → Execution → List ℕ
frame_of_reply m n bytes p NotExecuted = []
frame_of_reply m n bytes p Executed = frame n (m.reply bytes p)
frame_of_reply m n bytes p (ThenRestarted execution) = frame_of_reply m n bytes p execution

-- The piece is one of the first `k` of these.
abbrev pub IsAmongFirst : ℕ → List (List ℕ) → List ℕ → Type 0
IsAmongFirst zero sent piece = ⊥
IsAmongFirst (suc k) [] piece = ⊥
IsAmongFirst (suc k) (first ∷ sent) piece = (piece ≡ first) ⊎ IsAmongFirst k sent piece

-- This piece isn't forged, given the replies so far, the last one first. It is the reply to one of the last 256 frames
-- sent, the one that waits included; the refusal of a damaged frame with any number; or no good frame.
abbrev pub IsNotForged : List (List ℕ) → List ℕ → Type 0
IsNotForged sent piece = is_good piece ≡ true → (body_of piece ≡ refusal) ⊎ IsAmongFirst 256 sent piece

-- No piece is forged, up to and including the reply to frame `n`. What follows isn't read yet.
abbrev pub AreNotForged : ℕ → List (List ℕ) → List (List ℕ) → Type 0
AreNotForged n sent [] = Unit {0}
AreNotForged n sent (piece ∷ pieces) = IsNotForged sent piece × (is_reply n piece ≡ false → AreNotForged n sent pieces)

-- THE LINK FORGES NO FRAME: at a command, each good frame that the host cuts is the programmer's reply to one of the
-- last 256 frames sent, or a refusal. The dialog is run over this tape. Anything else may be anywhere on the tape:
-- parts of replies, noise, earlier replies, refusals, timeouts.
abbrev pub ForgesNoFrame : {E R P : Type 0} → Device P → Dialog E R → ℕ → Tape → P → List Execution
    → List (List ℕ) → Type 0
ForgesNoFrame m (Done r) n tape p executions before = Unit {0}
ForgesNoFrame m (Emit e dialog) n tape p executions before = ForgesNoFrame m dialog n tape p executions before
ForgesNoFrame m (Ask bytes go_on) n tape p executions before =
    on_reading (λ reading left.
    AreNotForged n (frame_of_reply m n bytes p (first_execution executions)
    ∷ before) (cut (take reply_byte_limit (leading_bytes tape))) × ForgesNoFrame m (go_on reading) (next n) left
    (after_execution (first_execution executions) (m.after bytes p) p m.reset) (later_executions executions)
    (frame_of_reply m n bytes p (first_execution executions) ∷ before))
    (answer n tape)
