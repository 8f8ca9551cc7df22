-- A device that executes the commands of frames, and its replies.
use Rattle.std.specs.Prelude.{ℕ, List, [], ◌∷◌, ◌++◌, if◌then◌else◌}
use Rattle.stk_frame.specs.Frame.{frame}
use Rattle.stk_frame.specs.Cut.{is_good, seq_of, body_of}
use Rattle.stk_emu.specs.Programmer.{Programmer, execute, restarted_programmer}

-- The body of the reply to a command's body, the device after that command, and the device after a restart.
pub record Device (P : Type 0) : Type 0 where
  pub reply : List ℕ → P → List ℕ
  pub after : List ℕ → P → P
  pub reset : P → P

-- The emulated programmer as a device.
abbrev pub device : Device Programmer
device = record {
  reply = λ bytes p. (execute bytes p).0;
  after = λ bytes p. (execute bytes p).1;
  reset = restarted_programmer;
}

-- The body of the reply to a damaged frame.
abbrev pub refusal : List ℕ
refusal = 0xB0 ∷ 0xC1 ∷ []

-- A good frame is executed; any other is refused and changes nothing.
abbrev pub after_frame : {P : Type 0} → Device P → List ℕ → P → P
after_frame m piece p = if is_good piece then m.after (body_of piece) p else p

-- A reply's frame has the sequence number of the command's frame.
abbrev pub reply_frame : {P : Type 0} → Device P → List ℕ → P → List ℕ
reply_frame m piece p = frame (seq_of piece) (if is_good piece then m.reply (body_of piece) p else refusal)

-- The replies to whole frames, joined; below, the device after them.
abbrev pub replies : {P : Type 0} → Device P → List (List ℕ) → P → List ℕ
replies m [] p = []
replies m (piece ∷ pieces) p = reply_frame m piece p ++ replies m pieces (after_frame m piece p)

abbrev pub after_frames : {P : Type 0} → Device P → List (List ℕ) → P → P
after_frames m [] p = p
after_frames m (piece ∷ pieces) p = after_frames m pieces (after_frame m piece p)
