-- The state of an emulator, what it was fed, and its replies.
use Rattle.std.specs.Prelude.{ℕ, List, ◌≡◌, ◌<◌, ◌≤◌, ◌++◌, length, take, filter}
use Rattle.stk_frame.specs.Cut.{frames, is_frame}
use Rattle.stk_frame.specs.Reader.{HoldsFrame, MayHaveBeenFed, Fed}
use Rattle.stk_emu.specs.Programmer.{Programmer}
use Rattle.stk_emu.specs.Device.{device, replies, after_frames}

-- The bytes of the frame that is arriving or has just ended, and the programmer.
pub record EmulatorState : Type 0 where
  pub held : List ℕ
  pub programmer : Programmer

-- The replies of a programmer to all frames of a text, in order.
abbrev pub emulate : Programmer → List ℕ → List ℕ
emulate p text = replies device (frames text) p

-- An emulator that began with this programmer and was fed this text.
pub record WasFedText (p : Programmer) (text : List ℕ) (machine : EmulatorState) : Type 0 where
  pub stands : MayHaveBeenFed machine.held text
  pub executed : machine.programmer ≡ after_frames device (frames text) p

-- It was fed the bytes `used`, and `out` is its reply. At most one frame ends in them, with their last byte.
pub record RepliesToFrame (old : EmulatorState) (used : List ℕ) (new : EmulatorState) (out : List ℕ) : Type 0 where
  pub found : List (List ℕ)
  pub few : length found ≤ 1
  pub are_frames : filter is_frame found ≡ found
  pub fed : Fed old.held used new.held found
  pub ends : 0 < length out → HoldsFrame new.held
  pub replied : out ≡ replies device found old.programmer
  pub executed : new.programmer ≡ after_frames device found old.programmer

-- It was fed these bytes, and appended the replies to all frames that end in them, whatever text came before.
pub record AppendsReplies (old : EmulatorState) (bytes : List ℕ) (new : EmulatorState)
    (before after : List ℕ) : Type 0 where
  pub found : List (List ℕ)
  pub ends : (text : List ℕ) → MayHaveBeenFed old.held text → frames (text ++ bytes) ≡ frames text ++ found
  pub stands : (text : List ℕ) → MayHaveBeenFed old.held text → MayHaveBeenFed new.held (text ++ bytes)
  pub appended : after ≡ before ++ replies device found old.programmer
  pub executed : new.programmer ≡ after_frames device found old.programmer

-- It was fed a proper prefix of these bytes, and all replies to that prefix were appended.
pub record AppendsRepliesToPrefix (old : EmulatorState) (bytes : List ℕ) (new : EmulatorState)
    (before after : List ℕ) : Type 0 where
  pub count : ℕ
  pub some_left : count < length bytes
  pub appends : AppendsReplies old (take count bytes) new before after
