-- What waits to be received, stored as bytes and the places of the timeouts between them.
use Rattle.std.specs.Prelude.{ℕ, List, [], ◌∷◌, ◌++◌, ◌+◌, ◌*◌, ◌-◌, ◌<◌, ◌≤◌, take, drop}
use Rattle.stk_frame.specs.declared.protocol.TheConstants.{LARGEST_FRAME}
use Rattle.stk_emu.specs.declared.fate.TheConstants.{LARGEST_NOISE}
use Rattle.stk_host.specs.declared.link.Item.TheVariants.{Silence}
use Rattle.stk_host.specs.Tape.{Tape, on_tape}

-- The items that wait, and the room for more bytes and for more timeouts.
pub record Waiting : Type 0 where
  pub tape : Tape
  pub byte_room : ℕ
  pub timeout_room : ℕ

-- There is room for what one frame brings: three late replies and noise, and a timeout.
pub record HasRoom (waiting : Waiting) : Type 0 where
  pub bytes : 3 * LARGEST_FRAME + LARGEST_NOISE ≤ waiting.byte_room
  pub timeout : 0 < waiting.timeout_room

-- The bytes from the place `at` on, and a timeout before the byte at each of these places.
abbrev pub tape_in : ℕ → List ℕ → List ℕ → Tape
tape_in at bytes [] = on_tape (drop at bytes)
tape_in at bytes (place ∷ places) = on_tape (take (place - at) (drop at bytes)) ++ Silence ∷ tape_in place bytes places

-- The places never fall, and lie between `at` and `count`.
abbrev pub AreWithin : ℕ → List ℕ → ℕ → Type 0
AreWithin at [] count = Unit {0}
AreWithin at (place ∷ places) count = (at ≤ place) × (place ≤ count) × AreWithin place places count

-- Nothing waits, or a timeout is next.
abbrev pub HasNoLeadingByte : Tape → Type 0
HasNoLeadingByte [] = Unit {0}
HasNoLeadingByte (Silence ∷ tape) = Unit {0}
HasNoLeadingByte (other ∷ tape) = ⊥
