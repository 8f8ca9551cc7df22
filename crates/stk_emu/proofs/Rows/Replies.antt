-- The limits, and what a programmer with a small part refuses or loses.
use Rattle.std.proofs.Common.{◌≡◌, ℕ, List, [], ◌∷◌, refl}
use Rattle.avr_part.specs.Part.{Part}
use Rattle.avr_part.specs.BuiltIn.{m328p}
use Rattle.avr_part.specs.State.{fresh_state}
use Rattle.stk_frame.specs.Commands.{body}
use Rattle.stk_frame.specs.Frame.{frame}
use Rattle.stk_frame.specs.HostCommands.{enter}
use Rattle.stk_emu.specs.Programmer.{Programmer, fresh_programmer, restarted_programmer, execute}
use Rattle.stk_emu.specs.declared.fate.TheConstants.{LARGEST_NOISE}
use Rattle.stk_emu.specs.declared.programmer.TheConstants.{LARGEST_READ}
use Rattle.stk_emu.specs.declared.arrival.TheConstants.{ROOM}

-- the most bytes that a request reads, the most noise on a link at a time, and the room for all that one frame can
-- bring: three late replies, noise and a timeout
pub limits : (LARGEST_READ ≡ 272) × (LARGEST_NOISE ≡ 2048) × (ROOM ≡ 2891)
limits = (refl, refl, refl)

abbrev pub small : Part
small = record m328p { id = []; flash_size = 16; flash_page = 8; eeprom_size = 8 }

abbrev pub start : Programmer
start = fresh_programmer (fresh_state small)

abbrev behind : List ℕ → Programmer → Programmer
behind bytes p = (execute bytes p).1

abbrev entered : Programmer
entered = behind (body enter) start

pub multi_outside : (execute (0x1D ∷ 0x04 ∷ 0x04 ∷ 0x00 ∷ 0x30 ∷ 0x00 ∷ 0x01 ∷ 0x00 ∷ []) start).0 ≡ 0x1D ∷ 0xC0 ∷ []
multi_outside = refl

pub short_fuse : (execute (0x17 ∷ 0xAC ∷ 0xA0 ∷ 0x00 ∷ []) entered).0 ≡ 0x17 ∷ 0xC0 ∷ []
short_fuse = refl

pub poll_above_four : (execute (0x10 ∷ 0xC8 ∷ 0x64 ∷ 0x19 ∷ 0x20 ∷ 0x00 ∷ 0x53 ∷ 0x05 ∷ 0xAC ∷ 0x53 ∷ 0x00 ∷ 0x00 ∷ [])
    start).0 ≡ 0x10 ∷ 0xC0 ∷ []
poll_above_four = refl

abbrev loaded : Programmer
loaded = behind (0x06 ∷ 0x00 ∷ 0x00 ∷ 0x00 ∷ 0x00 ∷ []) entered

-- a page that is loaded but not written is lost with programming mode
pub load_is_lost : restarted_programmer (behind
    (0x13 ∷ 0x00 ∷ 0x02 ∷ 0x41 ∷ 0x0A ∷ 0x40 ∷ 0x4C ∷ 0x20 ∷ 0xFF ∷ 0xFF ∷ 0x12 ∷ 0x34 ∷ []) loaded) ≡ start
load_is_lost = refl

-- the reply's frame to an unknown command
abbrev pub notice : ℕ → List ℕ
notice n = frame n (0x05 ∷ 0xC9 ∷ [])
