-- How images make the bytes of flash, whatever was done, and when a memory takes an image that is written.
use Rattle.std.specs.Prelude.{ℕ, true, false, ◌≡◌, ◌⊎◌, bit_and, List, [], ◌∷◌, Some, None, ⊤}
use Rattle.avr_image.specs.Image.{byte_at}
use Rattle.avr_part.specs.declared.part.Mem.{Mem}
use Rattle.avr_part.specs.declared.part.Mem.TheVariants.{Flash, Eeprom, Lfuse, Hfuse, Efuse, Lock, Signature, Calibration}
use Rattle.stk_emu.specs.Effect.{Image, Item, Erase, Write, Memories, are_locked}
use Rattle.avr_tool.specs.Items.{has_erase}

-- An item writes an image to flash with this byte at this address.
abbrev pub WritesFlashByte : Item → ℕ → ℕ → Type 0
WritesFlashByte (Write Flash image) addr byte = byte_at image addr ≡ Some byte
WritesFlashByte item addr byte = ⊥

-- One of these items writes this byte of flash.
abbrev pub IsWrittenAt : List Item → ℕ → ℕ → Type 0
IsWrittenAt [] addr byte = ⊥
IsWrittenAt (item ∷ items) addr byte = WritesFlashByte item addr byte ⊎ IsWrittenAt items addr byte

-- Each of these bytes is written there by one of the items.
abbrev pub AreWrittenAt : List Item → ℕ → List ℕ → Type 0
AreWrittenAt items addr [] = ⊤
AreWrittenAt items addr (byte ∷ bytes) = IsWrittenAt items addr byte × AreWrittenAt items addr bytes

-- The first byte AND all others.
abbrev pub and_all : ℕ → List ℕ → ℕ
and_all first [] = first
and_all first (byte ∷ bytes) = and_all (bit_and first byte) bytes

-- A byte of flash before and after some items. It is the byte before, or the FF of an erase, AND the bytes at this
-- address of none, one or more images written to flash.
pub record IsMadeByImages (items : List Item) (addr before after : ℕ) : Type 0 where
  pub first : ℕ
  pub bytes : List ℕ
  pub first_is : (first ≡ before) ⊎ ((first ≡ 255) × (has_erase items ≡ true))
  pub are_there : AreWrittenAt items addr bytes
  pub is : after ≡ and_all first bytes

-- No image among these items has a byte of this memory at this address.
abbrev pub LeaveUnwritten : List Item → Mem → ℕ → Type 0
LeaveUnwritten [] mem addr = ⊤
LeaveUnwritten (Erase ∷ items) mem addr = LeaveUnwritten items mem addr
LeaveUnwritten (Write other image ∷ items) mem addr =
    (other ≡ mem → byte_at image addr ≡ None) × LeaveUnwritten items mem addr

-- These items erase the chip, and write no other image at the addresses of this one.
abbrev pub IsErasedFor : Mem → Image → List Item → Type 0
IsErasedFor mem image items = (has_erase items ≡ true)
    × ((addr byte : ℕ) → byte_at image addr ≡ Some byte → LeaveUnwritten items mem addr)

-- When a memory takes an image after some items that left the chip like this. Flash, EEPROM and fuses must not be
-- locked. Flash and the lock, in which a write only clears bits, must be erased for the image. A memory that can't be
-- written takes none.
abbrev pub WriteTakesEffect : Mem → Image → List Item → Memories → Type 0
WriteTakesEffect Flash image items m = (are_locked m ≡ false) × IsErasedFor Flash image items
WriteTakesEffect Eeprom image items m = are_locked m ≡ false
WriteTakesEffect Lfuse image items m = are_locked m ≡ false
WriteTakesEffect Hfuse image items m = are_locked m ≡ false
WriteTakesEffect Efuse image items m = are_locked m ≡ false
WriteTakesEffect Lock image items m = IsErasedFor Lock image items
WriteTakesEffect Signature image items m = ⊥
WriteTakesEffect Calibration image items m = ⊥
