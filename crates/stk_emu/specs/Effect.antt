-- What erasing and writing do to the memories of a part, without pages, frames, word addresses and instructions.
use Rattle.std.specs.Prelude.{ℕ, Bool, List, [], ◌∷◌, ◌==◌, bit_and, Option, Some, None, unwrap_or, if◌then◌else◌}
use Rattle.std.specs.Int.{bit_at}
use Rattle.avr_image.specs.Image.{byte_at}
use Rattle.avr_part.specs.declared.part.Mem.{Mem}
use Rattle.avr_part.specs.declared.part.Mem.TheVariants.{Flash, Eeprom, Lfuse, Hfuse, Efuse, Lock, Signature, Calibration}
use Rattle.avr_part.specs.Part.{Part}
use Rattle.avr_part.specs.Memory.{blank}
use Rattle.avr_part.specs.State.{ChipState}

-- The memories that can be written.
pub record Memories : Type 0 where
  pub flash : List ℕ
  pub eeprom : List ℕ
  pub lfuse : ℕ
  pub hfuse : ℕ
  pub efuse : ℕ
  pub lock : ℕ

-- The memories of a chip.
abbrev pub memories_of : ChipState → Memories
memories_of s =
    record { flash = s.flash; eeprom = s.eeprom; lfuse = s.lfuse; hfuse = s.hfuse; efuse = s.efuse; lock = s.lock }

-- For each address a byte, or None where the image has a gap.
abbrev pub Image : Type 0
Image = List (Option ℕ)

-- A change of the memories: an erase of the chip, or the write of an image to one of them.
pub data Item : Type 0 where
  Erase : Item
  Write : Mem → Image → Item

-- Writing EEPROM: each byte at an address of the image becomes the image's byte.
abbrev pub with_image : Image → List ℕ → List ℕ
with_image image [] = []
with_image [] (x ∷ xs) = x ∷ xs
with_image (b ∷ image) (x ∷ xs) = unwrap_or b x ∷ with_image image xs

-- A byte of flash or the lock AND the one written. A gap changes nothing.
abbrev pub and_with : Option ℕ → ℕ → ℕ
and_with (Some b) x = bit_and x b
and_with None x = x

-- Writing flash: each byte at an address of the image becomes itself AND the image's byte.
abbrev pub and_in : Image → List ℕ → List ℕ
and_in image [] = []
and_in [] (x ∷ xs) = x ∷ xs
and_in (b ∷ image) (x ∷ xs) = and_with b x ∷ and_in image xs

-- Lock bit 0 is 0: only an erase changes flash and EEPROM, and nothing changes the fuses.
abbrev pub are_locked : Memories → Bool
are_locked m = bit_at m.lock 0 == 0

-- The EESAVE bit is 0, so an erase keeps the EEPROM.
abbrev pub erase_keeps_eeprom : Part → Memories → Bool
erase_keeps_eeprom part m = bit_at m.hfuse part.eesave_bit == 0

-- What writing an image does. A locked chip changes only its lock.
abbrev pub write_effect : Mem → Image → Memories → Memories
write_effect Flash image m = record m { flash = if are_locked m then m.flash else and_in image m.flash }
write_effect Eeprom image m = record m { eeprom = if are_locked m then m.eeprom else with_image image m.eeprom }
write_effect Lfuse image m = record m { lfuse = if are_locked m then m.lfuse else unwrap_or (byte_at image 0) m.lfuse }
write_effect Hfuse image m = record m { hfuse = if are_locked m then m.hfuse else unwrap_or (byte_at image 0) m.hfuse }
write_effect Efuse image m = record m { efuse = if are_locked m then m.efuse else unwrap_or (byte_at image 0) m.efuse }
write_effect Lock image m = record m { lock = and_with (byte_at image 0) m.lock }
write_effect mem image m = m

-- What an item does. An erase also opens the lock.
abbrev pub effect : Part → Item → Memories → Memories
effect part Erase m = record m {
  flash = blank m.flash;
  lock = 255;
  eeprom = if erase_keeps_eeprom part m then m.eeprom else blank m.eeprom;
}
effect part (Write mem image) m = write_effect mem image m

-- What items do, in order.
abbrev pub effects : Part → List Item → Memories → Memories
effects part [] m = m
effects part (item ∷ items) m = effects part items (effect part item m)

-- The bytes of a memory. The calibration is FF.
abbrev pub memory_in : Part → Mem → Memories → List ℕ
memory_in part Flash m = m.flash
memory_in part Eeprom m = m.eeprom
memory_in part Lfuse m = m.lfuse ∷ []
memory_in part Hfuse m = m.hfuse ∷ []
memory_in part Efuse m = m.efuse ∷ []
memory_in part Lock m = m.lock ∷ []
memory_in part Signature m = part.signature
memory_in part Calibration m = 255 ∷ []
