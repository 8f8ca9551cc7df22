-- A chip file holds the chip that is read from it, place by place.
use Rattle.std.proofs.Common.{◌≡◌, ◌+◌, ap, refl, subst, ℕ, List, [], ◌∷◌, length, arith, Option, Some, None, length-append, rules}
use Rattle.std.proofs.lemmas.List.{length-drop, length-take-le}
use Rattle.avr_part.specs.ChipFile.{chip_file_size, state_from_file}
use Rattle.avr_part.specs.Part.{Part}
use Rattle.avr_part.specs.State.{ChipState as Chip, fresh_state}
use Rattle.avr_part.proofs.ChipFiles.{eeprom_part, flash_part, fuse_part, written_again}
use Rattle.stk_emu.specs.Effect.{Memories, memories_of}
use Rattle.avr_laws.specs.ChipFound.{AreInFile, IsChipInFile}

abbrev pub IsReadFrom : Part → Option (List ℕ) → Chip → Type 0
IsReadFrom part None chip = chip ≡ fresh_state part
IsReadFrom part (Some bytes) chip = (length bytes ≡ chip_file_size part) × (chip ≡ state_from_file part bytes)

-- a chip that is read from a file is the chip in it
pub in_file : (part : Part) (found : Option (List ℕ)) (chip : Chip) → IsReadFrom part found chip
    → IsChipInFile part found chip
in_file part found chip read = grind (arith, length-drop, written_again, length-take-le)

-- and conversely
pub from_file : (part : Part) (found : Option (List ℕ)) (chip : Chip) → IsChipInFile part found chip
    → IsReadFrom part found chip
from_file part None chip is = is
from_file part (Some bytes) s (is, flash_size, eeprom_size, same) =
    let fuses = s.lfuse ∷ s.hfuse ∷ s.efuse ∷ s.lock ∷ [] in
    let at = part.flash_size + part.eeprom_size in
    let flash = flash_part s.flash s.eeprom fuses part.flash_size flash_size in
    let eeprom = eeprom_part s.flash s.eeprom fuses part.flash_size part.eeprom_size flash_size eeprom_size in
    let lfuse = fuse_part s.flash s.eeprom fuses at 0 (omega arith) in
    let hfuse = fuse_part s.flash s.eeprom fuses (at + 1) 1 (omega arith) in
    let efuse = fuse_part s.flash s.eeprom fuses (at + 2) 2 (omega arith) in
    let lock = fuse_part s.flash s.eeprom fuses (at + 3) 3 (omega arith) in
    subst (λ (held : List ℕ). IsReadFrom part (Some held) s) is
    (simp length-append (omega (arith, flash_size, eeprom_size)), search rules)

-- the same of the memories alone
abbrev pub with_memories : Part → Memories → Chip
with_memories part m = record (fresh_state part) {
  flash = m.flash;
  eeprom = m.eeprom;
  lfuse = m.lfuse;
  hfuse = m.hfuse;
  efuse = m.efuse;
  lock = m.lock;
}

pub memories_in_file : (part : Part) (found : Option (List ℕ)) (chip : Chip) → IsChipInFile part found chip
    → AreInFile part found (memories_of chip)
memories_in_file part None chip is = ap memories_of is
memories_in_file part (Some bytes) chip (is, flash_size, eeprom_size, same) = (is, flash_size, eeprom_size)

-- and conversely, by a chip with empty buffers
pub chip_in_file : (part : Part) (found : Option (List ℕ)) (m : Memories) → AreInFile part found m
    → IsChipInFile part found (with_memories part m)
chip_in_file part None m are = ap (with_memories part) are
chip_in_file part (Some bytes) m (is, flash_size, eeprom_size) = (is, flash_size, eeprom_size, refl)
