-- The chip file: flash, EEPROM, low, high and extended fuse and lock, without a gap.
use Rattle.std.specs.Prelude.{◌+◌, ◌==◌, ℕ, List, [], ◌∷◌, ◌++◌, length, take, drop, slice_index, Result, Ok, Err, if◌then◌else◌}
use Rattle.avr_part.specs.Part.{Part}
use Rattle.avr_part.specs.State.{ChipState, fresh_state}
use Rattle.avr_part.specs.declared.fault.PartFault.{PartFault}
use Rattle.avr_part.specs.declared.fault.PartFault.TheVariants.{BadChipFile}

-- the bytes of a chip's file: flash, EEPROM, fuses and the lock byte
abbrev pub chip_file : ChipState → List ℕ
chip_file s = s.flash ++ s.eeprom ++ s.lfuse ∷ s.hfuse ∷ s.efuse ∷ s.lock ∷ []

-- how many bytes the file of a chip has
abbrev pub chip_file_size : Part → ℕ
chip_file_size p = p.flash_size + p.eeprom_size + 4

-- the fresh chip with the file's memories
abbrev pub state_from_file : Part → List ℕ → ChipState
state_from_file p bytes =
    let fuses = p.flash_size + p.eeprom_size in
    record (fresh_state p) {
      flash = take p.flash_size bytes;
      eeprom = take p.eeprom_size (drop p.flash_size bytes);
      lfuse = slice_index bytes fuses;
      hfuse = slice_index bytes (fuses + 1);
      efuse = slice_index bytes (fuses + 2);
      lock = slice_index bytes (fuses + 3);
    }

-- the chip in a file of the part's length, or its length as a fault
abbrev pub chip_from_file : Part → List ℕ → Result ChipState PartFault
chip_from_file p bytes =
    if length bytes == chip_file_size p then Ok (state_from_file p bytes) else Err (BadChipFile (length bytes))
