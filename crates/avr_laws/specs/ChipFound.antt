-- The chip that a run over the emulator finds in its file.
use Rattle.std.specs.Prelude.{◌≡◌, [], ◌∷◌, ◌++◌, length, replicate, Option, Some, None}
use Rattle.avr_desk.specs.Memory.{Stock, content_of_name}
use Rattle.avr_io.specs.Record.{Bytes, Record, all_files}
use Rattle.avr_part.specs.ChipFile.{chip_file}
use Rattle.avr_part.specs.Part.{Part}
use Rattle.avr_part.specs.State.{ChipState as Chip, fresh_state}
use Rattle.stk_emu.specs.Effect.{Memories}

-- The contents of the file of this name at a desk in memory with this record, if it exists.
abbrev pub contents_held : Stock → Record → Bytes → Option Bytes
contents_held stock kept name = content_of_name stock (all_files kept) name

-- The chip file: flash, EEPROM, low, high and extended fuse and lock, without a gap.
abbrev pub file_of_memories : Memories → Bytes
file_of_memories m = m.flash ++ m.eeprom ++ m.lfuse ∷ m.hfuse ∷ m.efuse ∷ m.lock ∷ []

-- The memories that are in the chip file, with the sizes of this part. If the file doesn't exist, they are FF.
abbrev pub AreInFile : Part → Option Bytes → Memories → Type 0
AreInFile part None m =
    m ≡ record {
      flash = replicate part.flash_size 255;
      eeprom = replicate part.eeprom_size 255;
      lfuse = 255;
      hfuse = 255;
      efuse = 255;
      lock = 255;
    }
AreInFile part (Some bytes) m =
    (file_of_memories m ≡ bytes) × (length m.flash ≡ part.flash_size) × (length m.eeprom ≡ part.eeprom_size)

-- The chip whose memories are in the file, with empty page buffers; or a fresh chip, if the file doesn't exist.
abbrev pub IsChipInFile : Part → Option Bytes → Chip → Type 0
IsChipInFile part None chip = chip ≡ fresh_state part
IsChipInFile part (Some bytes) chip =
    (chip_file chip ≡ bytes) × (length chip.flash ≡ part.flash_size) × (length chip.eeprom ≡ part.eeprom_size)
    × (chip ≡ record (fresh_state part) {
      flash = chip.flash;
      eeprom = chip.eeprom;
      lfuse = chip.lfuse;
      hfuse = chip.hfuse;
      efuse = chip.efuse;
      lock = chip.lock;
    })
