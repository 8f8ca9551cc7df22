-- The commands that a host sends, with its constants.
use Rattle.std.specs.Prelude.{ℕ, List, [], ◌∷◌, length}
use Rattle.stk_frame.specs.declared.command.Command.{Command}
use Rattle.stk_frame.specs.declared.command.Command.TheVariants.{EnterProgmode, LeaveProgmode, ChipErase, ProgramFlash, ReadFlash, ProgramEeprom, ReadEeprom, ProgramFuse, ReadFuse, ProgramLock, ReadLock, ReadSignature, ReadOsccal}
use Rattle.stk_frame.specs.declared.command.ProgramBlock.{ProgramBlock}
use Rattle.stk_frame.specs.declared.command.ReadByte.{ReadByte}
use Rattle.stk_frame.specs.declared.command.Fuse.{Fuse}
use Rattle.stk_frame.specs.declared.command.Fuse.TheVariants.{Low, High, Extended}

-- Enters programming mode: `AC 53 00 00` is sent, and the third byte that returns has to be 53.
abbrev pub enter : Command
enter =
    EnterProgmode (record {
      timeout = 0xC8;
      stab_delay = 0x64;
      command_delay = 0x19;
      synch_loops = 0x20;
      byte_delay = 0x00;
      poll_value = 0x53;
      poll_index = 0x03;
      instruction = 0xAC ∷ 0x53 ∷ 0x00 ∷ 0x00 ∷ [];
    })

-- Leaves programming mode.
abbrev pub leave : Command
leave = LeaveProgmode 0x01 0x01

-- Erases the chip.
abbrev pub erase : Command
erase = ChipErase 0x09 0x00 (0xAC ∷ 0x80 ∷ 0x00 ∷ 0x00 ∷ [])

-- A block in page mode: it is written at its end, and RDY/BSY is polled.
abbrev pub page_mode_block : ℕ → ℕ → ℕ → List ℕ → ProgramBlock
page_mode_block cmd1 cmd2 cmd3 bytes =
    record {
      count = length bytes;
      mode = 0xC1;
      delay = 0x0A;
      cmd1 = cmd1;
      cmd2 = cmd2;
      cmd3 = cmd3;
      poll1 = 0xFF;
      poll2 = 0xFF;
      bytes = bytes;
    }

-- Loads these bytes into the flash buffer, and writes its page.
abbrev pub program_page : List ℕ → Command
program_page bytes = ProgramFlash (page_mode_block 0x40 0x4C 0x20 bytes)

abbrev pub read_flash_block : ℕ → Command
read_flash_block count = ReadFlash (record { count = count; cmd1 = 0x20 })

-- Loads these bytes into the EEPROM buffer, and writes its page.
abbrev pub program_eeprom_block : List ℕ → Command
program_eeprom_block bytes = ProgramEeprom (page_mode_block 0xC1 0xC2 0xA0 bytes)

abbrev pub read_eeprom_block : ℕ → Command
read_eeprom_block count = ReadEeprom (record { count = count; cmd1 = 0xA0 })

-- The second byte of the instruction that writes this fuse.
abbrev pub write_address : Fuse → ℕ
write_address Low = 0xA0
write_address High = 0xA8
write_address Extended = 0xA4

-- The instruction that reads this fuse.
abbrev pub read_instruction : Fuse → List ℕ
read_instruction Low = 0x50 ∷ 0x00 ∷ 0x00 ∷ 0x00 ∷ []
read_instruction High = 0x58 ∷ 0x08 ∷ 0x00 ∷ 0x00 ∷ []
read_instruction Extended = 0x50 ∷ 0x08 ∷ 0x00 ∷ 0x00 ∷ []

-- A command whose result is the fourth byte that the instruction shifts out.
abbrev pub read_fourth_byte : List ℕ → ReadByte
read_fourth_byte instruction = record { return_address = 4; instruction = instruction }

abbrev pub program_fuse : Fuse → ℕ → Command
program_fuse fuse value = ProgramFuse (0xAC ∷ write_address fuse ∷ 0x00 ∷ value ∷ [])

abbrev pub read_fuse : Fuse → Command
read_fuse fuse = ReadFuse (read_fourth_byte (read_instruction fuse))

abbrev pub program_lock : ℕ → Command
program_lock value = ProgramLock (0xAC ∷ 0xE0 ∷ 0x00 ∷ value ∷ [])

abbrev pub read_lock : Command
read_lock = ReadLock (read_fourth_byte (0x58 ∷ 0x00 ∷ 0x00 ∷ 0x00 ∷ []))

-- Reads one of the three bytes of the signature.
abbrev pub read_signature : ℕ → Command
read_signature place = ReadSignature (read_fourth_byte (0x30 ∷ 0x00 ∷ place ∷ 0x00 ∷ []))

abbrev pub read_calibration : Command
read_calibration = ReadOsccal (read_fourth_byte (0x38 ∷ 0x00 ∷ 0x00 ∷ 0x00 ∷ []))
