-- The command of a body.
use Rattle.std.specs.Prelude.{ℕ, List, [], ◌∷◌, ◌^◌, ◌<◌, ◌≡◌, length, ◌==◌, if◌then◌else◌, Option, Some, None, option_map}
use Rattle.byteorder.specs.Endian.{big_number}
use Rattle.stk_frame.specs.declared.command.Command.{Command}
use Rattle.stk_frame.specs.declared.command.Command.TheVariants.{SignOn, SetParameter, GetParameter, LoadAddress, EnterProgmode, LeaveProgmode, ChipErase, ProgramFlash, ReadFlash, ProgramEeprom, ReadEeprom, ProgramFuse, ReadFuse, ProgramLock, ReadLock, ReadSignature, ReadOsccal, SpiMulti}
use Rattle.stk_frame.specs.declared.command.ProgramBlock.{ProgramBlock}
use Rattle.stk_frame.specs.declared.command.ReadBlock.{ReadBlock}
use Rattle.stk_frame.specs.declared.command.ReadByte.{ReadByte}
use Rattle.stk_frame.specs.declared.protocol.TheConstants.{CMD_CHIP_ERASE_ISP, CMD_ENTER_PROGMODE_ISP, CMD_GET_PARAMETER, CMD_LEAVE_PROGMODE_ISP, CMD_LOAD_ADDRESS, CMD_PROGRAM_EEPROM_ISP, CMD_PROGRAM_FLASH_ISP, CMD_PROGRAM_FUSE_ISP, CMD_PROGRAM_LOCK_ISP, CMD_READ_EEPROM_ISP, CMD_READ_FLASH_ISP, CMD_READ_FUSE_ISP, CMD_READ_LOCK_ISP, CMD_READ_OSCCAL_ISP, CMD_READ_SIGNATURE_ISP, CMD_SET_PARAMETER, CMD_SIGN_ON, CMD_SPI_MULTI}

-- The fields of commands, from their bytes; `None` if there are too few or too many.
abbrev pub enter_progmode_of : List ℕ → Option Command
enter_progmode_of (timeout ∷ stab_delay ∷ command_delay ∷ synch_loops ∷ byte_delay ∷ poll_value ∷ poll_index ∷ a ∷ b ∷ c
    ∷ d ∷ []) =
    Some (EnterProgmode (record {
      timeout = timeout;
      stab_delay = stab_delay;
      command_delay = command_delay;
      synch_loops = synch_loops;
      byte_delay = byte_delay;
      poll_value = poll_value;
      poll_index = poll_index;
      instruction = a ∷ b ∷ c ∷ d ∷ [];
    }))
enter_progmode_of _ = None

abbrev pub program_block_of : List ℕ → Option ProgramBlock
program_block_of (high ∷ low ∷ mode ∷ delay ∷ cmd1 ∷ cmd2 ∷ cmd3 ∷ poll1 ∷ poll2 ∷ bytes) =
    Some (record {
      count = big_number 2 (high ∷ low ∷ []);
      mode = mode;
      delay = delay;
      cmd1 = cmd1;
      cmd2 = cmd2;
      cmd3 = cmd3;
      poll1 = poll1;
      poll2 = poll2;
      bytes = bytes;
    })
program_block_of _ = None

abbrev pub read_block_of : List ℕ → Option ReadBlock
read_block_of (high ∷ low ∷ cmd1 ∷ []) = Some (record { count = big_number 2 (high ∷ low ∷ []); cmd1 = cmd1 })
read_block_of _ = None

-- An instruction has four bytes.
abbrev pub instruction : List ℕ → Option (List ℕ)
instruction (a ∷ b ∷ c ∷ d ∷ []) = Some (a ∷ b ∷ c ∷ d ∷ [])
instruction _ = None

abbrev pub read_byte_of : List ℕ → Option ReadByte
read_byte_of (return_address ∷ a ∷ b ∷ c ∷ d ∷ []) =
    Some (record { return_address = return_address; instruction = a ∷ b ∷ c ∷ d ∷ [] })
read_byte_of _ = None

-- The command of a body, by its code and its fields; what `Command::read` returns.
abbrev pub command_of : List ℕ → Option Command
command_of [] = None
command_of (code ∷ bytes) =
    if code == CMD_SIGN_ON then elim bytes [ [] ↦ Some SignOn | _ ↦ None ]
    else if code == CMD_SET_PARAMETER then elim bytes [ n ∷ value ∷ [] ↦ Some (SetParameter n value) | _ ↦ None ]
    else if code == CMD_GET_PARAMETER then elim bytes [ n ∷ [] ↦ Some (GetParameter n) | _ ↦ None ]
    else if code == CMD_LOAD_ADDRESS then elim bytes [
      | a ∷ b ∷ c ∷ d ∷ [] ↦ Some (LoadAddress (big_number 4 (a ∷ b ∷ c ∷ d ∷ [])))
      | _ ↦ None
    ]
    else if code == CMD_ENTER_PROGMODE_ISP then enter_progmode_of bytes
    else if code == CMD_LEAVE_PROGMODE_ISP then elim bytes [
      | pre ∷ post ∷ [] ↦ Some (LeaveProgmode pre post)
      | _ ↦ None
    ]
    else if code == CMD_CHIP_ERASE_ISP then elim bytes [
      | delay ∷ poll ∷ a ∷ b ∷ c ∷ d ∷ [] ↦ Some (ChipErase delay poll (a ∷ b ∷ c ∷ d ∷ []))
      | _ ↦ None
    ]
    else if code == CMD_PROGRAM_FLASH_ISP then option_map ProgramFlash (program_block_of bytes)
    else if code == CMD_READ_FLASH_ISP then option_map ReadFlash (read_block_of bytes)
    else if code == CMD_PROGRAM_EEPROM_ISP then option_map ProgramEeprom (program_block_of bytes)
    else if code == CMD_READ_EEPROM_ISP then option_map ReadEeprom (read_block_of bytes)
    else if code == CMD_PROGRAM_FUSE_ISP then option_map ProgramFuse (instruction bytes)
    else if code == CMD_READ_FUSE_ISP then option_map ReadFuse (read_byte_of bytes)
    else if code == CMD_PROGRAM_LOCK_ISP then option_map ProgramLock (instruction bytes)
    else if code == CMD_READ_LOCK_ISP then option_map ReadLock (read_byte_of bytes)
    else if code == CMD_READ_SIGNATURE_ISP then option_map ReadSignature (read_byte_of bytes)
    else if code == CMD_READ_OSCCAL_ISP then option_map ReadOsccal (read_byte_of bytes)
    else if code == CMD_SPI_MULTI then elim bytes [
      | count ∷ receive_count ∷ receive_start ∷ x ↦ Some (SpiMulti count receive_count receive_start x)
      | _ ↦ None
    ]
    else None

-- The numbers of a command fit their bytes, and an instruction has four.
abbrev pub FieldsFit : Command → Type 0
FieldsFit (LoadAddress address) = address < 2 ^ 32
FieldsFit (EnterProgmode f) = length f.instruction ≡ 4
FieldsFit (ChipErase erase_delay poll_method bytes) = length bytes ≡ 4
FieldsFit (ProgramFlash f) = f.count < 2 ^ 16
FieldsFit (ReadFlash f) = f.count < 2 ^ 16
FieldsFit (ProgramEeprom f) = f.count < 2 ^ 16
FieldsFit (ReadEeprom f) = f.count < 2 ^ 16
FieldsFit (ProgramFuse bytes) = length bytes ≡ 4
FieldsFit (ReadFuse f) = length f.instruction ≡ 4
FieldsFit (ProgramLock bytes) = length bytes ≡ 4
FieldsFit (ReadLock f) = length f.instruction ≡ 4
FieldsFit (ReadSignature f) = length f.instruction ≡ 4
FieldsFit (ReadOsccal f) = length f.instruction ≡ 4
FieldsFit _ = Unit {0}
