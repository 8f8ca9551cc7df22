-- What commands and their replies are made of (AVR068, "Commands").
use Rattle.std.specs.Prelude.{ℕ, List, [], ◌∷◌, ◌++◌, ◌+◌, length, ◌==◌, ◌&&◌, not, slice_index, take, if◌then◌else◌, ◌≡◌, Result, Ok, Err}
use Rattle.byteorder.specs.Endian.{big_bytes}
use Rattle.stk_frame.specs.declared.command.Command.{Command}
use Rattle.stk_frame.specs.declared.command.Command.TheVariants.{SignOn, SetParameter, GetParameter, LoadAddress, EnterProgmode, LeaveProgmode, ChipErase, ProgramFlash, ReadFlash, ProgramEeprom, ReadEeprom, ProgramFuse, ReadFuse, ProgramLock, ReadLock, ReadSignature, ReadOsccal, SpiMulti}
use Rattle.stk_frame.specs.declared.command.ProgramBlock.{ProgramBlock}
use Rattle.stk_frame.specs.declared.answer.Shape.{Shape}
use Rattle.stk_frame.specs.declared.answer.Shape.TheVariants.{Name, Bytes, Closed}
use Rattle.stk_frame.specs.declared.answer.FrameFault.{FrameFault}
use Rattle.stk_frame.specs.declared.answer.FrameFault.TheVariants.{WrongLength, WrongCommand, CheckSum, Status}
use Rattle.stk_frame.specs.declared.protocol.TheConstants.{ANSWER_CKSUM_ERROR, CMD_CHIP_ERASE_ISP, CMD_ENTER_PROGMODE_ISP, CMD_GET_PARAMETER, CMD_LEAVE_PROGMODE_ISP, CMD_LOAD_ADDRESS, CMD_PROGRAM_EEPROM_ISP, CMD_PROGRAM_FLASH_ISP, CMD_PROGRAM_FUSE_ISP, CMD_PROGRAM_LOCK_ISP, CMD_READ_EEPROM_ISP, CMD_READ_FLASH_ISP, CMD_READ_FUSE_ISP, CMD_READ_LOCK_ISP, CMD_READ_OSCCAL_ISP, CMD_READ_SIGNATURE_ISP, CMD_SET_PARAMETER, CMD_SIGN_ON, CMD_SPI_MULTI, STATUS_CKSUM_ERROR, STATUS_CMD_OK}

-- The first byte of a command, which is also that of its reply.
abbrev pub code : Command → ℕ
code SignOn = CMD_SIGN_ON
code (SetParameter number value) = CMD_SET_PARAMETER
code (GetParameter number) = CMD_GET_PARAMETER
code (LoadAddress address) = CMD_LOAD_ADDRESS
code (EnterProgmode f) = CMD_ENTER_PROGMODE_ISP
code (LeaveProgmode pre_delay post_delay) = CMD_LEAVE_PROGMODE_ISP
code (ChipErase erase_delay poll_method instruction) = CMD_CHIP_ERASE_ISP
code (ProgramFlash f) = CMD_PROGRAM_FLASH_ISP
code (ReadFlash f) = CMD_READ_FLASH_ISP
code (ProgramEeprom f) = CMD_PROGRAM_EEPROM_ISP
code (ReadEeprom f) = CMD_READ_EEPROM_ISP
code (ProgramFuse instruction) = CMD_PROGRAM_FUSE_ISP
code (ReadFuse f) = CMD_READ_FUSE_ISP
code (ProgramLock instruction) = CMD_PROGRAM_LOCK_ISP
code (ReadLock f) = CMD_READ_LOCK_ISP
code (ReadSignature f) = CMD_READ_SIGNATURE_ISP
code (ReadOsccal f) = CMD_READ_OSCCAL_ISP
code (SpiMulti send_count receive_count receive_start bytes) = CMD_SPI_MULTI

-- The fields of a block that is programmed, in AVR068's order.
abbrev pub program_block_fields : ProgramBlock → List ℕ
program_block_fields f =
    big_bytes 2 f.count ++ f.mode ∷ f.delay ∷ f.cmd1 ∷ f.cmd2 ∷ f.cmd3 ∷ f.poll1 ∷ f.poll2 ∷ f.bytes

-- The bytes of a command's fields, in their order, each number with its highest byte first.
abbrev pub fields : Command → List ℕ
fields SignOn = []
fields (SetParameter number value) = number ∷ value ∷ []
fields (GetParameter number) = number ∷ []
fields (LoadAddress address) = big_bytes 4 address
fields (EnterProgmode f) = f.timeout ∷ f.stab_delay ∷ f.command_delay ∷ f.synch_loops ∷ f.byte_delay ∷ f.poll_value
    ∷ f.poll_index ∷ f.instruction
fields (LeaveProgmode pre_delay post_delay) = pre_delay ∷ post_delay ∷ []
fields (ChipErase erase_delay poll_method instruction) = erase_delay ∷ poll_method ∷ instruction
fields (ProgramFlash f) = program_block_fields f
fields (ReadFlash f) = big_bytes 2 f.count ++ f.cmd1 ∷ []
fields (ProgramEeprom f) = program_block_fields f
fields (ReadEeprom f) = big_bytes 2 f.count ++ f.cmd1 ∷ []
fields (ProgramFuse instruction) = instruction
fields (ReadFuse f) = f.return_address ∷ f.instruction
fields (ProgramLock instruction) = instruction
fields (ReadLock f) = f.return_address ∷ f.instruction
fields (ReadSignature f) = f.return_address ∷ f.instruction
fields (ReadOsccal f) = f.return_address ∷ f.instruction
fields (SpiMulti send_count receive_count receive_start bytes) = send_count ∷ receive_count ∷ receive_start ∷ bytes

-- The body of a command's frame.
abbrev pub body : Command → List ℕ
body command = code command ∷ fields command

-- What follows the first status of a reply: a length and a name, n bytes, or n bytes and a last status.
abbrev pub shape : Command → Shape
shape SignOn = Name
shape (GetParameter number) = Bytes 1
shape (ReadFlash f) = Closed f.count
shape (ReadEeprom f) = Closed f.count
shape (ProgramFuse instruction) = Closed 0
shape (ReadFuse f) = Closed 1
shape (ProgramLock instruction) = Closed 0
shape (ReadLock f) = Closed 1
shape (ReadSignature f) = Closed 1
shape (ReadOsccal f) = Closed 1
shape (SpiMulti send_count receive_count receive_start bytes) = Closed receive_count
shape _ = Bytes 0

-- The data of a reply, from what follows its first status.
abbrev pub data_in_shape : Shape → List ℕ → Result (List ℕ) FrameFault
data_in_shape Name [] = Err WrongLength
data_in_shape Name (size ∷ name) = if length name == size then Ok name else Err WrongLength
data_in_shape (Bytes n) more = if length more == n then Ok more else Err WrongLength
data_in_shape (Closed n) more =
    if length more == n + 1
    then (if slice_index more n == STATUS_CMD_OK then Ok (take n more) else Err (Status (slice_index more n)))
    else Err WrongLength

-- The data of a reply to this command, by the reply's body, or why it isn't a good one: what `Answer::read` returns.
abbrev pub judge : Command → List ℕ → Result (List ℕ) FrameFault
judge command [] = Err WrongCommand
judge command (first ∷ []) = if first == code command then Err WrongLength else Err WrongCommand
judge command (first ∷ status ∷ more) =
    if first == ANSWER_CKSUM_ERROR && status == STATUS_CKSUM_ERROR && length more == 0 then Err CheckSum
    else if not (first == code command) then Err WrongCommand
    else if not (status == STATUS_CMD_OK) then Err (Status status)
    else data_in_shape (shape command) more

-- Data have the size that the shape fixes.
abbrev pub FitsShape : Shape → List ℕ → Type 0
FitsShape Name bytes = Unit {0}
FitsShape (Bytes n) bytes = length bytes ≡ n
FitsShape (Closed n) bytes = length bytes ≡ n
