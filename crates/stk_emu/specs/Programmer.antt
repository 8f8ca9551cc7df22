-- The programmer, and what each command does.
use Rattle.std.specs.Prelude.{ℕ, Bool, true, false, zero, suc, List, [], ◌∷◌, ◌++◌, ◌+◌, ◌-◌, ◌/◌, ◌%◌, length, ◌==◌, ◌&&◌, ◌||◌, not, nat_le, nat_lt, if◌then◌else◌, slice_index, slice_set, bit_or, take, drop, replicate}
use Rattle.std.specs.Int.{bit_at}
use Rattle.std.specs.Option.{option_map_or}
use Rattle.avr_part.specs.State.{ChipState, spi_of, with_empty_buffers}
use Rattle.stk_frame.specs.declared.command.Command.{Command}
use Rattle.stk_frame.specs.declared.command.Command.TheVariants.{SignOn, SetParameter, GetParameter, LoadAddress, EnterProgmode, LeaveProgmode, ChipErase, ProgramFlash, ReadFlash, ProgramEeprom, ReadEeprom, ProgramFuse, ReadFuse, ProgramLock, ReadLock, ReadSignature, ReadOsccal, SpiMulti}
use Rattle.stk_frame.specs.declared.command.EnterProgmode.{EnterProgmode as EnterFields}
use Rattle.stk_frame.specs.declared.command.ProgramBlock.{ProgramBlock}
use Rattle.stk_frame.specs.declared.command.ReadBlock.{ReadBlock}
use Rattle.stk_frame.specs.declared.command.ReadByte.{ReadByte}
use Rattle.stk_frame.specs.declared.protocol.TheConstants.{EXTENDED_ADDRESS}
use Rattle.stk_frame.specs.Decoding.{command_of}
use Rattle.stk_emu.specs.declared.programmer.TheConstants.{LARGEST_READ}

-- The state of the emulated programmer.
pub record Programmer : Type 0 where
  -- whether it is in programming mode
  pub mode : Bool
  -- 31 bits
  pub address : ℕ
  -- whether the extended address is sent before instructions for flash
  pub wide : Bool
  pub parameters : List ℕ
  pub chip : ChipState

-- At power-on it is outside programming mode, and its address and parameters are 0.
abbrev pub fresh_programmer : ChipState → Programmer
fresh_programmer chip = record { mode = false; address = 0; wide = false; parameters = replicate 256 0; chip = chip }

-- A restart keeps the memories of the part and loses all else, the page buffers too.
abbrev pub restarted_programmer : Programmer → Programmer
restarted_programmer p = fresh_programmer (with_empty_buffers p.chip)

-- The body of a reply, and the programmer after the command.
abbrev pub Response : Type 0
Response = List ℕ × Programmer

-- A command fails outside programming mode, or if its fields don't fit. Then it changes nothing.
abbrev pub if_programming : ℕ → Programmer → Bool → Response → Response
if_programming code p fits done =
    let failed : Response = (code ∷ 0xC0 ∷ [], p) in
    if p.mode then (if fits then done else failed) else failed

-- The chip after these instructions; below, the programmer.
abbrev pub after_instructions : List (List ℕ) → ChipState → ChipState
after_instructions [] chip = chip
after_instructions (x ∷ xs) chip = after_instructions xs ((spi_of x chip).1)

abbrev pub with_instructions : List (List ℕ) → Programmer → Programmer
with_instructions xs p = record p { chip = after_instructions xs p.chip }

-- A block moves the address past what it covers. Addresses have 31 bits.
abbrev pub with_address_moved : ℕ → Programmer → Programmer
with_address_moved count p = record p { address = (p.address + count) % EXTENDED_ADDRESS }

-- An instruction with this first byte, bits 15 to 8 and 7 to 0 of this address, and this last byte.
abbrev pub at_address : ℕ → ℕ → ℕ → List ℕ
at_address cmd address byte = cmd ∷ address / 256 % 256 ∷ address % 256 ∷ byte ∷ []

-- The instruction sent before one for flash, if the extended address is used.
abbrev pub extension : Bool → ℕ → List (List ℕ)
extension wide address = if wide then (0x4D ∷ 0 ∷ (address / 65536 % 256) ∷ 0 ∷ []) ∷ [] else []

-- The first byte of the instruction for byte `i` of a block: bit 3 is set for the high byte of a word.
abbrev pub for_half : ℕ → ℕ → ℕ
for_half cmd i = if i % 2 == 0 then cmd else bit_or cmd 8

-- The address of byte `i` after the command's address: of its word in flash, of the byte itself in EEPROM.
abbrev pub word_at : ℕ → ℕ → ℕ
word_at address i = (address + i / 2) % EXTENDED_ADDRESS

abbrev pub byte_address : ℕ → ℕ → ℕ
byte_address address i = (address + i) % EXTENDED_ADDRESS

-- The reply, and whether programming mode is entered.
abbrev pub enter_response : Bool → Programmer → Response
enter_response ok p = (0x10 ∷ (if ok then 0 else 0xC0) ∷ [], record p { mode = ok })

-- Programming mode is entered if the polled output byte has the wanted value. Poll index 0 polls nothing.
abbrev pub enter_progmode : EnterFields → Programmer → Response
enter_progmode f p =
    if nat_lt 4 f.poll_index then enter_response false p
    else enter_response
    (f.poll_index == 0 || slice_index (spi_of f.instruction p.chip).0 (f.poll_index - 1) == f.poll_value)
    (with_instructions (f.instruction ∷ []) p)

-- Writes a fuse or the lock by this instruction.
abbrev pub program_byte : ℕ → List ℕ → Programmer → Response
program_byte code instruction p = if_programming code p true (code ∷ 0 ∷ 0 ∷ [], with_instructions (instruction ∷ []) p)

-- Reads a fuse, the lock, a signature byte or the calibration.
abbrev pub read_byte : ℕ → ReadByte → Programmer → Response
read_byte code f p =
    if_programming code p (nat_le 1 f.return_address && nat_le f.return_address 4) (
      code ∷ 0 ∷ slice_index (spi_of f.instruction p.chip).0 (f.return_address - 1) ∷ 0 ∷ [],
      with_instructions (f.instruction ∷ []) p,
    )

-- The instructions that load these bytes into the page buffer, from byte `i` of a block on.
abbrev pub flash_loads : Bool → ℕ → ℕ → ℕ → List ℕ → List (List ℕ)
flash_loads wide cmd address i [] = []
flash_loads wide cmd address i (b ∷ bytes) =
    extension wide (word_at address i)
    ++ (at_address (for_half cmd i) (word_at address i) b ∷ flash_loads wide cmd address (suc i) bytes)

-- The instructions that write the page, if that is asked for. EEPROM has no extended address.
abbrev pub page_writes : Bool → ℕ → ℕ → Bool → List (List ℕ)
page_writes wide cmd address written =
    if written then extension wide address ++ (at_address cmd address 0 ∷ []) else []

-- Bit 0 asks for page mode, bit 7 for writing the page.
abbrev pub is_paged : ProgramBlock → Bool
is_paged f = bit_at f.mode 0 == 1

abbrev pub is_written : ProgramBlock → Bool
is_written f = bit_at f.mode 7 == 1

-- Loads a block of flash into the page buffer, and writes the page if asked. It fails without page mode, or if the
-- count is 0, odd or not that of the bytes.
abbrev pub program_flash : ProgramBlock → Programmer → Response
program_flash f p =
    if_programming 0x13 p (not (f.count == 0) && f.count % 2 == 0 && f.count == length f.bytes && is_paged f) (
      0x13 ∷ 0 ∷ [],
      with_address_moved (f.count / 2) (with_instructions
          (flash_loads p.wide f.cmd1 p.address 0 f.bytes ++ page_writes p.wide f.cmd2 p.address (is_written f)) p),
    )

-- The instructions that take these bytes to EEPROM or its page buffer, from byte `i` of a block on.
abbrev pub eeprom_loads : ℕ → ℕ → ℕ → List ℕ → List (List ℕ)
eeprom_loads cmd address i [] = []
eeprom_loads cmd address i (b ∷ bytes) = at_address cmd (byte_address address i) b
    ∷ eeprom_loads cmd address (suc i) bytes

-- Sends the first instruction with each byte of a block of EEPROM. In page mode it then writes the page if asked.
abbrev pub program_eeprom : ProgramBlock → Programmer → Response
program_eeprom f p =
    if_programming 0x15 p (not (f.count == 0) && f.count == length f.bytes) (
      0x15 ∷ 0 ∷ [],
      with_address_moved f.count (with_instructions (eeprom_loads f.cmd1 p.address 0 f.bytes
          ++ page_writes false f.cmd2 p.address (is_paged f && is_written f)) p),
    )

-- The fourth output byte of an instruction, and then what is read from the chip after it; and the chip after that.
abbrev pub read_then : List ℕ → ChipState → (ChipState → List ℕ × ChipState) → List ℕ × ChipState
read_then x chip more = (slice_index (spi_of x chip).0 3 ∷ (more (spi_of x chip).1).0, (more (spi_of x chip).1).1)

-- The bytes of flash from byte `i` of a block on; below, of EEPROM.
abbrev pub flash_reads : Bool → ℕ → ℕ → ℕ → ℕ → ChipState → List ℕ × ChipState
flash_reads wide cmd address i zero chip = ([], chip)
flash_reads wide cmd address i (suc n) chip =
    read_then (at_address (for_half cmd i) (word_at address i) 0)
    (after_instructions (extension wide (word_at address i)) chip) (flash_reads wide cmd address (suc i) n)

abbrev pub eeprom_reads : ℕ → ℕ → ℕ → ℕ → ChipState → List ℕ × ChipState
eeprom_reads cmd address i zero chip = ([], chip)
eeprom_reads cmd address i (suc n) chip =
    read_then (at_address cmd (byte_address address i) 0) chip (eeprom_reads cmd address (suc i) n)

-- The reply with the bytes of a block.
abbrev pub block_response : ℕ → List ℕ × ChipState → Programmer → Response
block_response code read p = (code ∷ 0 ∷ (read.0 ++ 0 ∷ []), record p { chip = read.1 })

-- Reads a block of flash. A count that is 0, odd or too large fails.
abbrev pub read_flash : ReadBlock → Programmer → Response
read_flash f p =
    if_programming 0x14 p (not (f.count == 0) && f.count % 2 == 0 && nat_le f.count LARGEST_READ)
    (block_response 0x14 (flash_reads p.wide f.cmd1 p.address 0 f.count p.chip) (with_address_moved (f.count / 2) p))

-- Reads a block of EEPROM. A count that is 0 or too large fails.
abbrev pub read_eeprom : ReadBlock → Programmer → Response
read_eeprom f p =
    if_programming 0x16 p (not (f.count == 0) && nat_le f.count LARGEST_READ)
    (block_response 0x16 (eeprom_reads f.cmd1 p.address 0 f.count p.chip) (with_address_moved f.count p))

-- Sends one instruction of four bytes, and returns some of the bytes that it shifts out.
abbrev pub spi_multi : ℕ → ℕ → ℕ → List ℕ → Programmer → Response
spi_multi send_count receive_count receive_start bytes p =
    if_programming 0x1D p (send_count == 4 && length bytes == 4 && nat_le (receive_start + receive_count) 4) (
      0x1D ∷ 0 ∷ (take receive_count (drop receive_start (spi_of bytes p.chip).0) ++ 0 ∷ []),
      with_instructions (bytes ∷ []) p,
    )

-- What each command does. Bit 31 of a loaded address asks for the extended address.
abbrev pub execute_command : Command → Programmer → Response
execute_command SignOn p = (0x01 ∷ 0 ∷ 8 ∷ 0x53 ∷ 0x54 ∷ 0x4B ∷ 0x35 ∷ 0x30 ∷ 0x30 ∷ 0x5F ∷ 0x32 ∷ [], p)
execute_command (SetParameter number value) p =
    (0x02 ∷ 0 ∷ [], record p { parameters = slice_set p.parameters number value })
execute_command (GetParameter number) p = (0x03 ∷ 0 ∷ slice_index p.parameters number ∷ [], p)
execute_command (LoadAddress address) p =
    (0x06 ∷ 0 ∷ [], record p { address = address % EXTENDED_ADDRESS; wide = nat_le EXTENDED_ADDRESS address })
execute_command (EnterProgmode f) p = enter_progmode f p
execute_command (LeaveProgmode pre_delay post_delay) p = (0x11 ∷ 0 ∷ [], record p { mode = false })
execute_command (ChipErase erase_delay poll_method instruction) p =
    if_programming 0x12 p true (0x12 ∷ 0 ∷ [], with_instructions (instruction ∷ []) p)
execute_command (ProgramFlash f) p = program_flash f p
execute_command (ReadFlash f) p = read_flash f p
execute_command (ProgramEeprom f) p = program_eeprom f p
execute_command (ReadEeprom f) p = read_eeprom f p
execute_command (ProgramFuse instruction) p = program_byte 0x17 instruction p
execute_command (ReadFuse f) p = read_byte 0x18 f p
execute_command (ProgramLock instruction) p = program_byte 0x19 instruction p
execute_command (ReadLock f) p = read_byte 0x1A f p
execute_command (ReadSignature f) p = read_byte 0x1B f p
execute_command (ReadOsccal f) p = read_byte 0x1C f p
execute_command (SpiMulti send_count receive_count receive_start bytes) p =
    spi_multi send_count receive_count receive_start bytes p

-- The byte is the code of a command.
abbrev pub is_known : ℕ → Bool
is_known code = nat_le 0x01 code && nat_le code 0x03 || code == 0x06 || nat_le 0x10 code && nat_le code 0x1D

-- The programmer's reply to the body of a frame, and the programmer after it. A body that is no command fails if its
-- first byte is a command's, and is unknown otherwise.
abbrev pub execute : List ℕ → Programmer → Response
execute bytes p =
    option_map_or (λ command. execute_command command p) (command_of bytes)
    (slice_index bytes 0 ∷ (if is_known (slice_index bytes 0) then 0xC0 else 0xC9) ∷ [], p)
