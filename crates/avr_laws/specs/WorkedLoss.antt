-- A worked run over a bad link: `-p tiny -U flash:w:image.hex:i`, over a programmer whose chip was written before. The
-- first reply comes late, the programmer restarts after the second, the link damages the first PROGRAM_FLASH, and loses
-- the first READ_FLASH.
use Rattle.std.specs.Prelude.{ℕ, List, [], ◌∷◌, ◌++◌, None, Some, codes, true}
use Rattle.std.specs.List.{concat}
use Rattle.avr_plan.specs.declared.update.Update.{Update}
use Rattle.avr_plan.specs.declared.update.Format.TheVariants.{Ihex}
use Rattle.avr_plan.specs.declared.update.Op.TheVariants as op
use Rattle.avr_io.specs.Record.{Bytes, Record, nothing_kept}
use Rattle.avr_io.specs.declared.record.FileUse.TheVariants.{Opened}
use Rattle.avr_io.specs.declared.record.Opening.TheVariants.{Found}
use Rattle.avr_part.specs.Part.{Part}
use Rattle.avr_part.specs.State.{ChipState, fresh_state}
use Rattle.avr_part.specs.declared.part.Mem.TheVariants.{Flash}
use Rattle.avr_plan.specs.Plan.{Plan}
use Rattle.avr_plan.specs.declared.planned.Task.TheVariants.{Write}
use Rattle.avr_laws.specs.Worked.{worked_settings}
use Rattle.stk_emu.specs.Exchange.{Execution, NotExecuted, Executed, ThenRestarted}
use Rattle.stk_emu.specs.Programmer.{Programmer, fresh_programmer}
use Rattle.stk_frame.specs.Frame.{frame}
use Rattle.stk_host.specs.Tape.{Tape, on_tape}
use Rattle.stk_host.specs.declared.link.Item.TheVariants.{Silence}

-- A part with eight bytes of flash in two pages, and two of EEPROM.
abbrev pub loss_part : Part
loss_part = record {
  id = codes "tiny";
  signature = 0x1E ∷ 0x90 ∷ 0x07 ∷ [];
  flash_size = 8;
  flash_page = 4;
  eeprom_size = 2;
  eeprom_page = 2;
  eesave_bit = 3;
}

-- The chip file before the run, and the chip in it: the high fuse D9 has EESAVE at 1.
abbrev pub old_file : Bytes
old_file = 1 ∷ 2 ∷ 3 ∷ 4 ∷ 5 ∷ 6 ∷ 7 ∷ 8 ∷ 9 ∷ 10 ∷ 0x62 ∷ 0xD9 ∷ 0xFF ∷ 0xFF ∷ []

-- This is the chip in it.
abbrev pub old_chip : ChipState
old_chip = record (fresh_state loss_part) {
  flash = 1 ∷ 2 ∷ 3 ∷ 4 ∷ 5 ∷ 6 ∷ 7 ∷ 8 ∷ [];
  eeprom = 9 ∷ 10 ∷ [];
  lfuse = 0x62;
  hfuse = 0xD9;
}

-- The text of the image's file, and a record in which it was read.
abbrev pub image_text : Bytes
image_text = codes ":020000001234B8\n:00000001FF\n"

-- The file was opened, and read to its end.
abbrev pub image_read : Record
image_read = record nothing_kept {
  uses = Opened (Found (record { name = codes "image.hex"; bytes = image_text; ended = true })) ∷ [];
}

-- The update that names the file.
abbrev pub loss_updates : List Update
loss_updates = record { memory = Flash; op = op.Write; format = Ihex; file = codes "image.hex" } ∷ []

-- The image has two bytes.
abbrev pub loss_plan : Plan
loss_plan = record {
  part = loss_part;
  tasks = Write Flash (Some 0x12 ∷ Some 0x34 ∷ None ∷ None ∷ None ∷ None ∷ None ∷ None ∷ []) ∷ [];
  switches = worked_settings.switches;
}

-- ---- the commands, by their numbers

-- SIGN_ON.
abbrev sign_on : ℕ → List ℕ
sign_on n = frame n (0x01 ∷ [])

-- ENTER.
abbrev enter : ℕ → List ℕ
enter n = frame n (0x10 ∷ 0xC8 ∷ 0x64 ∷ 0x19 ∷ 0x20 ∷ 0x00 ∷ 0x53 ∷ 0x03 ∷ 0xAC ∷ 0x53 ∷ 0x00 ∷ 0x00 ∷ [])

-- A read of the signature's byte at this place.
abbrev read_signature : ℕ → ℕ → List ℕ
read_signature n place = frame n (0x1B ∷ 0x04 ∷ 0x30 ∷ 0x00 ∷ place ∷ 0x00 ∷ [])

-- An erase of the chip.
abbrev erase : ℕ → List ℕ
erase n = frame n (0x12 ∷ 0x09 ∷ 0x00 ∷ 0xAC ∷ 0x80 ∷ 0x00 ∷ 0x00 ∷ [])

-- LOAD_ADDRESS of address 0.
abbrev load_address : ℕ → List ℕ
load_address n = frame n (0x06 ∷ 0x00 ∷ 0x00 ∷ 0x00 ∷ 0x00 ∷ [])

-- PROGRAM_FLASH of one page.
abbrev program_flash : ℕ → List ℕ
program_flash n =
    frame n (0x13 ∷ 0x00 ∷ 0x04 ∷ 0xC1 ∷ 0x0A ∷ 0x40 ∷ 0x4C ∷ 0x20 ∷ 0xFF ∷ 0xFF ∷ 0x12 ∷ 0x34 ∷ 0xFF ∷ 0xFF ∷ [])

-- READ_FLASH of eight bytes.
abbrev read_flash : ℕ → List ℕ
read_flash n = frame n (0x14 ∷ 0x00 ∷ 0x08 ∷ 0x20 ∷ [])

-- LEAVE.
abbrev leave : ℕ → List ℕ
leave n = frame n (0x11 ∷ 0x01 ∷ 0x01 ∷ [])

-- The frames sent.
abbrev pub loss_frames : List (List ℕ)
loss_frames = sign_on 1 ∷ sign_on 2 ∷ enter 3 ∷ read_signature 4 0 ∷ read_signature 5 1 ∷ read_signature 6 2 ∷ erase 7
    ∷ load_address 8 ∷ program_flash 9 ∷ load_address 10 ∷ program_flash 11 ∷ load_address 12 ∷ read_flash 13
    ∷ load_address 14 ∷ read_flash 15 ∷ leave 16 ∷ []

-- What became of them: frame 9 was damaged, and frame 13 lost.
abbrev pub loss_executions : List Execution
loss_executions = Executed ∷ ThenRestarted Executed ∷ Executed ∷ Executed ∷ Executed ∷ Executed ∷ Executed ∷ Executed
    ∷ NotExecuted ∷ Executed ∷ Executed ∷ Executed ∷ NotExecuted ∷ Executed ∷ Executed ∷ Executed ∷ []

-- What the programmer received before its restart, and after it. Of frame 9 a byte of data is another.
abbrev pub received_first : List ℕ
received_first = sign_on 1 ++ sign_on 2

-- Frame 9 as it arrived: a byte of data is 52 in place of 12.
abbrev damaged : List ℕ
damaged = 0x1B ∷ 0x09 ∷ 0x00 ∷ 0x0E ∷ 0x0E ∷ 0x13 ∷ 0x00 ∷ 0x04 ∷ 0xC1 ∷ 0x0A ∷ 0x40 ∷ 0x4C ∷ 0x20 ∷ 0xFF ∷ 0xFF ∷ 0x52
    ∷ 0x34 ∷ 0xFF ∷ 0xFF ∷ 0xC4 ∷ []

-- The frames after the restart, without the lost one.
abbrev pub received_later : List ℕ
received_later = concat (enter 3 ∷ read_signature 4 0 ∷ read_signature 5 1 ∷ read_signature 6 2 ∷ erase 7
    ∷ load_address 8 ∷ damaged ∷ load_address 10 ∷ program_flash 11 ∷ load_address 12 ∷ load_address 14 ∷ read_flash 15
    ∷ leave 16 ∷ [])

-- ---- the replies

-- The reply to SIGN_ON: status 0, and the programmer's name.
abbrev name : ℕ → List ℕ
name n = frame n (0x01 ∷ 0x00 ∷ 0x08 ∷ codes "STK500_2")

-- The reply to a command that succeeded: its code, and status 0.
abbrev done : ℕ → ℕ → List ℕ
done n command = frame n (command ∷ 0x00 ∷ [])

-- The reply to a read of the signature: status 0, the byte, and status 0.
abbrev signature : ℕ → ℕ → List ℕ
signature n byte = frame n (0x1B ∷ 0x00 ∷ byte ∷ 0x00 ∷ [])

-- What the tool received: timeouts at frames 1 and 13, and a refusal of frame 9.
abbrev pub loss_replies : Tape
loss_replies = Silence ∷ on_tape (concat (name 1 ∷ name 2 ∷ done 3 0x10 ∷ signature 4 0x1E ∷ signature 5 0x90
    ∷ signature 6 0x07 ∷ done 7 0x12 ∷ done 8 0x06 ∷ frame 9 (0xB0 ∷ 0xC1 ∷ []) ∷ done 10 0x06 ∷ done 11 0x13
    ∷ done 12 0x06 ∷ [])) ++ Silence ∷ on_tape (concat (done 14 0x06
    ∷ frame 15 (0x14 ∷ 0x00 ∷ 0x12 ∷ 0x34 ∷ 0xFF ∷ 0xFF ∷ 0xFF ∷ 0xFF ∷ 0xFF ∷ 0xFF ∷ 0x00 ∷ []) ∷ done 16 0x11 ∷ []))

-- The programmer before the run.
abbrev pub loss_programmer : Programmer
loss_programmer = fresh_programmer old_chip
