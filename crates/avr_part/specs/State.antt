-- The state of a chip, and what each instruction does to it.
use Rattle.std.specs.Prelude.{ℕ, Bool, ◌+◌, ◌*◌, ◌/◌, ◌%◌, ◌==◌, List, [], ◌∷◌, Option, Some, None, replicate, slice_index, slice_set, bit_and, if◌then◌else◌}
use Rattle.std.specs.Int.{bit_at}
use Rattle.avr_part.specs.Memory.{map_indexed_from, byte_and_page, overlaid_byte, blank, nothing_loaded, page_start}
use Rattle.avr_part.specs.Instruction.{instruction_of}
use Rattle.avr_part.specs.Part.{Part}
use Rattle.avr_part.specs.declared.part.Mem.{Mem}
use Rattle.avr_part.specs.declared.part.Mem.TheVariants.{Flash, Eeprom, Lfuse, Hfuse, Efuse, Lock, Signature, Calibration}
use Rattle.avr_part.specs.declared.instruction.Half.{Half}
use Rattle.avr_part.specs.declared.instruction.Half.TheVariants as half
use Rattle.avr_part.specs.declared.instruction.Fuse.{Fuse}
use Rattle.avr_part.specs.declared.instruction.Fuse.TheVariants as fuse
use Rattle.avr_part.specs.declared.instruction.Instruction.{Instruction}
use Rattle.avr_part.specs.declared.instruction.Instruction.TheVariants.{Enable, Erase, LoadFlash, WriteFlashPage, ReadFlash, ReadEeprom, WriteEeprom, LoadEeprom, WriteEepromPage, WriteFuse, WriteLock, ReadFuse, ReadLock, ReadSignature, ReadCalibration, Poll, Extend}

-- The memories and the page buffers. A gap in the EEPROM buffer is a place without a loaded byte.
pub record ChipState : Type 0 where
  pub part : Part
  pub flash : List ℕ
  pub eeprom : List ℕ
  pub lfuse : ℕ
  pub hfuse : ℕ
  pub efuse : ℕ
  pub lock : ℕ
  pub flash_buffer : List ℕ
  pub eeprom_buffer : List (Option ℕ)
  pub extended : ℕ

-- a chip whose memories are all FF and whose buffers are empty
abbrev pub fresh_state : Part → ChipState
fresh_state p = record {
  part = p;
  flash = replicate p.flash_size 255;
  eeprom = replicate p.eeprom_size 255;
  lfuse = 255;
  hfuse = 255;
  efuse = 255;
  lock = 255;
  flash_buffer = replicate p.flash_page 255;
  eeprom_buffer = replicate p.eeprom_page None;
  extended = 0;
}

-- Only the memories stay: FF in the flash buffer, nothing in the EEPROM buffer, extended address 0.
abbrev pub with_empty_buffers : ChipState → ChipState
with_empty_buffers s =
    record s { flash_buffer = blank s.flash_buffer; eeprom_buffer = nothing_loaded s.eeprom_buffer; extended = 0 }

-- if the EESAVE bit is 0, an erase keeps the EEPROM
abbrev pub with_erased : ChipState → ChipState
with_erased s =
    let eeprom = if bit_at s.hfuse s.part.eesave_bit == 0 then s.eeprom else blank s.eeprom in
    record s { flash = blank s.flash; lock = 255; eeprom = eeprom }

-- lock bit 0 is 0: only a chip erase changes flash and EEPROM, and nothing changes the fuses
abbrev pub is_locked : ChipState → Bool
is_locked s = bit_at s.lock 0 == 0

-- the place of a half in its word
abbrev pub half_offset : Half → ℕ
half_offset half.Low = 0
half_offset half.High = 1

-- the address of a word's low byte
abbrev pub word_address : ChipState → ℕ → ℕ
word_address s word = (s.extended * 65536 + word) % (s.part.flash_size / 2) * 2

-- addresses wrap around at the EEPROM's size
abbrev pub eeprom_address : ChipState → ℕ → ℕ
eeprom_address s address = address % s.part.eeprom_size

-- The page of this word becomes itself AND the flash buffer, unless the chip is locked. The buffer is FF afterwards.
abbrev pub with_flash_page : ℕ → ChipState → ChipState
with_flash_page word s = record s {
  flash = if is_locked s then s.flash
      else map_indexed_from 0 (byte_and_page (page_start s.part.flash_page (word_address s word))
      s.flash_buffer) s.flash;
  flash_buffer = blank s.flash_buffer;
}

-- The loaded bytes are written to their page of EEPROM, unless the chip is locked. The buffer is empty afterwards.
abbrev pub with_eeprom_page : ℕ → ChipState → ChipState
with_eeprom_page address s = record s {
  eeprom = if is_locked s then s.eeprom else map_indexed_from 0 (overlaid_byte
      (page_start s.part.eeprom_page (eeprom_address s address)) s.eeprom_buffer) s.eeprom;
  eeprom_buffer = nothing_loaded s.eeprom_buffer;
}

-- a fuse is written, unless the chip is locked
abbrev pub with_fuse : Fuse → ℕ → ChipState → ChipState
with_fuse fuse.Low byte s = record s { lfuse = if is_locked s then s.lfuse else byte }
with_fuse fuse.High byte s = record s { hfuse = if is_locked s then s.hfuse else byte }
with_fuse fuse.Extended byte s = record s { efuse = if is_locked s then s.efuse else byte }

-- a write only clears bits of the lock
abbrev pub with_lock : ℕ → ChipState → ChipState
with_lock byte s = record s { lock = bit_and s.lock byte }

-- the signature at places 0 to 2, FF at 3; places repeat after that
abbrev pub signature_byte : ℕ → ChipState → ℕ
signature_byte place s = if place % 4 == 3 then 255 else slice_index s.part.signature (place % 4)

-- the byte that an instruction reads, or its third byte if it reads none
abbrev pub output_byte : Instruction → ℕ → ChipState → ℕ
output_byte (ReadFlash h word) third s = slice_index s.flash (word_address s word + half_offset h)
output_byte (ReadEeprom address) third s = slice_index s.eeprom (eeprom_address s address)
output_byte (ReadFuse fuse.Low) third s = s.lfuse
output_byte (ReadFuse fuse.High) third s = s.hfuse
output_byte (ReadFuse fuse.Extended) third s = s.efuse
output_byte ReadLock third s = s.lock
output_byte (ReadSignature place) third s = signature_byte place s
output_byte ReadCalibration third s = 255
output_byte Poll third s = 0
output_byte i third s = third

-- The chip after an instruction; one that isn't here changes nothing. A byte is loaded at its place in the buffer.
-- A byte of EEPROM is written at its address, unless the chip is locked.
abbrev pub after_instruction : Instruction → ChipState → ChipState
after_instruction Enable s = with_empty_buffers s
after_instruction Erase s = with_erased s
after_instruction (LoadFlash h word byte) s =
    record s { flash_buffer = slice_set s.flash_buffer (word % (s.part.flash_page / 2) * 2 + half_offset h) byte }
after_instruction (WriteFlashPage word) s = with_flash_page word s
after_instruction (WriteEeprom address byte) s =
    record s { eeprom = if is_locked s then s.eeprom else slice_set s.eeprom (eeprom_address s address) byte }
after_instruction (LoadEeprom place byte) s =
    record s { eeprom_buffer = slice_set s.eeprom_buffer (place % s.part.eeprom_page) (Some byte) }
after_instruction (WriteEepromPage address) s = with_eeprom_page address s
after_instruction (WriteFuse f byte) s = with_fuse f byte s
after_instruction (WriteLock byte) s = with_lock byte s
after_instruction (Extend byte) s = record s { extended = byte }
after_instruction i s = s

-- the four bytes that an instruction of these bytes shifts out, and the chip after it
abbrev pub spi_of : List ℕ → ChipState → List ℕ × ChipState
spi_of x s =
    let i = instruction_of x in
    (0 ∷ slice_index x 0 ∷ slice_index x 1 ∷ output_byte i (slice_index x 2) s ∷ [], after_instruction i s)

-- the bytes of a memory; the calibration is FF
abbrev pub memory_of : Mem → ChipState → List ℕ
memory_of Flash s = s.flash
memory_of Eeprom s = s.eeprom
memory_of Lfuse s = s.lfuse ∷ []
memory_of Hfuse s = s.hfuse ∷ []
memory_of Efuse s = s.efuse ∷ []
memory_of Lock s = s.lock ∷ []
memory_of Signature s = s.part.signature
memory_of Calibration s = 255 ∷ []
