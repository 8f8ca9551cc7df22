-- The serial programming instructions, by the table of the part's data sheet.
use Rattle.std.specs.Prelude.{ℕ, ◌==◌, ◌&&◌, ◌+◌, ◌*◌, List, if◌then◌else◌, slice_index}
use Rattle.avr_part.specs.declared.instruction.Half.TheVariants as half
use Rattle.avr_part.specs.declared.instruction.Fuse.TheVariants as fuse
use Rattle.avr_part.specs.declared.instruction.Instruction.{Instruction}
use Rattle.avr_part.specs.declared.instruction.Instruction.TheVariants.{Enable, Erase, LoadFlash, WriteFlashPage, ReadFlash, ReadEeprom, WriteEeprom, LoadEeprom, WriteEepromPage, WriteFuse, WriteLock, ReadFuse, ReadLock, ReadSignature, ReadCalibration, Poll, Extend, Nothing}

-- the instruction of four bytes; any others are `Nothing`
abbrev pub instruction_of : List ℕ → Instruction
instruction_of x =
    let a = slice_index x 0 in
    let b = slice_index x 1 in
    let c = slice_index x 2 in
    let d = slice_index x 3 in
    if a == 0xAC && b == 0x53 then Enable
    else if a == 0xAC && b == 0x80 then Erase
    else if a == 0xAC && b == 0xA0 then WriteFuse fuse.Low d
    else if a == 0xAC && b == 0xA8 then WriteFuse fuse.High d
    else if a == 0xAC && b == 0xA4 then WriteFuse fuse.Extended d
    else if a == 0xAC && b == 0xE0 then WriteLock d
    else if a == 0x40 then LoadFlash half.Low c d
    else if a == 0x48 then LoadFlash half.High c d
    else if a == 0x4C then WriteFlashPage (b * 256 + c)
    else if a == 0x20 then ReadFlash half.Low (b * 256 + c)
    else if a == 0x28 then ReadFlash half.High (b * 256 + c)
    else if a == 0xA0 then ReadEeprom (b * 256 + c)
    else if a == 0xC0 then WriteEeprom (b * 256 + c) d
    else if a == 0xC1 then LoadEeprom c d
    else if a == 0xC2 then WriteEepromPage (b * 256 + c)
    else if a == 0x30 then ReadSignature c
    else if a == 0x38 then ReadCalibration
    else if a == 0xF0 then Poll
    else if a == 0x4D then Extend c
    else if a == 0x50 && b == 0x00 then ReadFuse fuse.Low
    else if a == 0x58 && b == 0x08 then ReadFuse fuse.High
    else if a == 0x50 && b == 0x08 then ReadFuse fuse.Extended
    else if a == 0x58 && b == 0x00 then ReadLock
    else Nothing
