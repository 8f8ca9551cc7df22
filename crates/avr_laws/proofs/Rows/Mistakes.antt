-- Known mistakes that the contracts of the lower crates refuse. Each row has a value that the mistake would change, and
-- names the clause that fixes this value.
use Rattle.std.proofs.Common.{◌≡◌, ℕ, List, [], ◌∷◌, ◌++◌, true, None, Some, Ok, Err, refl}
use Rattle.std.proofs.lemmas.Bool.{false≢true}
use Rattle.std.specs.Prelude.{codes}
use Rattle.avr_part.specs.BuiltIn.{m328p}
use Rattle.avr_part.specs.Instruction.{instruction_of}
use Rattle.avr_part.specs.State.{ChipState, after_instruction, fresh_state}
use Rattle.avr_part.specs.declared.instruction.Fuse.TheVariants.{High}
use Rattle.avr_part.specs.declared.instruction.Instruction.TheVariants.{Erase, ReadFuse, WriteEepromPage, WriteFlashPage}
use Rattle.avr_records.specs.Reading.{image_in_text, places}
use Rattle.avr_records.specs.Sparse.{image_text}
use Rattle.avr_records.specs.declared.fault.RecordFault.TheVariants.{BadCount, BadSum}
use Rattle.avr_records.specs.declared.kind.AddressBase.TheVariants.{Segment}
use Rattle.avr_records.specs.declared.kind.Ending.TheVariants.{Ended}
use Rattle.avr_records.specs.declared.kind.Kind.TheVariants.{Ihex, Srec}
use Rattle.hex.specs.Hex.{decode_pairs, encode_with}
use Rattle.stk_frame.specs.Cut.{frames}
use Rattle.stk_frame.specs.Frame.{frame}
use Rattle.stk_frame.specs.Reader.{EventMatchesHeld}
use Rattle.stk_frame.specs.declared.reader.Event.TheVariants.{Frame}
use Rattle.stk_host.specs.Tape.{on_tape}
use Rattle.stk_emu.specs.Emulator.{emulate}
use Rattle.stk_emu.specs.Lawful.{IsLawful}
use Rattle.stk_emu.specs.Programmer.{Programmer, execute, fresh_programmer}
use Rattle.stk_emu.specs.Waiting.{HasNoLeadingByte}

-- ---- frames

-- a bad header has five bytes, so no frame begins at its second byte (`fed` of stk_frame's `feed`)
pub bad_header_is_skipped : frames (0x1B ∷ 0x1B ∷ 0x01 ∷ 0x00 ∷ 0x01 ∷ 0x0E ∷ 0x01 ∷ 0x14 ∷ []) ≡ []
bad_header_is_skipped = refl

-- a frame with a wrong XOR is not good (`is_reported` of stk_frame's `feed`)
pub spoiled_is_not_good : EventMatchesHeld Frame (0x1B ∷ 0x01 ∷ 0x00 ∷ 0x01 ∷ 0x0E ∷ 0x01 ∷ 0x15 ∷ []) → ⊥
spoiled_is_not_good matches = false≢true matches.1

-- ---- the chip

-- two bytes of flash and of EEPROM, and a lock of FC
abbrev chip : ℕ → ChipState
chip hfuse = record (fresh_state m328p) {
  flash = 0xFF ∷ 0x0F ∷ [];
  eeprom = 0x12 ∷ 0x34 ∷ [];
  hfuse = hfuse;
  lock = 0xFC;
}

-- an erase keeps EEPROM if the EESAVE bit is 0, and clears the lock (avr_part's `execute`)
pub erase_keeps_eeprom : (after_instruction Erase (chip 0xD1)).eeprom ≡ 0x12 ∷ 0x34 ∷ []
erase_keeps_eeprom = refl

pub erase_clears_the_lock : (after_instruction Erase (chip 0xD9)).lock ≡ 0xFF
erase_clears_the_lock = refl

-- an open chip with bytes in its page buffers
abbrev buffered : ChipState
buffered = record (chip 0xD9) { lock = 0xFF; flash_buffer = 0xF0 ∷ 0xF1 ∷ []; eeprom_buffer = None ∷ Some 0xAA ∷ [] }

-- a write of flash clears bits, and sets none (avr_part's `execute`)
pub flash_takes_zeros : (after_instruction (WriteFlashPage 0) buffered).flash ≡ 0xF0 ∷ 0x01 ∷ []
flash_takes_zeros = refl

-- a write of EEPROM keeps the bytes that weren't loaded (avr_part's `execute`)
pub unloaded_eeprom_stays : (after_instruction (WriteEepromPage 0) buffered).eeprom ≡ 0x12 ∷ 0xAA ∷ []
unloaded_eeprom_stays = refl

-- a lock of FE has lock bit 0 at 0, so EEPROM stays (avr_part's `execute`)
pub locked_eeprom_stays : (after_instruction (WriteEepromPage 0) (record buffered { lock = 0xFE })).eeprom
    ≡ 0x12 ∷ 0x34 ∷ []
locked_eeprom_stays = refl

-- 58 08 reads the high fuse, and 50 08 the extended one (avr_part's `of`)
pub high_fuse_is_read : instruction_of (0x58 ∷ 0x08 ∷ 0x00 ∷ 0x00 ∷ []) ≡ ReadFuse High
high_fuse_is_read = refl

-- ---- record files

abbrev lf : List ℕ
lf = 10 ∷ []

abbrev end_line : List ℕ
end_line = lf ++ codes ":00000001FF" ++ lf

-- a line's sum, and a count of the data records (`value` of avr_records' `read_records`)
pub sum_is_checked : image_in_text Ihex (codes ":0100000041BF" ++ end_line) 2 ≡ Err (BadSum 1)
unfolding decode_pairs
sum_is_checked = refl

pub count_is_checked : image_in_text Srec (codes "S104000041BA" ++ lf ++ codes "S5030000FC" ++ lf) 2 ≡ Err (BadCount 2)
unfolding decode_pairs
count_is_checked = refl

-- the record in a second piece counts, and so does an FF at the end (`of_text` of avr_records' `finish`)
pub second_record_is_read : image_in_text Ihex (codes ":0100000041BE" ++ lf ++ codes ":0100010042BC" ++ end_line) 2
    ≡ Ok (Some 0x41 ∷ Some 0x42 ∷ [], Ended)
unfolding decode_pairs
second_record_is_read = refl

pub trailing_ff_is_kept : image_in_text Ihex (codes ":0200000041FFBE" ++ end_line) 2
    ≡ Ok (Some 0x41 ∷ Some 0xFF ∷ [], Ended)
unfolding decode_pairs
trailing_ff_is_kept = refl

-- the offset wraps within its segment (avr_records' `of_record`)
pub offset_wraps : places (Segment 0x1000) 0xFFFF (0x41 ∷ 0x42 ∷ []) ≡ (0x1FFFF, 0x41) ∷ (0x10000, 0x42) ∷ []
offset_wraps = refl

-- the end record comes after the last byte (`text` of avr_records' `new`)
pub end_record_is_last : image_text Ihex (Some 0x41 ∷ None ∷ Some 0x42 ∷ [])
    ≡ codes ":0100000041BE" ++ lf ++ codes ":0100020042BB" ++ end_line
unfolding encode_with
end_record_is_last = refl

-- ---- the emulator

-- the link isn't silent while a byte waits (`some` of stk_emu's `copy_to`)
pub waiting_byte_comes : HasNoLeadingByte (on_tape (0x1B ∷ [])) → ⊥
waiting_byte_comes none = none

abbrev in_mode : Programmer
in_mode = record (fresh_programmer (fresh_state m328p)) { mode = true }

-- what was replied OK was done (stk_emu's `execute`)
pub fuse_is_written : (execute (0x17 ∷ 0xAC ∷ 0xA0 ∷ 0x00 ∷ 0x62 ∷ []) in_mode).1.chip.lfuse ≡ 0x62
fuse_is_written = refl

-- each frame has its reply (`all` of stk_emu's `reply_to_all`)
pub each_frame_has_its_reply : emulate in_mode (frame 1 (0x04 ∷ []) ++ frame 2 (0x05 ∷ []))
    ≡ frame 1 (0x04 ∷ 0xC9 ∷ []) ++ frame 2 (0x05 ∷ 0xC9 ∷ [])
each_frame_has_its_reply = refl

-- noise has no good frame (`lawful` of stk_emu's `push`)
pub frame_is_no_noise : IsLawful (frame 1 (0x01 ∷ [])) → ⊥
frame_is_no_noise lawful = cc lawful.no_frame
