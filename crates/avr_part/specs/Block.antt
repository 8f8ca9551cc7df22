-- Blocks of flash: what instructions do one by one, for the low and then the high byte of each word.
use Rattle.std.specs.Prelude.{ℕ, Bool, true, false, zero, suc, ◌+◌, ◌*◌, ◌/◌, ◌%◌, ◌==◌, ◌&&◌, nat_le, List, [], ◌∷◌, length, Option, Some, None, if◌then◌else◌}
use Rattle.avr_part.specs.State.{ChipState, after_instruction, output_byte, word_address}
use Rattle.avr_part.specs.declared.instruction.Half.{Half}
use Rattle.avr_part.specs.declared.instruction.Half.TheVariants as half
use Rattle.avr_part.specs.declared.instruction.Instruction.TheVariants.{LoadFlash, ReadFlash}

-- whether byte i of a block is a low or a high one
abbrev pub half_at : ℕ → Half
half_at i = if i % 2 == 0 then half.Low else half.High

-- the chip after an instruction for each byte; the first is byte i of the block that begins at `word`
abbrev pub loaded_one_by_one : ℕ → ℕ → List ℕ → ChipState → ChipState
loaded_one_by_one word i [] s = s
loaded_one_by_one word i (b ∷ bytes) s =
    loaded_one_by_one word (suc i) bytes (after_instruction (LoadFlash (half_at i) ((word + i / 2) % 256) b) s)

-- a block of n bytes ends within the page that it begins in
abbrev pub is_in_page : ℕ → ℕ → ChipState → Bool
is_in_page word n s = nat_le (word % (s.part.flash_page / 2) * 2 + n) s.part.flash_page

-- `true` and the chip with the block loaded, or `false` and the same chip if the block isn't within one page
abbrev pub load_block : ℕ → List ℕ → ChipState → Bool × ChipState
load_block word bytes s =
    if is_in_page word (length bytes) s then (true, loaded_one_by_one word 0 bytes s) else (false, s)

-- what n instructions read; the first reads byte i of the block that begins at `word`
abbrev pub read_one_by_one : ℕ → ℕ → ℕ → ChipState → List ℕ
read_one_by_one word i zero s = []
read_one_by_one word i (suc n) s =
    output_byte (ReadFlash (half_at i) (word + i / 2)) 0 s ∷ read_one_by_one word (suc i) n s

-- a block of n bytes ends within one extended address and within flash
abbrev pub is_in_flash : ℕ → ℕ → ChipState → Bool
is_in_flash word n s = nat_le (word * 2 + n) 131072 && nat_le (word_address s word + n) s.part.flash_size

-- the bytes of the block at `word`, if it is in flash and within one extended address
abbrev pub flash_block : ℕ → ℕ → ChipState → Option (List ℕ)
flash_block word n s = if is_in_flash word n s then Some (read_one_by_one word 0 n s) else None
