-- A chip file reads back, and is written again as it was.
use Rattle.std.proofs.lemmas.Grind.{common_steps}
use Rattle.std.proofs.Common.{◌≡◌, ◌∙◌, ap, arith, ℕ, ◌+◌, List, [], ◌∷◌, ◌++◌, length, take, drop, get_or, Ok, length-append, append_assoc, rules}
use Rattle.std.proofs.lemmas.List.{get_or-drop, length-drop, take-append-drop, take_at, drop_at, get_or-append-add}
use Rattle.avr_part.specs.Part.{Part}
use Rattle.avr_part.specs.State.{ChipState, with_empty_buffers}
use Rattle.avr_part.specs.Sound.{IsSoundChip}
use Rattle.avr_part.specs.ChipFile.{chip_file, chip_file_size, chip_from_file, state_from_file}

-- three lists in a row, taken apart
pub flash_part : (flash eeprom fuses : List ℕ) (n : ℕ) → length flash ≡ n → take n (flash ++ eeprom ++ fuses) ≡ flash
flash_part flash eeprom fuses n e = ap (take n) (append_assoc flash eeprom fuses) ∙ take_at flash (eeprom ++ fuses) n e

-- then EEPROM
pub eeprom_part : (flash eeprom fuses : List ℕ) (n m : ℕ) → length flash ≡ n → length eeprom ≡ m
    → take m (drop n (flash ++ eeprom ++ fuses)) ≡ eeprom
eeprom_part flash eeprom fuses n m e f = search (rules, append_assoc, drop_at, take_at)

-- then the fuses and the lock byte
pub fuse_part : (flash eeprom fuses : List ℕ) (at k : ℕ) → at ≡ length flash + length eeprom + k
    → get_or (flash ++ eeprom ++ fuses) at 0 ≡ get_or fuses k 0
fuse_part flash eeprom fuses at k e = search (rules, length-append, get_or-append-add)

-- a chip's own file gives a chip with the same memories and empty buffers
pub read_again : (s : ChipState) → IsSoundChip s → chip_from_file s.part (chip_file s) ≡ Ok (with_empty_buffers s)
read_again s sound =
    let fuses = s.lfuse ∷ s.hfuse ∷ s.efuse ∷ s.lock ∷ [] in
    let flash_size = sound.flash_size in
    let eeprom_size = sound.eeprom_size in
    let at = s.part.flash_size + s.part.eeprom_size in
    let flash = flash_part s.flash s.eeprom fuses s.part.flash_size flash_size in
    let eeprom = eeprom_part s.flash s.eeprom fuses s.part.flash_size s.part.eeprom_size flash_size eeprom_size in
    let lfuse = fuse_part s.flash s.eeprom fuses at 0 (omega arith) in
    let hfuse = fuse_part s.flash s.eeprom fuses (at + 1) 1 (omega arith) in
    let efuse = fuse_part s.flash s.eeprom fuses (at + 2) 2 (omega arith) in
    let lock = fuse_part s.flash s.eeprom fuses (at + 3) 3 (omega arith) in
    search (rules, length-append)

-- four bytes are these four
four_bytes : (xs : List ℕ) → length xs ≡ 4 → xs ≡ get_or xs 0 0 ∷ get_or xs 1 0 ∷ get_or xs 2 0 ∷ get_or xs 3 0 ∷ []
four_bytes xs e = grind (arith, common_steps)

-- a chip made from a file has this file
pub written_again : (p : Part) (bytes : List ℕ) → length bytes ≡ chip_file_size p → chip_file (state_from_file p bytes)
    ≡ bytes
written_again p bytes e =
    let n = p.flash_size in
    let m = p.eeprom_size in
    let rest = drop n bytes in
    let fuses = drop m rest in
    let at : (k : ℕ) → get_or bytes (n + m + k) 0 ≡ get_or fuses k 0 =
    search (rules, get_or-drop) in
    let first : get_or bytes (n + m) 0 ≡ get_or fuses 0 0 = ap (λ (i : ℕ). get_or bytes i 0) (omega arith) ∙ at 0 in
    search (rules, length-drop, four_bytes, append_assoc, take-append-drop)
