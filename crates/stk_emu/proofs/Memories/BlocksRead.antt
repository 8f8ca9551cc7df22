-- Blocks that are read: the bytes, and the chip after them.
use Rattle.std.proofs.lemmas.Grind.{common_steps}
use Rattle.std.proofs.Common.{◌≡◌, ℕ, zero, suc, ◌+◌, ◌*◌, ◌/◌, ◌%◌, ◌≤◌, ◌<◌, List, [], ◌∷◌, length, get_or, take, drop, refl, ap, ◌∙◌, arith, Bool, false, cond, rules}
use Rattle.std.proofs.Math.Nat.{mod-eq_of_lt}
use Rattle.std.proofs.lemmas.Bool.{cond-false}
use Rattle.std.specs.Prelude.{slice_index}
use Rattle.avr_part.specs.State as chip
use Rattle.stk_emu.specs.Programmer.{after_instructions, extension, flash_reads, eeprom_reads, read_then, for_half, word_at, byte_address, at_address}
use Rattle.stk_emu.proofs.Memories.Pages.{extended_is}

-- the bytes read after an instruction whose output is known
pub look_by : (x : List ℕ) (s : chip.ChipState) {got : List ℕ × chip.ChipState}
    (more : chip.ChipState → List ℕ × chip.ChipState) → chip.spi_of x s ≡ got
    → read_then x s more ≡ (slice_index got.0 3 ∷ (more got.1).0, (more got.1).1)
look_by x s more e = ap (λ (z : List ℕ × chip.ChipState). (slice_index z.0 3 ∷ (more z.1).0, (more z.1).1)) e

pub look_byte : (i h lo : ℕ) (s : chip.ChipState) → chip.spi_of (for_half 0x20 i ∷ h ∷ lo ∷ 0 ∷ []) s ≡ (
  0 ∷ for_half 0x20 i ∷ h ∷ get_or s.flash
      ((s.extended * 65536 + (h * 256 + lo)) % (s.part.flash_size / 2) * 2 + i % 2) 0 ∷ [],
  s,
)
look_byte i h lo s = search rules

-- the bytes of a block, and the chip with some extended address
pub record BytesAndChip (wide : Bool) (j n : ℕ) (s : chip.ChipState) (looked : List ℕ × chip.ChipState) : Type 0 where
  pub bytes : looked.0 ≡ take n (drop j s.flash)
  pub value : ℕ
  pub kept : wide ≡ false → value ≡ s.extended
  pub is : looked.1 ≡ record s { extended = value }

-- the place of an address's byte
flash_place : (wide : Bool) (a i size : ℕ) (s : chip.ChipState) → s.part.flash_size ≡ size → a + i / 2 < 2147483648
    → a + i / 2 < 16777216 → a + i / 2 < size / 2 → (wide ≡ false → (s.extended ≡ 0) × (a + i / 2 < 65536))
    → (cond wide (word_at a i / 65536 % 256) s.extended * 65536 + (word_at a i / 256 % 256 * 256 + word_at a i % 256)) %
    (s.part.flash_size / 2) * 2 + i % 2 ≡ a * 2 + i
flash_place wide a i size s is few low_enough inside narrow = search (rules, mod-eq_of_lt)

pub flash_looked : (wide : Bool) (a i n size : ℕ) (s : chip.ChipState) → s.part.flash_size ≡ size
    → length s.flash ≡ size → size ≤ 262144 → size % 2 ≡ 0 → a * 2 + i + n ≤ size
    → (wide ≡ false → (s.extended ≡ 0) × (size ≤ 131072))
    → BytesAndChip wide (a * 2 + i) n s (flash_reads wide 0x20 a i n s)
flash_looked wide a i zero size s is long most even fits narrow =
    record { bytes = refl; value = s.extended; kept = λ e. refl; is = refl }
flash_looked wide a i (suc n) size s is long most even fits narrow =
    let s₁ : chip.ChipState = record s { extended = cond wide (word_at a i / 65536 % 256) s.extended } in
    let place = flash_place wide a i size s is (omega arith) (omega arith) (omega arith)
    (λ e. ((narrow e).0, (let l = (narrow e).1 in omega arith))) in
    let byte = get_or s.flash (a * 2 + i) 0 in
    let more : BytesAndChip wide (a * 2 + suc i) n s₁ (flash_reads wide 0x20 a (suc i) n s₁) =
    flash_looked wide a (suc i) n size s₁ is long most even (omega arith)
    (λ e. (cond-false wide (word_at a i / 65536 % 256) s.extended e ∙ (narrow e).0, (narrow e).1)) in
    let looks : flash_reads wide 0x20 a i (suc n) s
    ≡ (byte ∷ (flash_reads wide 0x20 a (suc i) n s₁).0, (flash_reads wide 0x20 a (suc i) n s₁).1) =
    search (rules, extended_is, look_byte, place) in grind (arith, common_steps)

eeprom_place : (a i size : ℕ) (s : chip.ChipState) → s.part.eeprom_size ≡ size → a + i < size → size ≤ 4096
    → (byte_address a i / 256 % 256 * 256 + byte_address a i % 256) % s.part.eeprom_size ≡ a + i
eeprom_place a i size s is inside most = search rules

pub eeprom_looked : (a i n size : ℕ) (s : chip.ChipState) → s.part.eeprom_size ≡ size → length s.eeprom ≡ size
    → size ≤ 4096 → a + i + n ≤ size → eeprom_reads 0xA0 a i n s ≡ (take n (drop (a + i) s.eeprom), s)
eeprom_looked a i zero size s is long most fits = refl
eeprom_looked a i (suc n) size s is long most fits =
    let place = eeprom_place a i size s is (omega arith) most in
    let more = eeprom_looked a (suc i) n size s is long most (omega arith) in
    grind (arith, common_steps)

-- reading changes only the extended address
pub record Left (wide : Bool) (s t : chip.ChipState) : Type 0 where
  pub value : ℕ
  pub kept : wide ≡ false → value ≡ s.extended
  pub is : t ≡ record s { extended = value }

pub flash_left : (wide : Bool) (a i n : ℕ) (s : chip.ChipState) → Left wide s (flash_reads wide 0x20 a i n s).1
flash_left wide a i zero s = record { value = s.extended; kept = λ e. refl; is = refl }
flash_left wide a i (suc n) s =
    let s₁ : chip.ChipState = record s { extended = cond wide (word_at a i / 65536 % 256) s.extended } in
    let more : Left wide s₁ (flash_reads wide 0x20 a (suc i) n s₁).1 = flash_left wide a (suc i) n s₁ in
    search (rules, extended_is, look_byte)

pub eeprom_left : (a i n : ℕ) (s : chip.ChipState) → (eeprom_reads 0xA0 a i n s).1 ≡ s
eeprom_left a i zero s = refl
eeprom_left a i (suc n) s = eeprom_left a (suc i) n s
