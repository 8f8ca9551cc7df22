-- Blocks, byte by byte.
use Rattle.std.proofs.Common.{true, ◌≡◌, ℕ, suc, ◌+◌, ◌<◌, Bool, List, [], ◌∷◌, ◌++◌, length, get_or, drop, refl, drop-cons, append_assoc, rules}
use Rattle.avr_part.specs.State.{ChipState, spi_of}
use Rattle.stk_emu.specs.Programmer.{Programmer, if_programming, with_address_moved, with_instructions, after_instructions, flash_loads, flash_reads, eeprom_reads, extension, at_address, for_half, word_at, byte_address}

pub sent-append : (xs ys : List (List ℕ)) (chip : ChipState) → after_instructions (xs ++ ys) chip
    ≡ after_instructions ys (after_instructions xs chip)
sent-append [] ys chip = refl
sent-append (x ∷ xs) ys chip = sent-append xs ys ((spi_of x chip).1)

module _ (wide : Bool) (cmd address i : ℕ) where
  pub flash_load : (bytes out : List ℕ) (chip after whole : ChipState) → i < length bytes
      → after_instructions (flash_loads wide cmd address i (drop i bytes)) chip ≡ whole
      → (out, after) ≡ spi_of (at_address (for_half cmd i) (word_at address i) (get_or bytes i 0))
      (after_instructions (extension wide (word_at address i)) chip)
      → after_instructions (flash_loads wide cmd address (i + 1) (drop (i + 1) bytes)) after ≡ whole
  flash_load bytes out chip after whole h so_far spi = search (rules, drop-cons, sent-append)

pub record LooksOn (before : List ℕ) (whole : List ℕ × ChipState) (out : List ℕ) (more : List ℕ × ChipState) : Type
    0 where
  pub bytes : out ++ more.0 ≡ before ++ whole.0
  pub chip : more.1 ≡ whole.1

-- one more byte was read: an instruction was sent, and its fourth output byte was appended
pub record PutsLook (x : List ℕ) (chip after : ChipState) (out new : List ℕ) : Type 0 where
  pub spi_out : List ℕ
  pub executed : (spi_out, after) ≡ spi_of x chip
  pub put : new ≡ out ++ get_or spi_out 3 0 ∷ []

module _ (before : List ℕ) (whole : List ℕ × ChipState) (cmd address i : ℕ) where
  pub flash_look : (wide : Bool) (n m : ℕ) (chip after : ChipState) (out new : List ℕ) → n ≡ suc m
      → LooksOn before whole out (flash_reads wide cmd address i n chip)
      → PutsLook (at_address (for_half cmd i) (word_at address i) 0)
      (after_instructions (extension wide (word_at address i)) chip) after out new
      → LooksOn before whole new (flash_reads wide cmd address (i + 1) m after)
  flash_look wide n m chip after out new e on p = search (rules, append_assoc)

  pub eeprom_look : (n m : ℕ) (chip after : ChipState) (out new : List ℕ) → n ≡ suc m
      → LooksOn before whole out (eeprom_reads cmd address i n chip)
      → PutsLook (at_address cmd (byte_address address i) 0) chip after out new
      → LooksOn before whole new (eeprom_reads cmd address (i + 1) m after)
  eeprom_look n m chip after out new e on p = search (rules, append_assoc)

-- A block was loaded, and written if that was requested.
pub block_done : (code moved : ℕ) (fits : Bool) (p new : Programmer) (loads writes : List (List ℕ))
    (loaded written : ChipState) (out : List ℕ) → p.mode ≡ true → fits ≡ true → loaded ≡ after_instructions loads p.chip
    → written ≡ after_instructions writes loaded → new ≡ with_address_moved moved (record p { chip = written })
    → out ≡ code ∷ 0 ∷ []
    → (out, new) ≡ if_programming code p fits
    (code ∷ 0 ∷ [], with_address_moved moved (with_instructions (loads ++ writes) p))
block_done code moved fits p new loads writes loaded written out mode fit load write is filled =
    search (rules, sent-append)
