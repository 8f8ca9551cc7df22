-- Repeating a change of a chip changes nothing more.
use Rattle.std.proofs.lemmas.Grind.{common_steps}
use Rattle.std.proofs.Common.{◌≡◌, refl, ap₂, ℕ, suc, List, [], ◌∷◌, rules, arith}
use Rattle.std.proofs.lemmas.List.{length-replicate}
use Rattle.std.proofs.lemmas.Nat.{and_assoc}
use Rattle.avr_part.specs.declared.instruction.Fuse.{Fuse}
use Rattle.avr_part.specs.Memory.{map_indexed_from, byte_and_page}
use Rattle.avr_part.specs.State.{ChipState, with_erased, with_flash_page, with_eeprom_page, with_fuse, with_lock}

-- erasing twice is erasing once
pub erased_twice : (s : ChipState) → with_erased (with_erased s) ≡ with_erased s
erased_twice s = search (rules, length-replicate)

-- if a change of an item changes nothing the second time, so does the change of a list
changed_changed : (k : ℕ) (f : ℕ → ℕ → ℕ) (xs : List ℕ) → ((i x : ℕ) → f i (f i x) ≡ f i x)
    → map_indexed_from k f (map_indexed_from k f xs) ≡ map_indexed_from k f xs
changed_changed k f [] each = refl
changed_changed k f (x ∷ xs) each = ap₂ (λ (z : ℕ) (zs : List ℕ). z ∷ zs) (each k x) (changed_changed (suc k) f xs each)

-- bits that are cleared stay so when they are cleared again
anded_anded : (start : ℕ) (page : List ℕ) (i x : ℕ)
    → byte_and_page start page i (byte_and_page start page i x) ≡ byte_and_page start page i x
anded_anded start page i x = grind (arith, common_steps, and_assoc)

-- writing the same page of flash twice is writing it once
pub flash_page_twice : (word : ℕ) (s : ChipState)
    → with_flash_page word (record (with_flash_page word s) { flash_buffer = s.flash_buffer }) ≡ with_flash_page word s
flash_page_twice word s = search (rules, changed_changed, anded_anded)

-- writing the same page of EEPROM twice is writing it once
pub eeprom_page_twice : (address : ℕ) (s : ChipState)
    → with_eeprom_page address (record (with_eeprom_page address s) { eeprom_buffer = s.eeprom_buffer })
    ≡ with_eeprom_page address s
eeprom_page_twice address s = search (rules, changed_changed)

-- so with a fuse
pub fuse_twice : (f : Fuse) (byte : ℕ) (s : ChipState) → with_fuse f byte (with_fuse f byte s) ≡ with_fuse f byte s
fuse_twice f byte s = search rules

-- so with the lock byte
pub lock_twice : (byte : ℕ) (s : ChipState) → with_lock byte (with_lock byte s) ≡ with_lock byte s
lock_twice byte s = grind (arith, common_steps, and_assoc)
