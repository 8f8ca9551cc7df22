-- What removing a byte does to the stored fields.
use Rattle.std.proofs.lemmas.Bool.Decides.{nat_tests}
use Rattle.std.proofs.Common.{◌≡◌, ◌≢◌, ◌∙◌, sym, ap, refl, arith, ℕ, suc, zero, ◌*◌, ◌/◌, ◌%◌, ◌^◌, ◌-◌, ◌<◌, ◌≤◌, List, [], ◌∷◌, length, get_or, set, false, eqb, Option, None, bit_and, inl, inr, w64, rules}
use Rattle.std.proofs.lemmas.Bool.{cases_eq}
use Rattle.std.proofs.lemmas.List.{get_or-set_same, get_or-set_other, length-set}
use Rattle.std.proofs.lemmas.Nat.Bits.{bit_at_clear_same, bit_at_clear_other}
use Rattle.avr_image.specs.Present.{is_present, without_mark}
use Rattle.avr_image.specs.Dense.{dense_image}
use Rattle.avr_image.proofs.Fields.Shown.{same_by_address, length_shown, byte_at_shown}

-- an address whose mark is cleared isn't present
pub cleared_same : (words : List ℕ) (a : ℕ) → a / 64 < length words → is_present (without_mark words a) a ≡ false
cleared_same words a within =
    let here = get_or-set_same words (a / 64)
    (bit_and (get_or words (a / 64) 0) (2 ^ 64 - 1 - 1 * 2 ^ (a % 64) % 2 ^ 64)) 0 within in
    rw here (ap (λ (n : ℕ). eqb n 1) (bit_at_clear_same w64 (get_or words (a / 64) 0) (a % 64) (omega arith)))

-- other addresses stay as they were
pub cleared_other : (words : List ℕ) (a i : ℕ) → a / 64 < length words → i ≢ a
    → is_present (without_mark words a) i ≡ is_present words i
cleared_other words a i within other =
    elim (cases_eq (i / 64) (a / 64)) [
      | inl same ↦
          let here = get_or-set_same words (a / 64)
          (bit_and (get_or words (a / 64) 0) (2 ^ 64 - 1 - 1 * 2 ^ (a % 64) % 2 ^ 64)) 0 within in
          rw (same, here) (ap (λ (n : ℕ). eqb n 1)
          (bit_at_clear_other w64 (get_or words (a / 64) 0) (a % 64) (omega arith) (i % 64) (omega arith)
          (λ e. other (omega (arith, e, same)))))
      | inr differ ↦ rw (get_or-set_other words (a / 64) (i / 64)
          (bit_and (get_or words (a / 64) 0) (2 ^ 64 - 1 - 1 * 2 ^ (a % 64) % 2 ^ 64)) 0 differ) refl
    ]

-- a byte whose mark is cleared is removed from the image
pub shown_removed : (words bytes : List ℕ) (a : ℕ) → a < length bytes → a / 64 < length words
    → dense_image (without_mark words a) (set bytes a 255) ≡ set (dense_image words bytes) a None
shown_removed words bytes a l within =
    let len-left = length_shown (without_mark words a) (set bytes a 255) ∙ length-set bytes a 255 in
    let len-right = length-set (dense_image words bytes) a None ∙ length_shown words bytes in
    same_by_address _ _ (len-left ∙ sym len-right) (λ i j.
    let in-bytes : i < length bytes = omega (arith, j, len-right) in
    let left = byte_at_shown (without_mark words a) (set bytes a 255) i
    (omega (arith, in-bytes, length-set bytes a 255)) in
    search (rules, cleared_same, length_shown, cleared_other, get_or-set_other, byte_at_shown))

-- FF stays at addresses without a byte
pub blank_removed : (words bytes : List ℕ) (a : ℕ) → a < length bytes → a / 64 < length words
    → ((i : ℕ) → i < length bytes → is_present words i ≡ false → get_or bytes i 0 ≡ 255) → (i : ℕ)
    → i < length (set bytes a 255) → is_present (without_mark words a) i ≡ false → get_or (set bytes a 255) i 0 ≡ 255
blank_removed words bytes a l within blank i j none =
    grind (arith, nat_tests, get_or-set_same, get_or-set_other, length-set, cleared_other)

-- outside the memory nothing is removed
pub removed_past : (image : List (Option ℕ)) (a : ℕ) → length image ≤ a → image ≡ set image a None
removed_past [] a l = refl
removed_past (b ∷ bs) zero l = absurd (omega (arith, l))
removed_past (b ∷ bs) (suc a) l = ap (λ (zs : List (Option ℕ)). b ∷ zs) (removed_past bs a (omega (arith, l)))
