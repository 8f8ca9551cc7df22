-- Texts that are cut at a colon or after a prefix.
use Rattle.std.proofs.Common.{◌≡◌, ◌==◌, ◌&&◌, ◌++◌, inl, inr, refl, ap, Bool, ℕ, zero, suc, [], ◌∷◌, length, rules, arith, Option, Some, None, take, get_or, slice_index, ◌-◌, nat_le}
use Rattle.std.specs.Prelude.{if◌then◌else◌}
use Rattle.std.proofs.lemmas.Bool.{cases_Bool, and_parts}
use Rattle.std.proofs.lemmas.Bool.Decides.{nat_tests}
use Rattle.avr_part.specs.PartFile.{Bytes}
use Rattle.avr_plan.proofs.UpdatesReread.{file_and_letter-append}
use Rattle.avr_plan.specs.Split.{after_prefix, colon, split_first, split_last}
use Rattle.avr_plan.specs.Update.{file_and_letter}

-- what follows a prefix
pub prefix_cut : (ps text rest : Bytes) → after_prefix ps text ≡ Some rest → text ≡ ps ++ rest
prefix_cut [] text rest is = cc is
prefix_cut (p ∷ ps) [] rest is = absurd (cc is)
prefix_cut (p ∷ ps) (c ∷ cs) rest is = search (rules, nat_tests, cases_Bool, prefix_cut ps cs rest)

-- a text that is cut at its first colon
pub first_cut : (text before after : Bytes) → split_first text ≡ Some (before, after) → text ≡ before ++ colon ∷ after
first_cut [] before after is = absurd (cc is)
first_cut (c ∷ cs) before after is = search (rules, nat_tests, cases_Bool, first_cut cs)

-- a text that is cut at its last colon
pub last_cut : (text before after : Bytes) → split_last text ≡ Some (before, after) → text ≡ before ++ colon ∷ after
last_cut [] before after is = absurd (cc is)
last_cut (c ∷ cs) before after is = search (rules, nat_tests, cases_Bool, last_cut cs)

-- a text with a colon is cut
pub cut_at_some_colon : (before after : Bytes) → split_first (before ++ colon ∷ after) ≡ None → ⊥
cut_at_some_colon [] after is = absurd (cc is)
cut_at_some_colon (c ∷ before) after is = search (rules, nat_tests, cases_Bool, cut_at_some_colon before after)

-- a text without a colon isn't cut
pub colonless : (text : Bytes) → ((before after : Bytes) → text ≡ before ++ colon ∷ after → ⊥) → split_first text ≡ None
colonless text none = by (split_first text) refl
  where
    by : (cut : Option (Bytes × Bytes)) → split_first text ≡ cut → split_first text ≡ None
    by None is = is
    by (Some (a, b)) is = absurd (none a b (first_cut text a b is))

-- ---- a file and its format's letter

-- the last two bytes of a text, one after the other
last_two_bytes : (rest : Bytes) (n : ℕ) → length rest ≡ suc (suc n)
    → rest ≡ take n rest ++ get_or rest n 0 ∷ get_or rest (suc n) 0 ∷ []
last_two_bytes [] n is = absurd (omega (arith, is))
last_two_bytes (a ∷ []) n is = absurd (omega (arith, is))
last_two_bytes (a ∷ b ∷ []) zero is = refl
last_two_bytes (a ∷ b ∷ c ∷ rest) zero is = absurd (omega (arith, is))
last_two_bytes (a ∷ b ∷ rest) (suc n) is = ap (λ (r : Bytes). a ∷ r) (last_two_bytes (b ∷ rest) n (omega (arith, is)))

-- a text with a format's letter ends in a colon and this letter
pub letter_is : (rest file : Bytes) (letter : ℕ) → file_and_letter rest ≡ (file, Some letter)
    → rest ≡ file ++ colon ∷ letter ∷ []
letter_is rest file letter is = search (rules, nat_le, slice_index, and_parts, last_two_bytes)

-- without a format's letter it doesn't end so
pub no_letter_follows : (rest file name : Bytes) (letter : ℕ) → file_and_letter rest ≡ (file, None)
    → rest ≡ name ++ colon ∷ letter ∷ [] → ⊥
no_letter_follows rest file name letter is ends = search (rules, file_and_letter-append)

-- the file and its format's letter, by whether the text ends in a colon and one byte
abbrev by_letter : Bytes → Bool → Bytes × Option ℕ
by_letter rest ends =
    if ends then (take (length rest - 2) rest, Some (slice_index rest (length rest - 1))) else (rest, None)

-- a text that doesn't end so is a file without a letter
pub no_letter_read : (rest : Bytes) → ((name : Bytes) (letter : ℕ) → rest ≡ name ++ colon ∷ letter ∷ [] → ⊥)
    → file_and_letter rest ≡ (rest, None)
no_letter_read rest none = elim (cases_Bool (nat_le 2 (length rest) && slice_index rest (length rest - 2) == colon)) [
  | inl ends ↦ absurd (none (take (length rest - 2) rest) (slice_index rest (length rest - 1))
      (letter_is rest (take (length rest - 2) rest) (slice_index rest (length rest - 1)) (ap (by_letter rest) ends)))
  | inr plain ↦ ap (by_letter rest) plain
]
