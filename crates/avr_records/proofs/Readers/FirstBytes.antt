-- The first line that isn't blank decides the format that `detect` returns.
use Rattle.std.proofs.Common.{◌≡◌, refl, arith, ℕ, zero, suc, ◌≤◌, ◌<◌, List, [], ◌∷◌, ◌++◌, length, take, Bool, true, false, nat_le, not, find, Some}
use Rattle.std.proofs.lemmas.Bool.Decides.{nat_tests}
use Rattle.std.proofs.lemmas.List.Sums.{prefix_len-le-length}
use Rattle.std.specs.List.{list_all, prefix_len}
use Rattle.avr_records.proofs.Readers.Fed.{line_first}
use Rattle.avr_records.specs.Detect.{format_of_line}
use Rattle.avr_records.specs.Lines.{lines, is_blank}
use Rattle.avr_records.specs.declared.kind.Found.{Found}

-- fewer than n bytes have no n in front that pass
pub too_few : (p : ℕ → Bool) (n : ℕ) (xs : List ℕ) → length xs < n → false ≡ nat_le n (prefix_len p xs)
too_few p n xs len = let bound = prefix_len-le-length p xs in grind (arith, nat_tests)

-- the first n elements pass if at least n in front do
pub all_of_prefix : (p : ℕ → Bool) (n : ℕ) (xs : List ℕ) → n ≤ length xs
    → list_all p (take n xs) ≡ nat_le n (prefix_len p xs)
all_of_prefix p zero xs len = grind (arith, nat_tests)
all_of_prefix p (suc n) [] len = absurd (omega (arith, len))
all_of_prefix p (suc n) (x ∷ xs) len = grind (arith, nat_tests, all_of_prefix p n xs (omega (arith, len)))

-- the format that the first line shows that isn't blank
abbrev pub first_of : List ℕ → Found
first_of text = format_of_line (find (λ line. not (list_all is_blank line)) (lines text))

-- a blank line is passed over
pub blank_first : (text line more : List ℕ) → lines line ≡ line ∷ [] → text ≡ line ++ 10 ∷ more
    → list_all is_blank line ≡ true → first_of text ≡ first_of more
blank_first text line more one cut blank = rw (cut, line_first line more one, blank) refl

-- a line that isn't blank decides
pub shown_first : (text line more : List ℕ) → lines line ≡ line ∷ [] → text ≡ line ++ 10 ∷ more
    → list_all is_blank line ≡ false → first_of text ≡ format_of_line (Some line)
shown_first text line more one cut blank = rw (cut, line_first line more one, blank) refl

-- the lemmas for `detect`
pub ruleset detected = (nat_tests, too_few, all_of_prefix, blank_first, shown_first)
