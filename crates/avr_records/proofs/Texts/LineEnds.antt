-- A text is cut at its first line end, or is one line without any.
use Rattle.std.proofs.lemmas.Bool.Decides.{nat_tests}
use Rattle.std.proofs.Common.{◌≡◌, ◌≢◌, ◌∙◌, ap, refl, arith, ℕ, zero, suc, ◌+◌, ◌<◌, ◌≤◌, List, [], ◌∷◌, ◌++◌, length, get_or, take, drop, true, Some, None, inl, inr, rules}
use Rattle.std.proofs.lemmas.Bool.{cases_Bool}
use Rattle.std.proofs.lemmas.Grind.{common_steps}
use Rattle.std.proofs.lemmas.List.{take_all, take_rest}
use Rattle.std.proofs.lemmas.List.Splits.{slice_split-cons_no}
use Rattle.std.specs.List.{onto_first}
use Rattle.memchr.specs.Find.{IsFirstByte, is_byte}
use Rattle.avr_records.specs.Lines.{lines, is_line_end}

-- no byte of the first n ends a line
abbrev pub NoneUpTo : ℕ → List ℕ → Type 0
NoneUpTo n text = (k : ℕ) → k < n → is_line_end (get_or text k 0) ≢ true

-- bytes without a line end are one line
pub one_line : (n : ℕ) (text : List ℕ) → n ≤ length text → NoneUpTo n text → lines (take n text) ≡ take n text ∷ []
one_line (suc n) (c ∷ text) len none =
    elim (cases_Bool (is_line_end c)) [
      | inl t ↦ absurd (none 0 (omega arith) t)
      | inr f ↦
          slice_split-cons_no is_line_end c (take n text) f
          ∙ ap (onto_first c) (one_line n text (omega (arith, len)) (λ k l. none (suc k) (omega (arith, l))))
    ]
one_line x y len none = refl

-- a text is the bytes before a place, the byte there, and the rest
pub cut_at : (n : ℕ) (text : List ℕ) → n < length text → text ≡ take n text ++ get_or text n 0 ∷ drop (n + 1) text
cut_at n [] len = absurd (omega (arith, len))
cut_at zero (c ∷ text) len = refl
cut_at (suc n) (c ∷ text) len = grind (arith, nat_tests, cut_at n text (omega (arith, len)))

-- a text without LF is one line
pub no_end : (text : List ℕ) → IsFirstByte (is_byte 10) text None → lines text ≡ text ∷ []
no_end text none = let all = take_all {A = ℕ} (length text) text (omega arith) in search (rules, one_line)

-- a text is the line before its first LF, LF, and the rest
pub first_end : (text : List ℕ) (at : ℕ) → IsFirstByte (is_byte 10) text (Some at)
    → (lines (take at text) ≡ take at text ∷ []) × (text ≡ take at text ++ 10 ∷ drop (at + 1) text)
first_end text at first = grind (arith, nat_tests, one_line, cut_at)

-- the lemmas for `split_line`
pub ruleset line_ends = (common_steps, take_rest, no_end, first_end)
