-- Bytes up to the last that isn't FF.
use Rattle.std.proofs.Common.{◌≡◌, ap, refl, ℕ, ◌+◌, ◌-◌, ◌<◌, ◌≤◌, ◌==◌, ◌&&◌, List, [], ◌∷◌, ◌++◌, length, take, slice_index, if◌then◌else◌, get_or, rules}
use Rattle.std.proofs.lemmas.List.{take_more, length-take-le}
use Rattle.std.proofs.lemmas.Bool.Decides.{nat_tests}
use Rattle.avr_session.specs.FileText.{used_length}

-- An FF at the end is not counted.
used_blank : (xs : List ℕ) → used_length (xs ++ 255 ∷ []) ≡ used_length xs
used_blank [] = refl
used_blank (x ∷ xs) = ap (λ n. if n == 0 && x == 255 then 0 else 1 + n) (used_blank xs)

-- If the last byte is not FF, all bytes are counted.
used_last : (xs : List ℕ) (b : ℕ) → (b ≡ 255 → ⊥) → used_length (xs ++ b ∷ []) ≡ length xs + 1
used_last [] b not = search (rules, nat_tests)
used_last (x ∷ xs) b not = search (rules, nat_tests, used_last xs b not)

-- The first bytes, up to this count, are those before the last of them, and this last one.
prefix_and_last : (bytes : List ℕ) (count : ℕ) → 0 < count → count ≤ length bytes
    → take count bytes ≡ take (count - 1) bytes ++ get_or bytes (count - 1) 0 ∷ []
prefix_and_last bytes count some within = search (rules, take_more)

-- If the last of the first bytes is FF, those before it have the same used length.
pub blank_dropped : (bytes : List ℕ) (count : ℕ) → 0 < count → count ≤ length bytes
    → slice_index bytes (count - 1) ≡ 255 → used_length (take (count - 1) bytes) ≡ used_length (take count bytes)
blank_dropped bytes count some within is = search (rules, prefix_and_last, used_blank)

-- If the last of the first bytes is not FF, all of these are used.
pub last_used : (bytes : List ℕ) (count : ℕ) → 0 < count → count ≤ length bytes
    → (slice_index bytes (count - 1) ≡ 255 → ⊥) → used_length (take count bytes) ≡ count
last_used bytes count some within not = search (rules, prefix_and_last, used_last, length-take-le)
