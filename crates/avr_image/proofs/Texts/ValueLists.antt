-- A list of numbers, read as values, gives the numbers.
use Rattle.std.proofs.Common.{◌≡◌, ◌∙◌, ap, refl, arith, ℕ, zero, All, suc, ◌+◌, ◌<◌, ◌≤◌, List, [], ◌∷◌, ◌++◌, length, map, filter, eqb, Bool, true, false, ◌&&◌, not, nat_lt, Option, Some, None, Ok, Err, inl, inr, rules}
use Rattle.std.specs.List.{enumerate_from, slice_split, onto_first, list_all}
use Rattle.std.specs.Fmt.{digits}
use Rattle.std.proofs.lemmas.Bool.{and_parts, cases_eq}
use Rattle.std.proofs.lemmas.Bool.Decides.{nat_tests}
use Rattle.avr_image.specs.Lists.{number_text, list_line}
use Rattle.avr_image.specs.Image.{from_zero}
use Rattle.avr_image.specs.Values.{is_separator, byte_of_value, value_of, all_ok, pieces, image_of_values}
use Rattle.avr_image.specs.declared.list.Base.{Base}
use Rattle.avr_image.specs.declared.list.Base.TheVariants.{Dec, Hex, Oct, Bin}
use Rattle.avr_image.specs.declared.fault.ImageFault.TheVariants.{BadNumber}

-- ---- each byte, in each base

-- the text is this number's value
abbrev is_value : Option ℕ → ℕ → Bool
is_value None n = false
is_value (Some m) n = eqb m n

-- some characters, none of them between values
abbrev is_solid : List ℕ → Bool
is_solid text = nat_lt 0 (length text) && list_all (λ c. not (is_separator c)) text

-- the text of a number in a base is read as the number, and has no separator
abbrev is_good : Base → ℕ → Bool
is_good base n = is_value (value_of (number_text base n)) n && is_solid (number_text base n)

-- whether all numbers below this one pass the test
abbrev all_below : ℕ → (ℕ → Bool) → Bool
all_below zero test = true
all_below (suc n) test = test n && all_below n test

-- a number below the bound passes the test
below : (n k : ℕ) (test : ℕ → Bool) → all_below n test ≡ true → k < n → test k ≡ true
below zero k test all l = absurd (omega (arith, l))
below (suc n) k test all l = elim (cases_eq k n) [
  | inl same ↦ rw same (and_parts (test n) (all_below n test) all).0
  | inr other ↦ below n k test (and_parts (test n) (all_below n test) all).1 (omega (arith, l, other))
]

-- number by number
good : (base : Base) (n : ℕ) → n < 256 → is_good base n ≡ true
unfolding digits
good Dec n l = below 256 n (is_good Dec) refl l
good Hex n l = below 256 n (is_good Hex) refl l
good Oct n l = below 256 n (is_good Oct) refl l
good Bin n l = below 256 n (is_good Bin) refl l

-- the text of a number is read as the number
read_back : (base : Base) (n : ℕ) → n < 256 → value_of (number_text base n) ≡ Some n
read_back base n l = search (rules, good base n l)

-- the text of a number has no separator
solid : (base : Base) (n : ℕ) → n < 256 → is_solid (number_text base n) ≡ true
solid base n l = (and_parts (is_value (value_of (number_text base n)) n) _ (good base n l)).1

-- ---- the pieces of a list

-- a test whose opposite holds fails
not_true : (b : Bool) → not b ≡ true → b ≡ false
not_true b e = search rules

-- a text without separators is one piece
split_clean : (text : List ℕ) → list_all (λ c. not (is_separator c)) text ≡ true
    → slice_split is_separator text ≡ text ∷ []
split_clean [] all = refl
split_clean (c ∷ text) all =
    let parts = and_parts (not (is_separator c)) (list_all (λ c. not (is_separator c)) text) all in
    rw (not_true (is_separator c) parts.0) (ap (onto_first c) (split_clean text parts.1))

-- a text before a comma is the first piece
split_comma : (text more : List ℕ) → list_all (λ c. not (is_separator c)) text ≡ true
    → slice_split is_separator (text ++ 44 ∷ more) ≡ text ∷ slice_split is_separator more
split_comma [] more all = refl
split_comma (c ∷ text) more all =
    let parts = and_parts (not (is_separator c)) (list_all (λ c. not (is_separator c)) text) all in
    rw (not_true (is_separator c) parts.0) (ap (onto_first c) (split_comma text more parts.1))

-- these numbers are bytes
abbrev AreBytes : List ℕ → Type 0
AreBytes [] = Unit {0}
AreBytes (b ∷ bytes) = (b < 256) × AreBytes bytes

-- a list of numbers is cut into their texts
split_line : (base : Base) (b : ℕ) (bytes : List ℕ) → b < 256 → AreBytes bytes
    → slice_split is_separator (list_line base (b ∷ bytes)) ≡ map (number_text base) (b ∷ bytes)
split_line base b [] l all = split_clean (number_text base b)
    (and_parts (nat_lt 0 (length (number_text base b))) _ (solid base b l)).1
split_line base b (next ∷ bytes) l all =
    split_comma (number_text base b) (list_line base (next ∷ bytes))
    (and_parts (nat_lt 0 (length (number_text base b))) _ (solid base b l)).1
    ∙ ap (λ (more : List (List ℕ)). number_text base b ∷ more) (split_line base next bytes all.0 all.1)

-- none of these texts is empty
none_empty : (base : Base) (bytes : List ℕ) → AreBytes bytes
    → filter (λ piece. nat_lt 0 (length piece)) (map (number_text base) bytes) ≡ map (number_text base) bytes
none_empty base [] all = refl
none_empty base (b ∷ bytes) all = search (rules, solid base b all.0, none_empty base bytes all.1)

-- so they are the pieces of the list
pieces_line : (base : Base) (b : ℕ) (bytes : List ℕ) → b < 256 → AreBytes bytes
    → pieces (list_line base (b ∷ bytes)) ≡ map (number_text base) (b ∷ bytes)
pieces_line base b bytes l all = search (rules, split_line, none_empty)

-- ---- their values

-- each piece is the value of its number
all_good : (base : Base) (size addr : ℕ) (bytes : List ℕ) → AreBytes bytes → addr + length bytes ≤ size
    → all_ok (map (byte_of_value size) (enumerate_from addr (map (number_text base) bytes))) ≡ Ok bytes
all_good base size addr [] all room = refl
all_good base size addr (b ∷ bytes) all room =
    search (rules, read_back, nat_tests, all_good base size (addr + 1) bytes all.1 (omega (arith, room)))

-- numbers below 256 are bytes
are_bytes : (bytes : List ℕ) → All (λ byte. byte < 256) bytes → AreBytes bytes
are_bytes [] all = tt
are_bytes (b ∷ bytes) all = (all 0 0 (omega arith), are_bytes bytes (λ k d l. all (suc k) d (omega (arith, l))))

-- a list of numbers reads as the image of these bytes
pub list_reads_back : (base : Base) (bytes : List ℕ) (size : ℕ) → 0 < length bytes → length bytes ≤ size
    → All (λ byte. byte < 256) bytes → image_of_values (list_line base bytes) size ≡ Ok (from_zero bytes size)
list_reads_back base [] size some room all = absurd (omega (arith, some))
list_reads_back base (b ∷ bytes) size some room all =
    let are = are_bytes (b ∷ bytes) all in
    let cut = pieces_line base b bytes are.0 are.1 in
    let checked_are = all_good base size 0 (b ∷ bytes) are (omega (arith, room)) in
    let some : eqb (length (map (number_text base) (b ∷ bytes))) 0 ≡ false = grind (arith, nat_tests) in search rules

-- an empty list is refused
pub empty_list_is_bad : (base : Base) (size : ℕ) → image_of_values (list_line base []) size ≡ Err (BadNumber 1)
empty_list_is_bad base size = refl
