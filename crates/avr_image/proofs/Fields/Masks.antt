-- Bits of words, as the code finds and makes them.
use Rattle.std.proofs.Common.{◌≡◌, ◌∙◌, sym, ap, refl, arith, ℕ, ◌+◌, ◌-◌, ◌*◌, ◌/◌, ◌%◌, ◌^◌, ◌<◌, ◌≤◌, nat_le, nat_lt, not, min, eqb, List, length, get_or, Bool, true, false, bit_and, bit_or, ◌||◌, set, inl, inr, w64, rules}
use lib.Count.{trailing_of_zero}
use Rattle.std.specs.Int.{bit_at, trailing_zeros}
use Rattle.std.proofs.lemmas.Nat.{and_le_l}
use Rattle.std.proofs.lemmas.Nat.Bits.{bit_at_and, bit_at_or, bit_at-lt, bit_at-zero, bit_at_not, bit_at_mask_inside, bit_at_mask_below, bit_at_ones, bit_at_ones_above, ones_shl, ones_shr, bit_at-trailing_zeros}
use Rattle.std.proofs.lemmas.Bool.{cases_eq, cases_lt}
use Rattle.std.proofs.lemmas.Bool.Decides.{nat_tests}
use Rattle.avr_image.specs.Present.{is_present, is_within, NextOne, FirstPlace}

-- a word whose bits below `from` are cleared
abbrev pub above : ℕ → ℕ → ℕ
above n from = bit_and n ((2 ^ 64 - 1) * 2 ^ from % 2 ^ 64)

-- the other bits stay
pub above_is : (n from i : ℕ) → from < 64 → i < 64 → from ≤ i → bit_at (above n from) i ≡ bit_at n i
above_is n from i f l le =
    let mask = ones_shl 64 from (omega arith) in
    let one : bit_at ((2 ^ 64 - 1) * 2 ^ from % 2 ^ 64) i ≡ 1 = rw mask (bit_at_mask_inside from 64 i le l) in
    omega (arith, bit_at_and n ((2 ^ 64 - 1) * 2 ^ from % 2 ^ 64) i, one, bit_at-lt n i)

-- the bits below are 0
pub above_low : (n from i : ℕ) → from < 64 → i < from → bit_at (above n from) i ≡ 0
above_low n from i f l =
    let mask = ones_shl 64 from (omega arith) in
    let none : bit_at ((2 ^ 64 - 1) * 2 ^ from % 2 ^ 64) i ≡ 0 = rw mask (bit_at_mask_below from 64 i l) in
    omega (arith, bit_at_and n ((2 ^ 64 - 1) * 2 ^ from % 2 ^ 64) i, none)

-- if no bit is left, the next one is past the word
next_of_none : (n from : ℕ) → from < 64 → above n from ≡ 0 → NextOne n from 64
next_of_none n from f e = record {
  after = omega (arith, f);
  bound = omega arith;
  zeros = λ i le l. sym (above_is n from i f l le) ∙ ap (λ (m : ℕ). bit_at m i) e ∙ bit_at-zero i;
  one = λ l. absurd (omega (arith, l));
}

-- the least bit that is left is the next one
next_of_some : (n from r : ℕ) → from < 64 → r < 64 → bit_at (above n from) r ≡ 1
    → ((i : ℕ) → i < r → bit_at (above n from) i ≡ 0) → NextOne n from r
next_of_some n from r f l here before = grind (arith, nat_tests, above_low, above_is)

-- the count of trailing zeros finds the next bit
pub next_is : (n from : ℕ) → n < 2 ^ 64 → from < 64 → NextOne n from (trailing_zeros w64 (above n from))
next_is n from fits f = elim (cases_eq (above n from) 0) [
  | inl none ↦ rw (none, trailing_of_zero) (next_of_none n from f none)
  | inr some ↦
      let found = bit_at-trailing_zeros w64 (above n from) (omega (arith, some))
      (omega (arith, and_le_l n ((2 ^ 64 - 1) * 2 ^ from % 2 ^ 64), fits)) in
      next_of_some n from _ f found.0 found.1 found.2
]

-- a bit of the complement is the other one
pub other_bit : (n i : ℕ) → n < 2 ^ 64 → i < 64 → eqb (bit_at (2 ^ 64 - 1 - n) i) 1 ≡ not (eqb (bit_at n i) 1)
other_bit n i fits l = grind (arith, nat_tests, bit_at_not w64 n i fits l)

-- the mask of a span has exactly the bits of the span
pub ones_are : (low high i : ℕ) → low < 64 → high ≤ 64 → i < 64
    → eqb (bit_at (bit_and ((2 ^ 64 - 1) * 2 ^ low % 2 ^ 64) ((2 ^ 64 - 1) / 2 ^ (64 - high))) i) 1
    ≡ is_within low high i
ones_are low high i a b l =
    let left = (2 ^ 64 - 1) * 2 ^ low % 2 ^ 64 in
    let right = (2 ^ 64 - 1) / 2 ^ (64 - high) in
    let left_is : left ≡ 2 ^ 64 - 2 ^ low = ones_shl 64 low (omega arith) in
    let high_is : 64 - (64 - high) ≡ high = omega (arith, b) in
    let right_is : right ≡ 2 ^ high - 1 = ones_shr 64 (64 - high) (omega arith) ∙ ap (λ (n : ℕ). 2 ^ n - 1) high_is in
    let both : bit_at (bit_and left right) i ≡ min (bit_at left i) (bit_at right i) = bit_at_and left right i in
    elim (cases_lt i low) [
      | inl below ↦
          let none : bit_at left i ≡ 0 = rw left_is (bit_at_mask_below low 64 i below) in
          let zero_bit : bit_at (bit_and left right) i ≡ 0 = omega (arith, both, none) in
          let test : nat_le low i ≡ false = grind (arith, nat_tests) in
          rw (zero_bit, test) refl
      | inr from ↦ elim (cases_lt i high) [
        | inl inside ↦
            let one_left : bit_at left i ≡ 1 = rw left_is (bit_at_mask_inside low 64 i from l) in
            let one_right : bit_at right i ≡ 1 = rw right_is (bit_at_ones high i inside) in
            let one_bit : bit_at (bit_and left right) i ≡ 1 = omega (arith, both, one_left, one_right) in
            let first : nat_le low i ≡ true = grind (arith, nat_tests) in
            let second : nat_lt i high ≡ true = grind (arith, nat_tests, inside) in
            rw (one_bit, first, second) refl
        | inr past ↦
            let none : bit_at right i ≡ 0 = rw right_is (bit_at_ones_above high i past) in
            search rules
      ]
    ]

-- a bit of two words joined by `|`
one_of_two : (a b i : ℕ) → eqb (bit_at (bit_or a b) i) 1 ≡ (eqb (bit_at b i) 1 || eqb (bit_at a i) 1)
one_of_two a b i = grind (arith, nat_tests, bit_at_or)

-- below a span no address is within it
pub within_low : (from end k : ℕ) → k < from → is_within from end k ≡ false
within_low from end k a = let first : nat_le from k ≡ false = grind (arith, nat_tests) in rw first refl

-- nor at its end or above
pub within_high : (from end k : ℕ) → end ≤ k → is_within from end k ≡ false
within_high from end k b = grind (arith, nat_tests)

-- one word of a span
pub span_word : (words : List ℕ) (at stop bits k : ℕ) → at < stop → stop ≤ at / 64 * 64 + 64 → at / 64 < length words
    → ((i : ℕ) → i < 64 → eqb (bit_at bits i) 1 ≡ is_within (at % 64) (stop - at / 64 * 64) i)
    → is_present (set words (at / 64) (bit_or (get_or words (at / 64) 0) bits)) k
    ≡ (is_within at stop k || is_present words k)
span_word words at stop bits k l room within ones = search (rules, one_of_two)

-- two spans, the one after the other
pub spans_join : (from at stop k : ℕ) (b : Bool) → from ≤ at → at ≤ stop
    → (is_within at stop k || (is_within from at k || b)) ≡ (is_within from stop k || b)
spans_join from at stop k b le more = grind (arith, nat_tests)

-- a place found in equal words from and to equal addresses
pub same_place : (words marks : List ℕ) (wanted : Bool) (from start end stop place at : ℕ) → words ≡ marks
    → from ≡ start → end ≡ stop → place ≡ at → FirstPlace words wanted from end place
    → FirstPlace marks wanted start stop at
same_place words marks wanted from start end stop place at a b c d found = rw (← a, ← b, ← c, ← d) found
