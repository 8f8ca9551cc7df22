-- Digits, as the code reads and writes them.
use Rattle.std.proofs.lemmas.Grind.{common_steps}
use Rattle.std.proofs.Common.{◌≡◌, ◌∙◌, sym, ap, refl, arith, ℕ, suc, ◌+◌, ◌*◌, ◌/◌, ◌%◌, ◌^◌, ◌<◌, ◌≤◌, List, [], ◌∷◌, length, get_or, set, drop, min, true, false, cond, eqb, ◌≢◌, rules}
use Rattle.std.proofs.lemmas.Bool.Decides.{nat_tests}
use Rattle.std.proofs.lemmas.List.{drop_more, drop_all, drop-set, length-set}
use Rattle.std.specs.List.{list_all}
use Rattle.std.specs.Fmt.{digits_onto, digits, digit_glyph}
use Rattle.std.specs.Char.{digit_value}
use Rattle.std.specs.Str.Parse.{digits_value_after}
use Rattle.avr_image.specs.Values.{is_digit_of}

-- ---- read

-- one more digit keeps two values equal up to 256
same_cap : (a b base digit : ℕ) → 1 ≤ base → min a 256 ≡ min b 256
    → min (a * base + digit) 256 ≡ min (b * base + digit) 256
same_cap a b base digit some same = grind (arith, nat_tests)

-- so do all digits
capped : (base a b : ℕ) (digits : List ℕ) → 1 ≤ base → min a 256 ≡ min b 256
    → min (digits_value_after base a digits) 256 ≡ min (digits_value_after base b digits) 256
capped base a b [] some same = same
capped base a b (c ∷ digits) some same =
    capped base (a * base + digit_value c) (b * base + digit_value c) digits some
    (same_cap a b base (digit_value c) some same)

-- the code stops counting at 256, which changes no value below
pub value_step : (base value digit i : ℕ) (digits : List ℕ) → 1 ≤ base → i < length digits
    → digit ≡ digit_value (get_or digits i 0)
    → min (digits_value_after base (min (value * base + digit) 256) (drop (i + 1) digits)) 256
    ≡ min (digits_value_after base value (drop i digits)) 256
value_step base value digit i digits some l here = grind (arith, nat_tests, capped, drop_more)

-- one more digit is a digit, so those left decide
pub digits_step : (base i : ℕ) (digits : List ℕ) → i < length digits → is_digit_of base (get_or digits i 0) ≡ true
    → list_all (is_digit_of base) (drop (i + 1) digits) ≡ list_all (is_digit_of base) (drop i digits)
digits_step base i digits l here = sym (ap (list_all (is_digit_of base)) (drop_more digits i 0 l) ∙ rw here refl)

-- ---- written

-- a digit in front of those that are in place
pub written_step : (radix rest at next glyph : ℕ) (buffer : List ℕ) → at ≡ next + 1 → next < length buffer
    → glyph ≡ digit_glyph false (rest % radix) → digits_onto (56 + at) radix false rest (drop at buffer)
    ≡ cond (eqb (rest / radix) 0) (drop next (set buffer next glyph))
    (digits_onto (56 + next) radix false (rest / radix) (drop next (set buffer next glyph)))
written_step radix rest at next glyph buffer step l here =
    let fuel : 56 + at ≡ suc (56 + next) = omega (arith, step) in search (rules, drop-set)

-- a number with a digit less fits into a place less
pub digit_left : (radix rest at next : ℕ) → 2 ≤ radix → at ≡ next + 1 → rest < 2 ^ at → rest / radix < 2 ^ next
digit_left radix rest at next low step l = grind (arith, common_steps, nat_tests)

-- the digits of a byte are in place from `at` on, and those before are not written yet
pub record IsWritten (radix byte rest at : ℕ) (buffer : List ℕ) : Type 0 where
  pub joined : digits_onto (56 + at) radix false rest (drop at buffer) ≡ digits radix false byte

-- at first no digit is in place
pub none_written : (radix byte at : ℕ) (buffer : List ℕ) → at ≡ 8 → length buffer ≡ 8
    → IsWritten radix byte byte at buffer
unfolding digits
none_written radix byte at buffer start size = search (rules, drop_all, buffer, start, size)

-- one more digit is in place, and some are left
pub more_written : (radix byte rest at next glyph : ℕ) (buffer : List ℕ) → IsWritten radix byte rest at buffer
    → at ≡ next + 1 → next < length buffer → glyph ≡ digit_glyph false (rest % radix) → eqb (rest / radix) 0 ≡ false
    → IsWritten radix byte (rest / radix) next (set buffer next glyph)
more_written radix byte rest at next glyph buffer before step l here left =
    let e = written_step radix rest at next glyph buffer step l here in search rules

-- the last digit is in place
pub all_written : (radix byte rest at next glyph : ℕ) (buffer : List ℕ) → IsWritten radix byte rest at buffer
    → at ≡ next + 1 → next < length buffer → glyph ≡ digit_glyph false (rest % radix) → eqb (rest / radix) 0 ≡ true
    → drop next (set buffer next glyph) ≡ digits radix false byte
all_written radix byte rest at next glyph buffer before step l here last =
    let e = written_step radix rest at next glyph buffer step l here in search rules

-- a number other than 0 needs a digit
pub digit_more : (n places : ℕ) → n ≢ 0 → n < 2 ^ places → 0 < places
digit_more n places some l = search rules

-- the lemmas for the loops of `read_number` and `write_digits`
pub ruleset digits_read = (nat_tests, digits_step, value_step)

pub ruleset digits_written = (nat_tests, length-set, digit_left, digit_more, more_written, all_written)
