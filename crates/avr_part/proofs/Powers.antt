-- Powers of two up to 256, number by number.
use Rattle.std.proofs.Common.{◌≡◌, ◌∙◌, ap, refl, ℕ, zero, suc, ◌<◌, ◌≤◌, ◌%◌, Bool, true, cond, arith, inl, inr, rules}
use Rattle.std.specs.Prelude.{◌&&◌, ◌||◌, ◌==◌, nat_lt}
use Rattle.std.specs.Int.{is_power_of_two}
use Rattle.std.proofs.lemmas.Bool.{and_parts, or_cases, eqb-true, ltb-true, cases_lt}

-- each number below n passes the test
abbrev pub all_below : (ℕ → Bool) → ℕ → Bool
all_below test zero = true
all_below test (suc n) = test n && all_below test n

-- so does each single number below n
pub below : (test : ℕ → Bool) (n i : ℕ) → all_below test n ≡ true → i < n → test i ≡ true
below test zero i all l = absurd (omega arith)
below test (suc n) i all l =
    let parts = and_parts (test n) (all_below test n) all in
    elim (cases_lt i n) [
      | inl before ↦ below test n i parts.1 before
      | inr from ↦ ap test (let last : i ≡ n = omega arith in last) ∙ parts.0
    ]

-- a power of two divides 256, and is even from 2 on
abbrev is_page : ℕ → Bool
is_page n = 256 % n == 0 && (nat_lt n 2 || n % 2 == 0)

-- a power of two is such a number
abbrev page_if_power : ℕ → Bool
page_if_power n = cond (is_power_of_two n) (is_page n) true

-- each power of two up to 256 is
page_of_power : (n : ℕ) → is_power_of_two n ≡ true → n ≤ 256 → is_page n ≡ true
unfolding lib.Count.ones
page_of_power n power most =
    ap (λ (b : Bool). cond b (is_page n) true) (let e : true ≡ is_power_of_two n = cc in e)
    ∙ below page_if_power 257 n refl (omega arith)

-- a power of two up to 256 divides 256
pub power_divides : (n : ℕ) → is_power_of_two n ≡ true → n ≤ 256 → 256 % n ≡ 0
power_divides n power most = search (rules, page_of_power n power most)

-- a power of two from 2 to 256 is even
pub power_is_even : (n : ℕ) → is_power_of_two n ≡ true → n ≤ 256 → 2 ≤ n → n % 2 ≡ 0
power_is_even n power most some =
    elim (or_cases (nat_lt n 2) (n % 2 == 0)
    (and_parts (256 % n == 0) (nat_lt n 2 || n % 2 == 0) (page_of_power n power most)).1) [
      | inl small ↦ absurd (omega (arith, ltb-true n 2 small))
      | inr even ↦ eqb-true (n % 2) 0 even
    ]
