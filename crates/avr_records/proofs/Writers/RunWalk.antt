-- What a walk over the memory of a `Run` finds.
use Rattle.std.proofs.lemmas.Bool.Decides.{nat_tests}
use Rattle.std.proofs.lemmas.Grind.{common_steps}
use Rattle.std.proofs.Common.{◌≡◌, ◌∙◌, sym, ap, refl, arith, ℕ, zero, suc, ◌+◌, ◌-◌, ◌^◌, ◌<◌, ◌≤◌, List, [], ◌∷◌, ◌++◌, length, take, drop, min, map, Option, Some, is_some, rules}
use Rattle.std.specs.List.{position_from}
use Rattle.std.proofs.Math.Seq.{drop-nil, take-nil}
use Rattle.std.proofs.lemmas.List.{drop_min, length-append, length-map, length-replicate, take_min, take_rest}
use Rattle.hex.specs.Hex.{IsBytes}
use Rattle.avr_image.specs.Image.{HoldsBytes, empty, first_from}
use Rattle.avr_image.specs.Runs.{leading_run}
use Rattle.avr_records.specs.Sparse.{IsMemory, run_at}

-- a gap up to the base, then the bytes
abbrev held : ℕ → List ℕ → List (Option ℕ)
held base bytes = empty base ++ map (λ byte. Some byte) bytes

-- the first byte from an address on, counted from k
first_held : (k base addr : ℕ) (bytes : List ℕ) → addr - base < length bytes
    → position_from is_some k (drop addr (held base bytes)) ≡ Some (k + (base - addr))
first_held k zero addr [] some = absurd (omega (arith, some))
first_held k zero zero (b ∷ bytes) some = ap Some (omega arith)
first_held k zero (suc addr) (b ∷ bytes) some = search (rules, first_held k zero addr bytes (omega (arith, some)))
first_held k (suc base) zero bytes some = search (rules, first_held (k + 1) base zero bytes (omega (arith, some)))
first_held k (suc base) (suc addr) bytes some = search (rules, first_held k base addr bytes (omega (arith, some)))

-- the first byte of a run from an address on
pub first_in : (base addr : ℕ) (bytes : List ℕ) → addr - base < length bytes
    → first_from (run_at base bytes) addr ≡ Some (base + (addr - base))
first_in base addr [] some = absurd (omega (arith, some))
first_in base addr (b ∷ bytes) some = first_held addr base addr (b ∷ bytes) some ∙ ap Some (omega arith)

-- the bytes from an address on, up to the next gap, are the rest of the bytes
leading_run_held : (base addr n : ℕ) (bytes : List ℕ) → addr ≡ base + n
    → leading_run (drop addr (held base bytes)) ≡ drop n bytes
leading_run_held zero zero zero [] is = refl
leading_run_held zero zero zero (b ∷ bytes) is =
    ap (λ (more : List ℕ). b ∷ more) (leading_run_held zero zero zero bytes is)
leading_run_held zero (suc addr) (suc n) [] is = refl
leading_run_held zero (suc addr) (suc n) (b ∷ bytes) is = leading_run_held zero addr n bytes (omega (arith, is))
leading_run_held (suc base) (suc addr) n bytes is = leading_run_held base addr n bytes (omega (arith, is))
leading_run_held x y z bytes is = absurd (omega (arith, is))

-- the same in a run
leading_run_in : (base addr n : ℕ) (bytes : List ℕ) → addr ≡ base + n → leading_run (drop addr (run_at base bytes))
    ≡ drop n bytes
leading_run_in base addr n [] is = ap leading_run (drop-nil addr) ∙ sym (drop-nil n)
leading_run_in base addr n (b ∷ bytes) is = leading_run_held base addr n (b ∷ bytes) is

-- below the base there is a gap
gap_held : (base addr : ℕ) (bytes : List ℕ) → addr < base → leading_run (drop addr (held base bytes)) ≡ []
gap_held zero addr bytes before = absurd (omega (arith, before))
gap_held (suc base) zero bytes before = refl
gap_held (suc base) (suc addr) bytes before = gap_held base addr bytes (omega (arith, before))

-- so a row below the base is empty
pub gap_in : (base addr most : ℕ) (bytes : List ℕ) → addr < base
    → take most (leading_run (drop addr (run_at base bytes))) ≡ []
gap_in base addr most [] before = ap (λ (xs : List (Option ℕ)). take most (leading_run xs)) (drop-nil addr) ∙ take-nil
    most
gap_in base addr most (b ∷ bytes) before = ap (take most) (gap_held base addr (b ∷ bytes) before) ∙ take-nil most

-- the row that `row_at` returns: the next bytes, as many as fit
pub row_in : (base addr most past few : ℕ) (bytes : List ℕ) → base ≤ addr → past ≡ min (addr - base) (length bytes)
    → few ≡ min most (length (take (length bytes - past) (drop past bytes)))
    → take few (take (length bytes - past) (drop past bytes)) ≡ take most (leading_run (drop addr (run_at base bytes)))
row_in base addr most past few bytes after past_is few_is =
    grind (arith, nat_tests, drop_min, take_min, take_rest, leading_run_in)

-- all values of the memory are bytes
bytes_held : (base : ℕ) (bytes : List ℕ) → IsBytes bytes → HoldsBytes (held base bytes)
bytes_held zero (b ∷ bytes) all zero byte is = let same : b ≡ byte = cc is in omega (arith, same, all 0)
bytes_held zero (b ∷ bytes) all (suc addr) byte is = bytes_held zero bytes (λ i. all (suc i)) addr byte is
bytes_held (suc base) bytes all (suc addr) byte is = bytes_held base bytes all addr byte is
bytes_held x y all z byte is = absurd (cc is)

-- a run is a memory
pub is_memory : (base : ℕ) (bytes : List ℕ) → base + length bytes ≤ 2 ^ 32 → IsBytes bytes
    → IsMemory (run_at base bytes)
is_memory base [] below all = record { short = omega arith; bytes = λ addr byte is. absurd (cc is) }
is_memory base (b ∷ bytes) below all = search (rules, length-append, length-replicate, length-map, bytes_held)

-- the lemmas for a `Run`
pub ruleset run_next = (common_steps, first_in, is_memory)

pub ruleset run_row = (nat_tests, gap_in, row_in)
