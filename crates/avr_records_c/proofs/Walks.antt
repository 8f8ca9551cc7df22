-- A walk over a memory's bitmap, bit by bit, finds what a walk over its image finds.
use Rattle.std.proofs.lemmas.Bool.Decides.{nat_tests}
use Rattle.std.proofs.Common.{◌≡◌, ap, sym, refl, arith, ℕ, zero, suc, ◌+◌, ◌-◌, ◌/◌, ◌%◌, ◌<◌, ◌≤◌, List, [], ◌∷◌, length, take, drop, get_or, true, false, Some, None, inl, inr, add-zero, min, rules}
use Rattle.std.proofs.lemmas.Bool.{cases_Bool, cases_lt}
use Rattle.std.proofs.lemmas.List.{drop_all, drop_more, length-drop, take_min}
use Rattle.std.specs.Prelude.{if◌then◌else◌}
use Rattle.avr_image.specs.Image.{first_from, with_gaps}
use Rattle.avr_image.specs.Runs.{leading_run}
use Rattle.avr_records_c.specs.Bitmap.{is_marked, image_of}

-- ---- the image of the bytes from an address on

-- an image is as long as its bytes
pub length_image : (addr : ℕ) (present bytes : List ℕ)
    → length (with_gaps (is_marked present) addr bytes) ≡ length bytes
length_image addr present [] = refl
length_image addr present (b ∷ bytes) = ap suc (length_image (suc addr) present bytes)

-- the image from a later address on
drop_image : (k addr : ℕ) (present bytes : List ℕ)
    → drop k (with_gaps (is_marked present) addr bytes) ≡ with_gaps (is_marked present) (addr + k) (drop k bytes)
drop_image zero addr present bytes = ap (λ (a : ℕ). with_gaps (is_marked present) a bytes) (sym (add-zero addr))
drop_image (suc k) addr present [] = refl
drop_image (suc k) addr present (b ∷ bytes) = grind (arith, nat_tests, drop_image k (suc addr) present bytes)

-- a byte, if its bit is 1, and what is after it
next_here : (k : ℕ) (present bytes : List ℕ) → k < length bytes → drop k (image_of present bytes)
    ≡ (if is_marked present k then Some (get_or bytes k 0) else None) ∷ drop (k + 1) (image_of present bytes)
next_here k present bytes inside = grind (arith, nat_tests, drop_image, drop_more)

-- ---- the next byte that the bitmap marks

-- a marked byte is the first
pub first_there : (k : ℕ) (present bytes : List ℕ) → k < length bytes → is_marked present k ≡ true
    → first_from (image_of present bytes) k ≡ Some k
first_there k present bytes inside there = search (rules, nat_tests, next_here)

-- a byte that isn't marked is passed over
pub first_gap : (k : ℕ) (present bytes : List ℕ) → k < length bytes → is_marked present k ≡ false
    → first_from (image_of present bytes) k ≡ first_from (image_of present bytes) (k + 1)
first_gap k present bytes inside gap = search (rules, nat_tests, next_here)

-- past the bytes there is none
pub first_past : (k : ℕ) (present bytes : List ℕ) → length bytes ≤ k → first_from (image_of present bytes) k ≡ None
first_past k present bytes past = search (rules, nat_tests, drop_all, length_image)

-- a gap of `n` addresses, some of them perhaps past the memory
pub first_gaps : (n k : ℕ) (present bytes : List ℕ) → ((at : ℕ) → k ≤ at → at < k + n → is_marked present at ≡ false)
    → first_from (image_of present bytes) k ≡ first_from (image_of present bytes) (k + n)
first_gaps zero k present bytes gap = grind (arith, nat_tests)
first_gaps (suc n) k present bytes gap =
    let rest = first_gaps n (k + 1) present bytes
    (λ at after before. gap at (omega (arith, after)) (omega (arith, before))) in
    let there : k + 1 + n ≡ k + suc n = omega arith in
    let one : first_from (image_of present bytes) k ≡ first_from (image_of present bytes) (k + 1) =
    grind (arith, nat_tests, cases_lt, first_gap, first_past) in search rules

-- an octet that is 0
pub octet_gap : (k : ℕ) (present bytes : List ℕ) → k % 8 ≡ 0 → get_or present (k / 8) 0 ≡ 0
    → first_from (image_of present bytes) k ≡ first_from (image_of present bytes) (k + 8)
octet_gap k present bytes whole none = first_gaps 8 k present bytes (λ at after before. search rules)

-- ---- the bytes before a gap

-- how many marked bytes follow each other from an address on
abbrev run : ℕ → List ℕ → List ℕ → ℕ
run k present bytes = length (leading_run (drop k (image_of present bytes)))

-- a marked byte makes the run longer by one
pub run_there : (k : ℕ) (present bytes : List ℕ) → k < length bytes → is_marked present k ≡ true
    → run k present bytes ≡ suc (run (k + 1) present bytes)
run_there k present bytes inside there = grind (arith, nat_tests, next_here)

-- at a byte that isn't marked there is no run
pub run_gap : (k : ℕ) (present bytes : List ℕ) → k < length bytes → is_marked present k ≡ false
    → run k present bytes ≡ 0
run_gap k present bytes inside gap = grind (arith, nat_tests, next_here)

-- nor past the bytes
pub run_past : (k : ℕ) (present bytes : List ℕ) → length bytes ≤ k → run k present bytes ≡ 0
run_past k present bytes past = grind (arith, nat_tests, drop_all, length_image)

-- the bytes of a run are stored side by side
leading_run_bytes : (n addr : ℕ) (present bytes : List ℕ)
    → n ≤ length (leading_run (with_gaps (is_marked present) addr bytes))
    → take n bytes ≡ take n (leading_run (with_gaps (is_marked present) addr bytes))
leading_run_bytes (suc n) addr present (b ∷ bytes) few = elim (cases_Bool (is_marked present addr)) [
  | inl there ↦
      let some : suc n ≤ length (leading_run (Some b ∷ with_gaps (is_marked present) (suc addr) bytes)) =
      rw there at few in
      rw there (ap (λ (more : List ℕ). b ∷ more) (leading_run_bytes n (suc addr) present bytes (omega (arith, some))))
  | inr gap ↦
      grind (arith, nat_tests)
]
leading_run_bytes x addr present y few = refl

-- a run is no longer than the bytes
leading_run_within : (addr : ℕ) (present bytes : List ℕ)
    → length (leading_run (with_gaps (is_marked present) addr bytes)) ≤ length bytes
leading_run_within addr present [] = omega arith
leading_run_within addr present (b ∷ bytes) = grind (arith, nat_tests, leading_run_within (suc addr) present bytes)

pub record IsRow (addr most end : ℕ) (present bytes : List ℕ) : Type 0 where
  pub within : end ≤ length bytes
  pub row : take (end - addr) (drop addr bytes) ≡ take most (leading_run (drop addr (image_of present bytes)))

-- a row ends where its run does, or after the most bytes
pub row_is : (addr most end : ℕ) (present bytes : List ℕ) → addr ≤ length bytes
    → end ≡ addr + min most (run addr present bytes) → IsRow addr most end present bytes
row_is addr most end present bytes inside is =
    grind (arith, nat_tests, drop_image, leading_run_within, length-drop, leading_run_bytes, take_min)

-- the lemmas for a walk over the bitmap
pub ruleset next_found = (nat_tests, first_there, first_gap, octet_gap, first_past)

pub ruleset run_ends = (nat_tests, cases_lt, run_there, run_gap, run_past)

pub ruleset row_found = (nat_tests, row_is)
