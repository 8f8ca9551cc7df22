-- `==` on stored images is equality of their lists.
use Rattle.std.proofs.lemmas.Bool.Decides.{nat_tests}
use Rattle.std.proofs.Common.{◌≡◌, ℕ, Bool, List, Option, nat_eq, IsTrue, ◌↔◌, rules}
use Rattle.std.specs.Option.{option_eq}
use Rattle.std.specs.Bool.{Decides, one_answer}
use Rattle.std.specs.Cmp.Lexicographic.{pointwise_decides}
use Rattle.avr_image.specs.Image.{is_same}

-- the test of two optional bytes decides whether they are equal
byte_decides : (first second : Option ℕ) → Decides (option_eq nat_eq first second) (first ≡ second)
byte_decides first second = search (rules, nat_tests)

-- so the test of two images decides whether they are equal
pub equal_are_one : (first second : List (Option ℕ)) → Decides (is_same first second) (first ≡ second)
equal_are_one = pointwise_decides byte_decides

-- an answer that is true exactly for equal images is that test's
pub notice_is_same : (notice : Bool) (first second : List (Option ℕ)) → (IsTrue notice ↔ (first ≡ second))
    → notice ≡ is_same first second
notice_is_same notice first second is = one_answer notice (is_same first second) is (equal_are_one first second)
