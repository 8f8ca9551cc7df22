-- What a good reply is made of.
use Rattle.std.proofs.Common.{◌≡◌, inl, inr, ℕ, zero, suc, ◌+◌, List, [], ◌∷◌, ◌++◌, length, take, refl, ap, ap₂, arith, true, false, Bool, cond, Ok, Err, Result, rules}
use Rattle.std.proofs.lemmas.Bool.{cases_Bool, eqb-true, eq-eqb, not-false}
use Rattle.std.proofs.lemmas.List.{length-append, get_or-append_right, take-append-le, take_all}
use Rattle.std.specs.Prelude.{slice_index, ◌==◌, not}
use Rattle.stk_frame.specs.declared.command.Command.{Command}
use Rattle.stk_frame.specs.declared.answer.FrameFault.{FrameFault}
use Rattle.stk_frame.specs.declared.answer.Shape.TheVariants.{Bytes, Closed}
use Rattle.stk_frame.specs.Commands.{code, judge, shape, data_in_shape}

abbrev pub Verdict : Type 0
Verdict = Result (List ℕ) FrameFault

-- a list, and its last byte
last_byte_apart : (n : ℕ) (more : List ℕ) → length more ≡ n + 1 → more ≡ take n more ++ (slice_index more n ∷ [])
last_byte_apart n [] is = absurd (omega (arith, is))
last_byte_apart zero (b ∷ []) is = refl
last_byte_apart zero (b ∷ c ∷ more) is = absurd (omega (arith, is))
last_byte_apart (suc n) (b ∷ more) is = ap (λ (xs : List ℕ). b ∷ xs) (last_byte_apart n more (omega (arith, is)))

-- equal verdicts have equal data
equal_ok : (a b : List ℕ) → ◌≡◌ {A = Verdict} (Ok a) (Ok b) → a ≡ b
equal_ok a b is = cc

-- a refusal isn't OK
err_is_not_ok : (f : FrameFault) (d : List ℕ) → ◌≡◌ {A = Verdict} (Err f) (Ok d) → ⊥
err_is_not_ok f d is = cc

-- a verdict that passed three tests
three_tests : (a b c : Bool) (f g h : FrameFault) (x : Verdict) (d : List ℕ)
    → cond a (Err f) (cond b (Err g) (cond c (Err h) x)) ≡ Ok d → (b ≡ false) × ((c ≡ false) × (x ≡ Ok d))
three_tests a b c f g h x d is = search (rules, err_is_not_ok)

-- a verdict that passed two tests
two_tests : (a b : Bool) (f g : FrameFault) (x d : List ℕ)
    → ◌≡◌ {A = Verdict} (cond a (cond b (Ok x) (Err f)) (Err g)) (Ok d)
    → (a ≡ true) × ((b ≡ true) × (x ≡ d))
two_tests a b f g x d is = search (rules, equal_ok, err_is_not_ok)

-- a verdict that passed one test
one_test : (a : Bool) (g : FrameFault) (x d : List ℕ) → ◌≡◌ {A = Verdict} (cond a (Ok x) (Err g)) (Ok d)
    → (a ≡ true) × (x ≡ d)
one_test a g x d is = search (rules, equal_ok, err_is_not_ok)

-- what passed the check of its first two bytes
pub first_two : (c : Command) (reply d : List ℕ) → judge c reply ≡ Ok d
    → (more : List ℕ) × ((reply ≡ code c ∷ 0 ∷ more) × (data_in_shape (shape c) more ≡ Ok d))
first_two c [] d judged = absurd (err_is_not_ok _ d judged)
first_two c (first ∷ []) d judged = elim (cases_Bool (first == code c)) [
  | inl same ↦ absurd (cc (rw same at judged))
  | inr differs ↦ absurd (cc (rw differs at judged))
]
first_two c (first ∷ status ∷ more) d judged =
    let t = three_tests _ (not (first == code c)) (not (status == 0)) _ _ _ (data_in_shape (shape c) more) d judged in (
      more,
      (
        ap₂ (λ (a b : ℕ). a ∷ b ∷ more) (eqb-true first (code c) (not-false (first == code c) t.0))
            (eqb-true status 0 (not-false (status == 0) t.1.0)),
        t.1.1,
      ),
    )

-- data that end in a byte 0
pub closed_is : (n : ℕ) (more d : List ℕ) → data_in_shape (Closed n) more ≡ Ok d
    → (more ≡ d ++ (0 ∷ [])) × (length d ≡ n)
closed_is n more d is = search (rules, two_tests, eqb-true, last_byte_apart, ap₂, length-append)

-- data of a fixed count
pub bytes_is : (n : ℕ) (more d : List ℕ) → data_in_shape (Bytes n) more ≡ Ok d → (more ≡ d) × (length d ≡ n)
bytes_is n more d is = search (rules, one_test, eqb-true)

-- and conversely
pub closed_from : (n : ℕ) (d : List ℕ) → length d ≡ n → data_in_shape (Closed n) (d ++ (0 ∷ [])) ≡ Ok d
closed_from n d long = search (rules, length-append, get_or-append_right, take-append-le, take_all, eq-eqb)
