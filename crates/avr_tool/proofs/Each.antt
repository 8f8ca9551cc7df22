-- What holds of each element of a list.
use Rattle.std.proofs.Common.{ℕ, zero, suc, ◌+◌, List, [], ◌∷◌, ◌++◌, rules}
use Rattle.stk_frame.specs.declared.command.Command.{Command}
use Rattle.stk_host.specs.Places.{each_from}

-- each element has the property
abbrev pub Each : {A : Type 0} → (A → Type 0) → List A → Type 0
Each P [] = Unit {0}
Each P (x ∷ xs) = P x × Each P xs

-- the elements of two lists in one
pub each_on : {A : Type 0} (P : A → Type 0) (xs ys : List A) → Each P xs → Each P ys → Each P (xs ++ ys)
each_on P [] ys f g = g
each_on P (x ∷ xs) ys f g = (f.0, each_on P xs ys f.1 g)

-- it holds of each step if it holds of those at each place
pub each_of : (P : List Command → Type 0) (steps_at : ℕ → List (List Command)) (place count : ℕ)
    → ((i : ℕ) → Each P (steps_at i)) → Each P (each_from steps_at place count)
each_of P steps_at place zero each = tt
each_of P steps_at place (suc count) each = search (rules, each_on, each_of P steps_at (place + 1) count each)
