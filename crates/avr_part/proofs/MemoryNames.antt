-- A memory is found by its own name only.
use Rattle.std.proofs.Common.{◌≡◌, arith, ℕ, List, [], ◌∷◌, Bool, true, find, Some, inl, inr, rules}
use Rattle.std.proofs.lemmas.Bool.{cases_Bool}
use Rattle.std.proofs.lemmas.Slice.Eq.{bytes_eq-Decides}
use Rattle.std.specs.Str.{bytes_eq}
use Rattle.avr_part.specs.Mem.{name_of, memory_named, all_memories}
use Rattle.avr_part.specs.declared.part.Mem.{Mem}

-- each memory is found by its name
pub found_by_name : (m : Mem) → memory_named (name_of m) ≡ Some m
found_by_name m = search rules

-- what a search finds passes the test
find_passes : {A : Type 0} (test : A → Bool) (xs : List A) (x : A) → find test xs ≡ Some x → test x ≡ true
find_passes test [] x e = absurd (cc)
find_passes test (y ∷ ys) x e =
    elim (cases_Bool (test y)) [
      | inl passes ↦ grind (arith)
      | inr fails ↦ find_passes test ys x (rw fails at e)
    ]

-- a memory is found by no other name
pub name_of_found : (text : List ℕ) (m : Mem) → memory_named text ≡ Some m → text ≡ name_of m
name_of_found text m e =
    let passes = find_passes (λ (memory : Mem). bytes_eq (name_of memory) text) all_memories m e in
    grind (arith, bytes_eq-Decides (name_of m) text)
