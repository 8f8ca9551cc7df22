-- What a walk over an image finds, address by address.
use Rattle.std.proofs.lemmas.Bool.Decides.{nat_tests}
use Rattle.std.proofs.Common.{◌≡◌, ◌∙◌, refl, arith, ℕ, suc, zero, ◌+◌, ◌-◌, ◌<◌, ◌≤◌, List, [], ◌∷◌, length, get_or, take, drop, Bool, true, false, Option, Some, None, is_some, inl, inr, rules}
use Rattle.std.proofs.lemmas.Bool.{cases_Bool, cases_lt}
use Rattle.std.proofs.lemmas.List.{length-drop, length-take, get_or-drop, get_or-take}
use Rattle.std.proofs.lemmas.List.Sums.{prefix_len-le-length, prefix_len_passes, prefix_len_stops}
use Rattle.std.specs.List.{position_from}
use Rattle.avr_image.specs.Image.{byte_at, first_from, run_end, filled_bytes}
use Rattle.avr_image.specs.Walk.{IsNextHeld, IsByteRun, IsFilled}
use Rattle.avr_image.proofs.Fields.Shown.{none_past}

-- a byte that isn't there is none
none_is : (byte : Option ℕ) → is_some byte ≡ false → byte ≡ None
none_is byte e = search rules

-- the place that a search gives
record Found {X : Type 0} (p : X → Bool) (xs : List X) (d : X) (place : ℕ) : Type 0 where
  within : place < length xs
  here : p (get_or xs place d) ≡ true
  before : (k : ℕ) → k < place → p (get_or xs k d) ≡ false

-- an item that doesn't pass moves the place by one
found_later : {X : Type 0} (p : X → Bool) (x : X) (xs : List X) (d : X) (place : ℕ) → p x ≡ false → Found p xs d place
    → Found p (x ∷ xs) d (suc place)
found_later p x xs d place first found = search rules

-- the place that a search returns is the first one
found_at : {X : Type 0} (p : X → Bool) (xs : List X) (d : X) (i n : ℕ) → position_from p i xs ≡ Some n
    → (place : ℕ) × (n ≡ i + place) × Found p xs d place
found_at p [] d i n e = cc
found_at p (x ∷ xs) d i n e = elim (cases_Bool (p x)) [
  | inl passes ↦
      let same : Some i ≡ Some n = rw passes at e in
      let here : i ≡ n = cc in (search rules)
  | inr fails ↦
      let rest : position_from p (i + 1) xs ≡ Some n = rw fails at e in
      let found = found_at p xs d (i + 1) n rest in
      (suc found.0, omega (arith, found.1), found_later p x xs d found.0 fails found.2)
]

-- if a search returns none, no item passes
none_found : {X : Type 0} (p : X → Bool) (xs : List X) (d : X) (i : ℕ) → position_from p i xs ≡ None → (k : ℕ)
    → k < length xs → p (get_or xs k d) ≡ false
none_found p [] d i e k l = absurd (omega (arith, l))
none_found p (x ∷ xs) d i e zero l = grind (arith, nat_tests)
none_found p (x ∷ xs) d i e (suc k) l = elim (cases_Bool (p x)) [
  | inl passes ↦ let bad : Some i ≡ None = rw passes at e in cc
  | inr fails ↦
      let rest : position_from p (i + 1) xs ≡ None = rw fails at e in
      none_found p xs d (i + 1) rest k (omega (arith, l))
]

-- the address found is the next that holds a byte
pub next_held : (image : List (Option ℕ)) (addr place : ℕ) → first_from image addr ≡ Some place
    → IsNextHeld image addr place
next_held image addr place e =
    let found = found_at is_some (drop addr image) None addr place e in
    let left = length-drop addr image in
    record {
      after = omega (arith, found.1);
      within = omega (arith, found.1, found.2.within, left);
      held = search (rules, get_or-drop);
      gap = λ k a l.
          let there : addr + (k - addr) ≡ k = omega (arith, a) in
          none_is (byte_at image k) (search (rules, get_or-drop));
    }

-- if none is found, no byte follows
pub none_held : (image : List (Option ℕ)) (addr : ℕ) → first_from image addr ≡ None → (k : ℕ) → addr ≤ k
    → byte_at image k ≡ None
none_held image addr e k a = elim (cases_lt k (length image)) [
  | inl inside ↦
      let there : addr + (k - addr) ≡ k = omega (arith, a) in
      none_is (byte_at image k) (search (rules, get_or-drop, none_found, length-drop))
  | inr past ↦ none_past image k past
]

-- the run found goes as far as bytes do
pub run_is_longest : (image : List (Option ℕ)) (addr end : ℕ) → addr ≤ end
    → IsByteRun image addr end (run_end image addr end)
run_is_longest image addr end room =
    let row = take (end - addr) (drop addr image) in
    let row_len = length-take (end - addr) (drop addr image) in
    let fits = prefix_len-le-length is_some row in
    let at : (k : ℕ) → k < end - addr → get_or row k None ≡ byte_at image (addr + k) =
    λ k j. get_or-take (end - addr) (drop addr image) k None j ∙ get_or-drop addr image k None in
    record {
      after = omega arith;
      bound = omega (arith, fits, row_len, room);
      held = λ k a l.
          let there : addr + (k - addr) ≡ k = omega (arith, a) in
          search (rules, prefix_len_passes);
      stop = search (rules, prefix_len_stops, none_past);
    }

-- the filled bytes are right address by address
pub filled_is : (image : List (Option ℕ)) (start n : ℕ) → IsFilled image start n (filled_bytes image start n)
filled_is image start zero = record { size = refl; byte = λ i l. absurd (omega (arith, l)) }
filled_is image start (suc n) = search (rules, filled_is image (start + 1) n)
