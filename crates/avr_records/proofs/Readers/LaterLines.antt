-- Lines added after others: their faults, their end record and where a text is cut into lines.
use Rattle.std.proofs.lemmas.Bool.Decides.{nat_tests}
use Rattle.std.proofs.Common.{◌≡◌, ◌∙◌, sym, ap, refl, arith, ℕ, ◌+◌, List, [], ◌∷◌, ◌++◌, Bool, true, false, Option, None, inl, inr, rules}
use Rattle.std.proofs.lemmas.Bool.{cases_Bool}
use Rattle.std.proofs.lemmas.List.{append-nil, append_assoc}
use Rattle.std.proofs.lemmas.List.Splits.{slice_split-cons_yes, slice_split-cons_no}
use Rattle.std.specs.List.{list_any, slice_split, onto_first}
use Rattle.std.specs.Option.{option_map, option_or}
use Rattle.avr_records.specs.Reading.{LineResult, is_end_record, up_to_end, with_lines_before, first_fault, in_line}
use Rattle.avr_records.specs.declared.fault.LineFault.{LineFault}
use Rattle.avr_records.specs.declared.fault.RecordFault.{RecordFault}

-- each line with the lines before it, of two lists
pub with_lines_before_append : (before xs ys : List LineResult)
    → with_lines_before before (xs ++ ys) ≡ with_lines_before before xs ++ with_lines_before (before ++ xs) ys
with_lines_before_append before [] ys = ap (λ (b : List LineResult). with_lines_before b ys) (sym (append-nil before))
with_lines_before_append before (x ∷ xs) ys =
    grind (arith, nat_tests, with_lines_before_append (before ++ x ∷ []) xs ys, append_assoc)

-- if there is no fault, there is none now and none later
pub or_later_none : (n : ℕ) (fault : Option LineFault) (later : Option RecordFault)
    → option_or (option_map (in_line n) fault) later ≡ None → (fault ≡ None) × (later ≡ None)
or_later_none n fault later e = search rules

-- if the first list has no fault, the second one decides
pub first_fault_append : (size : ℕ) (ps qs : List (List LineResult × LineResult)) → first_fault size ps ≡ None
    → first_fault size (ps ++ qs) ≡ first_fault size qs
first_fault_append size [] qs none = refl
first_fault_append size (p ∷ ps) qs none =
    grind (arith, nat_tests, or_later_none, first_fault_append size ps qs)

-- without an end record in the first list all its lines count, then those of the second up to an end record
pub up_to_end_open : (xs ys : List LineResult) → list_any is_end_record (up_to_end xs) ≡ false
    → up_to_end (xs ++ ys) ≡ up_to_end xs ++ up_to_end ys
up_to_end_open [] ys none = refl
up_to_end_open (x ∷ xs) ys none = grind (arith, nat_tests, up_to_end_open xs ys)

-- with an end record in the first list nothing of the second counts
pub up_to_end_done : (xs ys : List LineResult) → list_any is_end_record (up_to_end xs) ≡ true → up_to_end (xs ++ ys)
    ≡ up_to_end xs
up_to_end_done [] ys some = absurd (grind arith)
up_to_end_done (x ∷ xs) ys some = grind (arith, nat_tests, up_to_end_done xs ys)

-- the lines that count have an end record exactly if the lines have one
pub up_to_end_any : (xs : List LineResult) → list_any is_end_record (up_to_end xs) ≡ list_any is_end_record xs
up_to_end_any [] = refl
up_to_end_any (x ∷ xs) = grind (arith, nat_tests, up_to_end_any xs)

-- a text has at least one part
pub parts_some : (p : ℕ → Bool) (xs : List ℕ)
    → (first : List ℕ) × (more : List (List ℕ)) × (slice_split p xs ≡ first ∷ more)
parts_some p [] = ([], [], refl)
parts_some p (x ∷ xs) =
    elim (cases_Bool (p x)) [
      | inl t ↦ ([], slice_split p xs, slice_split-cons_yes p x xs t)
      | inr f ↦ let rest = parts_some p xs in (
        x ∷ rest.0,
        rest.1,
        slice_split-cons_no p x xs f ∙ ap (onto_first x) rest.2,
      )
    ]

-- splitting two texts joined: the last part of the first is continued by the first part of the second
abbrev pub pasted : List (List ℕ) → List (List ℕ) → List (List ℕ)
pasted [] more = more
pasted (part ∷ []) [] = part ∷ []
pasted (part ∷ []) (first ∷ more) = (part ++ first) ∷ more
pasted (part ∷ next ∷ parts) more = part ∷ pasted (next ∷ parts) more

-- an empty part continued by others is these others
pub pasted_nil : (more : List (List ℕ)) (first : List ℕ) (rest : List (List ℕ)) → more ≡ first ∷ rest
    → pasted ([] ∷ []) more ≡ more
pasted_nil more first rest e = search rules

-- two texts joined are split as each of them, pasted
pub slice_split_append : (p : ℕ → Bool) (xs ys : List ℕ)
    → slice_split p (xs ++ ys) ≡ pasted (slice_split p xs) (slice_split p ys)
slice_split_append p [] ys = let some = parts_some p ys in sym (pasted_nil (slice_split p ys) some.0 some.1 some.2)
slice_split_append p (x ∷ xs) ys = search (rules, parts_some p xs, slice_split_append p xs ys)

-- pasting continues the last part by the first
pub pasted_last : (prefix : List (List ℕ)) (last first : List ℕ) (more : List (List ℕ))
    → pasted (prefix ++ last ∷ []) (first ∷ more) ≡ prefix ++ (last ++ first) ∷ more
pasted_last (part ∷ next ∷ prefix) last first more = simp (pasted_last (next ∷ prefix) last first more)
pasted_last x last first more = refl
