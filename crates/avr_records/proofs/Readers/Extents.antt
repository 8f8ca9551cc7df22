-- The loop of `needed_size`, line by line, gives the size that the text needs.
use Rattle.std.proofs.lemmas.Bool.Decides.{nat_tests}
use Rattle.std.proofs.Common.{arith, ◌≡◌, ◌∙◌, sym, ap, refl, ℕ, ◌+◌, List, [], ◌∷◌, ◌++◌, length, map, true, false, Ok, Err, rules}
use Rattle.std.proofs.lemmas.List.{append-nil, append_assoc, map-append, nil_from_length, length-append}
use Rattle.avr_records.specs.Lines.{lines}
use Rattle.avr_records.specs.Needed.{largest_memory, needed_by, size_needed_in_text}
use Rattle.avr_records.specs.Progress.{IsExtentOf}
use Rattle.avr_records.specs.Reading.{LineResult, up_to_end, line_result}
use Rattle.avr_records.specs.Steps.{next_extent}
use Rattle.avr_records.specs.declared.progress.Extent.{Extent}
use Rattle.avr_records.specs.declared.kind.Kind.{Kind}
use Rattle.avr_records.specs.declared.fault.RecordFault.{RecordFault}
use Rattle.avr_records.proofs.Readers.Fed.{line_first, result_nothing, results_prefix}
use Rattle.avr_records.proofs.Readers.Held.{counts_good_line, counts_past_end, counts_bad_line}

-- `left` are the text's remaining lines, and the extent is that of the lines before.
pub record Walked (kind : Kind) (e : Extent) (text : List ℕ) (left : List (List ℕ)) : Type 0 where
  pub prefix : List (List ℕ)
  pub cut : lines text ≡ prefix ++ left
  pub extent : IsExtentOf largest_memory e (up_to_end (map (line_result kind) prefix))

-- the results of all lines are those of the lines before, then those of the lines left
meant_all : (kind : Kind) (prefix left : List (List ℕ)) (text : List ℕ) → lines text ≡ prefix ++ left
    → map (line_result kind) (lines text) ≡ map (line_result kind) prefix ++ map (line_result kind) left
meant_all kind prefix left text cut = grind (arith, nat_tests, map-append)

-- the lines that are left once one more has ended
pub left_lines : (left line more : List ℕ) → lines line ≡ line ∷ [] → left ≡ line ++ 10 ∷ more
    → lines left ≡ line ∷ lines more
left_lines left line more one end = ap lines end ∙ line_first line more one

-- one more line was good
pub walks_good_line : (kind : Kind) (e new : Extent) (text line : List ℕ) (left more : List (List ℕ))
    → left ≡ line ∷ more → e.ended ≡ false → Walked kind e text left
    → next_extent largest_memory e (line_result kind line) ≡ Ok new → Walked kind new text more
walks_good_line kind e new text line left more is on w step = record {
  prefix = w.prefix ++ line ∷ [];
  cut = w.cut ∙ ap (λ (ls : List (List ℕ)). w.prefix ++ ls) is ∙ sym (append_assoc w.prefix (line ∷ []) more);
  extent = search (rules, results_prefix, counts_good_line);
}

-- the end of the extent is the size that these lines need
needed_is : (e : Extent) (meant : List LineResult) → IsExtentOf largest_memory e (up_to_end meant) → Ok e.end
    ≡ needed_by meant
needed_is e meant m = rw (m.no_fault, ← m.end) refl

-- nothing after an end record counts
pub walks_past_end : (kind : Kind) (e : Extent) (text : List ℕ) (left : List (List ℕ)) → e.ended ≡ true
    → Walked kind e text left → Ok e.end ≡ size_needed_in_text kind text
walks_past_end kind e text left done w =
    needed_is e _ (counts_past_end largest_memory e (map (line_result kind) w.prefix) (map (line_result kind) left) done
    w.extent)
    ∙ ap needed_by (sym (meant_all kind w.prefix left text w.cut))

-- without lines left the extent has the size that the text needs
pub walks_last_line : (kind : Kind) (e : Extent) (text : List ℕ) → Walked kind e text [] → Ok e.end
    ≡ size_needed_in_text kind text
walks_last_line kind e text w = grind (arith, nat_tests, append-nil)

-- a line with a fault gives the fault of the text
pub walks_bad_line : (kind : Kind) (e : Extent) (text line : List ℕ) (left more : List (List ℕ)) (fault : RecordFault)
    → left ≡ line ∷ more → e.ended ≡ false → Walked kind e text left
    → next_extent largest_memory e (line_result kind line) ≡ Err fault → Err fault ≡ size_needed_in_text kind text
walks_bad_line kind e text line left more fault is on w step =
    let bad = counts_bad_line largest_memory e (map (line_result kind) w.prefix) (map (line_result kind) more)
    (line_result kind line) fault on w.extent step in
    rw (meant_all kind w.prefix left text w.cut, is, bad) refl

-- an empty last line changes nothing
pub walks_empty_line : (kind : Kind) (e : Extent) (text left : List ℕ) → e.ended ≡ false
    → Walked kind e text (lines left) → length left ≡ 0 → Ok e.end ≡ size_needed_in_text kind text
walks_empty_line kind e text left on w zero-long =
    let none = nil_from_length left zero-long in
    let one : lines left ≡ [] ∷ [] = rw none refl in
    walks_last_line kind (record e { lines = e.lines + 1 }) text
    (walks_good_line kind e _ text [] (lines left) [] one on w (rw (result_nothing kind, on) refl))

-- the lemmas for the loop of `needed_size`
pub ruleset lines_walked = (nat_tests, length-append, left_lines, walks_good_line)
