-- The first fault of a record file stays its fault, whatever follows.
use Rattle.std.proofs.Common.{◌≡◌, ◌∙◌, ap, refl, ℕ, List, [], ◌∷◌, ◌++◌, Some, Err, rules}
use Rattle.std.proofs.lemmas.List.{append-nil, map-append}
use Rattle.avr_records.proofs.Readers.LaterLines.{parts_some}
use Rattle.avr_records.proofs.Readers.Fed.{text_goes_on, closed_prefix}
use Rattle.avr_records.proofs.Readers.WholeFiles.{among_stands}
use Rattle.avr_records.specs.Closed.{all_but_last, ended_lines_fault}
use Rattle.avr_records.specs.Lines.{lines, is_line_end}
use Rattle.avr_records.specs.Reading.{image_in_text}
use Rattle.avr_records.specs.declared.kind.Kind.{Kind}
use Rattle.avr_records.specs.declared.fault.RecordFault.{RecordFault}

-- A list that is not empty has a last element.
cut_last : (first : List ℕ) (more : List (List ℕ))
    → (prefix : List (List ℕ)) × (last : List ℕ) × (first ∷ more ≡ prefix ++ last ∷ [])
cut_last first [] = ([], first, refl)
cut_last first (next ∷ more) =
    let rest = cut_last next more in (first ∷ rest.0, rest.1, ap (λ (zs : List (List ℕ)). first ∷ zs) rest.2)

-- The lines of a text and of a longer one: all but the last are the same, and the last goes on.
record Lengthened (kind : Kind) (text more : List ℕ) : Type 0 where
  prefix : List (List ℕ)
  goes_on : List ℕ
  behind : List (List ℕ)
  closed : all_but_last (lines text) ≡ prefix
  lines_are : lines (text ++ more) ≡ prefix ++ goes_on ∷ behind

-- Each text and what follows it have such lines.
lengthened : (kind : Kind) (text more : List ℕ) → Lengthened kind text more
lengthened kind text more =
    let some = parts_some is_line_end text in
    let cut = cut_last some.0 some.1 in
    let next = parts_some is_line_end more in
    let is : lines text ≡ cut.0 ++ cut.1 ∷ [] = some.2 ∙ cut.2 in
    record {
      prefix = cut.0;
      goes_on = cut.1 ++ next.0;
      behind = next.1;
      closed = ap all_but_last is ∙ closed_prefix cut.0 cut.1 [] ∙ append-nil cut.0;
      lines_are = text_goes_on text more cut.0 cut.1 next.0 next.1 is next.2;
    }

-- The first fault among the lines that have ended stays the first one when more bytes come.
pub ended_lines_fault-more : (kind : Kind) (text more : List ℕ) (size : ℕ) (fault : RecordFault)
    → ended_lines_fault kind text size ≡ Some fault → ended_lines_fault kind (text ++ more) size ≡ Some fault
ended_lines_fault-more kind text more size fault is =
    let l = lengthened kind text more in search (rules, closed_prefix, map-append, among_stands)

-- The first fault among the lines that have ended is the fault of the whole file.
pub ended_lines_fault-whole : (kind : Kind) (text more : List ℕ) (size : ℕ) (fault : RecordFault)
    → ended_lines_fault kind text size ≡ Some fault → image_in_text kind (text ++ more) size ≡ Err fault
ended_lines_fault-whole kind text more size fault is =
    let l = lengthened kind text more in search (rules, map-append, among_stands)
