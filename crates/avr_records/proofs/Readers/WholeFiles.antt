-- The first fault of the ended lines is that of the whole file.
use Rattle.std.proofs.Common.{rules}
use Rattle.std.proofs.lemmas.Bool.Decides.{nat_tests}
use Rattle.std.proofs.Common.{arith, ◌≡◌, ◌∙◌, sym, ap, ℕ, List, [], ◌∷◌, ◌++◌, map, Option, Some, Err}
use Rattle.std.proofs.lemmas.List.{map-append}
use Rattle.avr_records.specs.Lines.{lines, is_line_end}
use Rattle.avr_records.specs.Reading.{LineResult, first_fault, line_result, image_in_text, ok_unless}
use Rattle.avr_records.specs.Closed.{all_but_last, first_fault_among, ended_lines_fault}
use Rattle.avr_records.specs.Reader.{ReaderState, MayHaveRead, IsNewReader, memory_size}
use Rattle.avr_records.specs.declared.kind.Kind.{Kind}
use Rattle.avr_records.specs.declared.fault.RecordFault.{RecordFault}
use Rattle.avr_records.proofs.Readers.Fed.{but_last}
use Rattle.avr_records.proofs.Readers.LaterLines.{with_lines_before_append, up_to_end_open, up_to_end_done, parts_some}

-- the first fault of a list stays the first, whatever follows
first_fault_stands : (size : ℕ) (ps qs : List (List LineResult × LineResult)) (notice : RecordFault)
    → first_fault size ps ≡ Some notice → first_fault size (ps ++ qs) ≡ Some notice
first_fault_stands size [] qs notice is = absurd (cc is)
first_fault_stands size (p ∷ ps) qs notice is = grind (arith, nat_tests, first_fault_stands size ps qs notice)

-- lines after the first fault don't change it
pub among_stands : (size : ℕ) (meant more : List LineResult) (notice : RecordFault) → first_fault_among size meant
    ≡ Some notice → first_fault_among size (meant ++ more) ≡ Some notice
among_stands size meant more notice is =
    grind (arith, nat_tests, up_to_end_done, up_to_end_open, with_lines_before_append, first_fault_stands)

-- a fault of the ended lines is the fault of the whole text
pub ended_fault_stands : (kind : Kind) (size : ℕ) (text : List ℕ) (notice : RecordFault)
    → ended_lines_fault kind text size ≡ Some notice → image_in_text kind text size ≡ Err notice
ended_fault_stands kind size text notice is =
    let some = parts_some is_line_end text in
    let cut = but_last some.0 some.1 in
    let closed : List (List ℕ) = all_but_last (lines text) in
    let same : lines text ≡ closed ++ cut.0 ∷ [] =
    some.2 ∙ cut.1 ∙ ap (λ (ls : List (List ℕ)). all_but_last ls ++ cut.0 ∷ []) (sym some.2) in
    let meant : map (line_result kind) (lines text) ≡ map (line_result kind) closed ++ line_result kind cut.0 ∷ [] =
    ap (map (line_result kind)) same ∙ map-append (line_result kind) closed (cut.0 ∷ []) in
    let whole : first_fault_among size (map (line_result kind) (lines text)) ≡ Some notice =
    ap (first_fault_among size) meant ∙ among_stands size (map (line_result kind) closed) (line_result kind cut.0
    ∷ []) notice is in search rules

-- if an error is returned for a fault, there is that fault
pub none_or : (fault : Option RecordFault) (notice : RecordFault) → Err notice ≡ ok_unless fault (tt {0}) → fault
    ≡ Some notice
none_or fault notice is = search rules

-- the fault that a new reader returns for a whole file
pub new_reader_fault : (kind : Kind) (size : ℕ) (s : ReaderState) (text : List ℕ) (notice : RecordFault)
    → IsNewReader kind size s → ((before : List ℕ) → MayHaveRead s before
    → Err notice ≡ ok_unless (ended_lines_fault s.kind (before ++ text) (memory_size s)) (tt {0}))
    → Err notice ≡ image_in_text kind text size
new_reader_fault kind size s text notice new is =
    let of_s : ended_lines_fault s.kind text (memory_size s) ≡ Some notice =
    none_or (ended_lines_fault s.kind text (memory_size s)) notice (is [] new.nothing_fed) in
    search (rules, ended_fault_stands)
