-- The first fault of the lines that have ended. `RecordReader::feed` returns it.
use Rattle.std.specs.Prelude.{ℕ, List, [], ◌∷◌, map, Option}
use Rattle.avr_records.specs.Lines.{lines}
use Rattle.avr_records.specs.Reading.{LineResult, up_to_end, with_lines_before, first_fault, line_result}
use Rattle.avr_records.specs.declared.kind.Kind.{Kind}
use Rattle.avr_records.specs.declared.fault.RecordFault.{RecordFault}

-- The lines that have ended. The last one may go on.
abbrev pub all_but_last : List (List ℕ) → List (List ℕ)
all_but_last [] = []
all_but_last (line ∷ []) = []
all_but_last (line ∷ next ∷ more) = line ∷ all_but_last (next ∷ more)

-- The first fault of some lines. Lines after an end record don't count.
abbrev pub first_fault_among : ℕ → List LineResult → Option RecordFault
first_fault_among size meant = first_fault size (with_lines_before [] (up_to_end meant))

-- The first fault of the text's ended lines, for a memory of this size.
abbrev pub ended_lines_fault : Kind → List ℕ → ℕ → Option RecordFault
ended_lines_fault kind text size = first_fault_among size (map (line_result kind) (all_but_last (lines text)))
