-- How large a memory a record file needs: what `needed_size` returns.
use Rattle.std.specs.Prelude.{ℕ, ◌+◌, ◌-◌, ◌^◌, max, List, [], map, fold, Result}
use Rattle.avr_records.specs.Lines.{lines}
use Rattle.avr_records.specs.Reading.{LineResult, line_result, up_to_end, with_lines_before, bytes_of_lines, first_fault, ok_unless}
use Rattle.avr_records.specs.declared.kind.Kind.{Kind}
use Rattle.avr_records.specs.declared.fault.RecordFault.{RecordFault}

-- The most bytes of a memory that a file can be read into.
abbrev pub largest_memory : ℕ
largest_memory = 2 ^ 32 - 1

-- One more than the highest address of some bytes, but at least `end`.
abbrev pub end_after : ℕ → List (ℕ × ℕ) → ℕ
end_after = fold (λ end place. max end (place.0 + 1))

-- One more than the highest address of some bytes, or 0 without bytes.
abbrev pub end_of_bytes : List (ℕ × ℕ) → ℕ
end_of_bytes = end_after 0

-- The size that a file of these lines needs, or its first fault.
abbrev pub needed_by : List LineResult → Result ℕ RecordFault
needed_by meant =
    let taken = up_to_end meant in
    ok_unless (first_fault largest_memory (with_lines_before [] taken)) (end_of_bytes (bytes_of_lines taken))

-- One more than the file's highest byte address, or the first fault that a read into the largest memory returns.
abbrev pub size_needed_in_text : Kind → List ℕ → Result ℕ RecordFault
size_needed_in_text kind text = needed_by (map (line_result kind) (lines text))
