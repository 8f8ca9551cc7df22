-- The written records of Intel HEX read back.
use Rattle.std.proofs.lemmas.Grind.{common_steps}
use Rattle.std.proofs.Common.{◌≡◌, ◌∙◌, ap, refl, arith, ℕ, ◌-◌, ◌/◌, ◌%◌, ◌^◌, ◌<◌, ◌≤◌, ◌==◌, true, false, List, [], ◌∷◌, ◌++◌, length, sum, map, Ok, inl, inr, rules}
use Rattle.std.specs.Prelude.{if◌then◌else◌}
use Rattle.std.specs.List.{list_all, flat_map}
use Rattle.std.proofs.lemmas.Bool.{cases_eq}
use Rattle.std.proofs.lemmas.Bool.Decides.{nat_tests}
use Rattle.std.proofs.lemmas.List.{append_assoc, length-append}
use Rattle.avr_image.specs.Runs.{places_of}
use Rattle.hex.specs.Hex.{IsBytes, encode_upper, upper_digits}
use Rattle.hex.proofs.HexLemmas.{length-encode_with}
use Rattle.avr_records.specs.Lines.{lines}
use Rattle.avr_records.specs.Meaning.{Data, Rebase, End, Nothing}
use Rattle.avr_records.specs.Ihex.{ihex_from_fields, typed_ihex}
use Rattle.avr_records.specs.Reading.{LineResult, line_result, record_meaning}
use Rattle.avr_records.specs.Sparse.{row_size}
use Rattle.avr_records.specs.Text.{two_bytes, with_sum_checksum, upper_record, ihex_rows}
use Rattle.avr_records.specs.declared.kind.Kind.TheVariants.{Ihex}
use Rattle.avr_records.specs.declared.kind.AddressBase.TheVariants.{Linear}
use Rattle.avr_records.proofs.Rows.Cuts.{IsBytes_nil, IsBytes_cons, IsBytes_append, IsRow, Every}
use Rattle.avr_records.proofs.Writers.Lines.{is_plain, plain_digits, encode_digits, bytes_of_encode, result_plain, lines_plain, lines_written}
use Rattle.avr_records.proofs.Writers.Reread.{GoesOn, with_end, threaded, places_linear}

-- the bytes between the colon and the checksum
abbrev unsummed : ℕ → ℕ → List ℕ → List ℕ
unsummed type offset bytes = length bytes ∷ two_bytes offset ++ type ∷ bytes

-- the line of a record, without its end
abbrev line_of : ℕ → ℕ → List ℕ → List ℕ
line_of type offset bytes = 58 ∷ encode_upper (with_sum_checksum (unsummed type offset bytes))

-- a record with its checksum is bytes
IsBytes_summed : (type offset : ℕ) (bytes : List ℕ) → type < 256 → length bytes ≤ 32 → IsBytes bytes
    → IsBytes (with_sum_checksum (unsummed type offset bytes))
IsBytes_summed type offset bytes known short all = grind (arith, nat_tests, IsBytes_append)

-- the line of a record has no line end and no blank
plain_line : (type offset : ℕ) (bytes : List ℕ) → type < 256 → length bytes ≤ 32 → IsBytes bytes
    → list_all is_plain (line_of type offset bytes) ≡ true
plain_line type offset bytes known short all = grind (arith, common_steps, plain_digits, encode_digits)

-- the fields of a record with its checksum are those it was made of
fields_summed : (type offset : ℕ) (bytes : List ℕ) → offset < 65536
    → ihex_from_fields (with_sum_checksum (unsummed type offset bytes)) ≡ typed_ihex type offset bytes
fields_summed type offset bytes below = grind (arith, common_steps, nat_tests)

-- the line of a record means the record
emits_line : (type offset : ℕ) (bytes : List ℕ) → type < 256 → offset < 65536 → length bytes ≤ 32 → IsBytes bytes
    → line_result Ihex (line_of type offset bytes) ≡ record_meaning Ihex (typed_ihex type offset bytes)
emits_line type offset bytes known below short all =
    let prefix : List ℕ = unsummed type offset bytes in
    let check : ℕ = (256 - sum prefix % 256) % 256 in
    let width : length (line_of type offset bytes) ≤ 600 =
    omega (arith, length-encode_with upper_digits (with_sum_checksum prefix), length-append bytes (check ∷ [])) in
    search (rules, result_plain, plain_line, bytes_of_encode, IsBytes_summed, fields_summed)

-- a record of type 4 sets the upper 16 bits
typed_upper : (upper : ℕ) → upper < 65536
    → record_meaning Ihex (typed_ihex 4 0 (two_bytes upper)) ≡ Ok (Rebase (Linear upper))
typed_upper upper below = ap (λ (n : ℕ). Ok (Rebase (Linear n))) (omega arith)

-- what the record before a row means, if the upper 16 bits change there
abbrev upper_emitted : ℕ → ℕ → List LineResult
upper_emitted old new = if new == old then [] else Ok (Rebase (Linear new)) ∷ []

-- what the lines of the rows mean while these upper 16 bits are in force
abbrev pub row_results : ℕ → List (ℕ × List ℕ) → List LineResult
row_results upper [] = []
row_results upper (row ∷ rows) = upper_emitted upper (row.0 / 65536) ++ Ok (Data (row.0 % 65536) row.1)
    ∷ row_results (row.0 / 65536) rows

-- the lines from a row on: first the record of the upper 16 bits, if they change
upper_lines : (old new : ℕ) (rest : List ℕ) → new < 65536
    → map (line_result Ihex) (lines (upper_record old new ++ rest))
    ≡ upper_emitted old new ++ map (line_result Ihex) (lines rest)
upper_lines old new rest below =
    elim (cases_eq new old) [
      | inl same ↦ let test : (new == old) ≡ true = grind (arith, nat_tests) in rw test refl
      | inr other ↦
          let test : (new == old) ≡ false = grind (arith, nat_tests) in
          let bytes = IsBytes_cons (new / 256 % 256) ((new % 256) ∷ []) (omega arith)
          (IsBytes_cons (new % 256) [] (omega arith) IsBytes_nil) in
          let plain = plain_line 4 0 (two_bytes new) (omega arith) (omega arith) bytes in
          let meant : line_result Ihex (line_of 4 0 (two_bytes new)) ≡ Ok (Rebase (Linear new)) =
          emits_line 4 0 (two_bytes new) (omega arith) (omega arith) (omega arith) bytes ∙ typed_upper new below in
          search (rules, lines_written)
    ]

-- the lines of the text mean the rows and the end
pub lines_results : (upper end : ℕ) (rows : List (ℕ × List ℕ)) → end ≤ 2 ^ 32 → Every (IsRow (row_size Ihex) end) rows
    → map (line_result Ihex) (lines (ihex_rows upper rows)) ≡ row_results upper rows ++ Ok End ∷ Ok Nothing ∷ []
lines_results upper end [] fits all = search (rules, plain_line, lines_plain, emits_line)
lines_results upper end (row ∷ rows) fits all =
    let high : ℕ = row.0 / 65536 in
    search (
      rules,
      plain_line,
      emits_line,
      append_assoc,
      upper_lines,
      lines_written,
      lines_results high end rows fits all.1,
    )

-- no line of rows is a fault, a count or an end record
pub rows_go_on : (upper : ℕ) (cut : List (ℕ × List ℕ)) → Every GoesOn (row_results upper cut)
rows_go_on upper [] = tt
rows_go_on upper (row ∷ more) = let high : ℕ = row.0 / 65536 in search (rules, rows_go_on high more)

-- the lines of rows put each byte at its address
pub rows_threaded : (upper : ℕ) (rows : List (ℕ × List ℕ))
    → threaded (Linear upper) (with_end (row_results upper rows)) ≡ flat_map places_of rows
rows_threaded upper [] = refl
rows_threaded upper (row ∷ rows) =
    let high : ℕ = row.0 / 65536 in search (rules, nat_tests, places_linear, rows_threaded high rows)
