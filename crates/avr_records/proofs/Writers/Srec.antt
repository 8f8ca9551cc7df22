-- The written S-records read back.
use Rattle.std.proofs.lemmas.Grind.{common_steps}
use Rattle.std.proofs.Common.{◌≡◌, ◌∙◌, ap, refl, arith, ℕ, zero, suc, ◌+◌, ◌-◌, ◌/◌, ◌^◌, ◌<◌, ◌≤◌, Bool, true, List, [], ◌∷◌, ◌++◌, length, map, Result, Ok, Err, rules}
use Rattle.std.specs.Prelude.{if◌then◌else◌}
use Rattle.std.specs.Char.{is_ascii_digit}
use Rattle.std.specs.List.{list_all, flat_map}
use Rattle.std.proofs.lemmas.Bool.Decides.{nat_tests}
use Rattle.std.proofs.lemmas.List.{length-append, take_at, drop_at}
use Rattle.std.proofs.lemmas.List.Sums.{fold-append}
use Rattle.std.proofs.lemmas.Nat.{div_below}
use Rattle.std.proofs.Math.Nat.{pow-suc}
use Rattle.avr_image.specs.Runs.{places_of}
use Rattle.hex.specs.Hex.{IsBytes, encode_upper}
use Rattle.hex.proofs.HexLemmas.{length-encode_with}
use Rattle.avr_records.specs.Lines.{lines}
use Rattle.avr_records.specs.Meaning.{Data, End, Nothing}
use Rattle.avr_records.specs.Record.{RecordFields, number, bytes_of_digits, ◌and_then◌}
use Rattle.avr_records.specs.Srec.{srec_from_fields, typed_srec, record_with_address}
use Rattle.avr_records.specs.Reading.{LineResult, line_result, record_meaning}
use Rattle.avr_records.specs.Text.{width_of, low_bytes, with_count_and_checksum, srec_rows, address_size}
use Rattle.avr_records.specs.declared.address_size.AddressSize.{AddressSize}
use Rattle.avr_records.specs.declared.kind.Kind.TheVariants.{Srec}
use Rattle.avr_records.specs.declared.kind.AddressBase.TheVariants.{Linear}
use Rattle.avr_records.specs.declared.fault.LineFault.{LineFault}
use Rattle.avr_records.specs.declared.fault.LineFault.TheVariants.{Mark}
use Rattle.avr_records.proofs.Writers.Pieces.{address_has_2_to_4_bytes, length_low_bytes}
use Rattle.avr_records.proofs.Rows.Cuts.{IsBytes_nil, IsBytes_append, IsRow, Every}
use Rattle.avr_records.proofs.Writers.Lines.{is_plain, plain_digits, encode_digits, bytes_of_encode, result_plain, lines_plain, lines_written}
use Rattle.avr_records.proofs.Writers.Reread.{GoesOn, with_end, threaded, places_linear}

-- the low bytes of a number are bytes
IsBytes_low_bytes : (size n : ℕ) → IsBytes (low_bytes size n)
IsBytes_low_bytes zero n = IsBytes_nil
IsBytes_low_bytes (suc size) n = grind (arith, common_steps, nat_tests, IsBytes_low_bytes size (n / 256))

-- they are the digits of the number, if it has no more
number_low_bytes : (size n : ℕ) → n < 256 ^ size → number (low_bytes size n) ≡ n
number_low_bytes zero n fits = omega arith
number_low_bytes (suc size) n fits =
    let high : n / 256 < 256 ^ size = div_below n 256 (256 ^ size) (omega arith) (rw (← pow-suc 256 size) fits) in
    search (rules, fold-append, number_low_bytes size (n / 256) high)

-- the line of an S-record, without its end
abbrev line_of : ℕ → List ℕ → List ℕ
line_of type body = 83 ∷ (48 + type) ∷ encode_upper (with_count_and_checksum body)

-- a record with its count and checksum is bytes
IsBytes_counted : (body : List ℕ) → length body ≤ 36 → IsBytes body → IsBytes (with_count_and_checksum body)
IsBytes_counted body short all = grind (arith, nat_tests, IsBytes_append)

-- the line of a record has no line end and no blank
plain_line : (type : ℕ) (body : List ℕ) → type ≤ 9 → length body ≤ 36 → IsBytes body
    → list_all is_plain (line_of type body) ≡ true
plain_line type body digit short all = grind (arith, common_steps, nat_tests, plain_digits, encode_digits)

-- the fields of a record with its count and checksum are those it was made of
fields_counted : (type : ℕ) (body : List ℕ)
    → srec_from_fields type (with_count_and_checksum body) ≡ typed_srec type body
fields_counted type body = grind (arith, common_steps, nat_tests)

-- the line of a record means the record
emits_line : (type : ℕ) (body : List ℕ) → type ≤ 9 → length body ≤ 36 → IsBytes body
    → line_result Srec (line_of type body) ≡ record_meaning Srec (typed_srec (48 + type) body)
emits_line type body digit short all =
    let width : length (line_of type body) ≤ 600 =
    search (rules, length-encode_with, length-append) in
    let mark : is_ascii_digit (48 + type) ≡ true = grind (arith, nat_tests) in
    result_plain Srec 83 ((48 + type) ∷ encode_upper (with_count_and_checksum body))
    (plain_line type body digit short all) width
    ∙ ap (λ (good : Bool). record_meaning Srec
    (if good then bytes_of_digits (encode_upper (with_count_and_checksum body)) and_then srec_from_fields
    (48 + type) else Err Mark)) mark
    ∙ ap (λ (bytes : Result (List ℕ) LineFault). record_meaning Srec (bytes and_then srec_from_fields (48 + type)))
    (bytes_of_encode (with_count_and_checksum body) (IsBytes_counted body short all))
    ∙ ap (record_meaning Srec) (fields_counted (48 + type) body)

-- the type of a data record says how many bytes its address has
typed_data : (size : AddressSize) (body : List ℕ)
    → typed_srec (48 + (width_of size - 1)) body ≡ record_with_address (width_of size - 1) (width_of size) body
typed_data size body = search rules

-- the record of this type, address and row
abbrev record_with : ℕ → ℕ → List ℕ → Result RecordFields LineFault
record_with type addr row = Ok (record { type = type; address = addr; bytes = row })

-- an address written in low bytes reads as the address
addressed_low : (type size addr : ℕ) (row : List ℕ) → addr < 256 ^ size
    → record_with_address type size (low_bytes size addr ++ row) ≡ record_with type addr row
addressed_low type size addr row fits =
    grind (arith, nat_tests, length_low_bytes, length-append, take_at, drop_at, number_low_bytes)

-- a data record means its row
meant_data : (size : AddressSize) (addr : ℕ) (row : List ℕ)
    → record_meaning Srec (record_with (width_of size - 1) addr row) ≡ Ok (Data addr row)
meant_data x addr row = grind (arith, nat_tests)

-- what the line of a row means
abbrev pub emitted_of : ℕ × List ℕ → LineResult
emitted_of row = Ok (Data row.0 row.1)

-- the lines of the text mean the rows and the end
pub lines_results : (size : AddressSize) (end : ℕ) (rows : List (ℕ × List ℕ)) → end ≤ 256 ^ width_of size
    → Every (IsRow (λ _. 32) end) rows
    → map (line_result Srec) (lines (srec_rows size rows)) ≡ map emitted_of rows ++ Ok End ∷ Ok Nothing ∷ []
lines_results size end [] fits all =
    let few = address_has_2_to_4_bytes size in
    let body : List ℕ = low_bytes (width_of size) 0 in
    let len = length_low_bytes (width_of size) 0 in
    let bytes = IsBytes_low_bytes (width_of size) 0 in
    let plain = plain_line (11 - width_of size) body (omega (arith, few.0)) (omega (arith, len, few.1)) bytes in
    search (rules, lines_plain, emits_line)
lines_results size end ((addr, row) ∷ rows) fits all =
    let few = address_has_2_to_4_bytes size in
    let is = all.0 in
    let type : ℕ = width_of size - 1 in
    let body : List ℕ = low_bytes (width_of size) addr ++ row in
    let len : length body ≡ width_of size + length row =
    length-append (low_bytes (width_of size) addr) row
    ∙ ap (λ (n : ℕ). n + length row) (length_low_bytes (width_of size) addr) in
    let bytes = IsBytes_append (low_bytes (width_of size) addr) row (IsBytes_low_bytes (width_of size) addr) is.bytes in
    let short : length body ≤ 36 = omega (arith, len, is.few, few.1) in
    let low : addr < 256 ^ width_of size = omega (arith, fits, is.some, is.below) in
    let digit : type ≤ 9 = omega (arith, few.1) in
    let plain = plain_line type body digit short bytes in
    let meant : line_result Srec (line_of type body) ≡ emitted_of (addr, row) =
    emits_line type body digit short bytes
    ∙ ap (record_meaning Srec) (typed_data size body ∙ addressed_low type (width_of size) addr row low)
    ∙ meant_data size addr row in search (rules, lines_written, lines_results size end rows fits all.1)

-- no line of rows is a fault, a count or an end record
pub rows_go_on : (rows : List (ℕ × List ℕ)) → Every GoesOn (map emitted_of rows)
rows_go_on [] = tt
rows_go_on (row ∷ rows) = (tt, rows_go_on rows)

-- the lines of rows put each byte at its address
pub rows_threaded : (rows : List (ℕ × List ℕ))
    → threaded (Linear 0) (with_end (map emitted_of rows)) ≡ flat_map places_of rows
rows_threaded [] = refl
rows_threaded (row ∷ rows) = grind (arith, nat_tests, rows_threaded rows, places_linear)

-- the size of addresses is enough for an address up to the last one
pub wide_enough : (last : ℕ) → last < 2 ^ 32 → last < 256 ^ width_of (address_size last)
wide_enough last below = grind (arith, nat_tests)
