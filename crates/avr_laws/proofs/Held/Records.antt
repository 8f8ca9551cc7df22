-- The image that a text of records holds, if its reader finds no fault.
use Rattle.std.proofs.Common.{◌≡◌, ◌∙◌, ◌%◌, ◌+◌, sym, ap, subst, ℕ, zero, suc, List, [], ◌∷◌, ◌++◌, refl, Some, None, Option, Result, Ok, Err, Bool, true, false, count_by, arith, rules}
use Rattle.std.proofs.lemmas.Bool.Decides.{nat_tests}
use Rattle.std.proofs.lemmas.List.Sums.{fold-append, sum_by-append}
use Rattle.std.specs.Char.{is_ascii_digit}
use Rattle.std.specs.List.{list_all}
use Rattle.std.specs.Option.{option_or}
use Rattle.std.specs.Prelude.{map, length, not, nat_lt, flat_map, option_map, sum, ◌==◌, ◌||◌, ◌&&◌, if◌then◌else◌}
use Rattle.hex.specs.Hex.{decode_of}
use Rattle.hex.specs.declared.error.FromHexError.{FromHexError}
use Rattle.avr_image.specs.Image.{image_of_pairs}
use Rattle.avr_records.specs.Lines.{lines}
use Rattle.avr_records.specs.Record.{RecordFields, ◌and_then◌, bytes_of_digits}
use Rattle.avr_records.specs.Meaning.{Meaning, Nothing, Data, Rebase, Counted, End}
use Rattle.avr_records.specs.Ihex.{ihex_from_fields}
use Rattle.avr_records.specs.Srec.{srec_from_fields, typed_srec}
use Rattle.avr_records.specs.Reading.{LineResult, line_result, trimmed_line_result, record_meaning, is_data_record, up_to_end, with_lines_before, base_after, places, bytes_of_line, first_outside, first_fault, image_in_text, file_ending, ok_unless, next_base}
use Rattle.avr_laws.specs.HeldImage.{ihex_line, srec_meaning, srec_line, trimmed_line_meaning, line_meaning, placed_bytes, HoldsRecords}
use Rattle.avr_laws.proofs.Held.Sized.{decoded_digits}
use Rattle.avr_records.specs.declared.kind.Kind.{Kind}
use Rattle.avr_records.specs.declared.kind.Kind.TheVariants.{Ihex, Srec}
use Rattle.avr_records.specs.declared.kind.Ending.{Ending}
use Rattle.avr_records.specs.declared.kind.AddressBase.{AddressBase}
use Rattle.avr_records.specs.declared.fault.LineFault.{LineFault}
use Rattle.avr_records.specs.declared.fault.LineFault.TheVariants.{Mark, Length, Sum, Count}
use Rattle.avr_records.specs.declared.fault.RecordFault.{RecordFault}

-- ---- a line

-- the bytes of a line of Intel HEX that the reader takes mean what the definition says
ihex_fields : (bytes : List ℕ) (m : Meaning) → record_meaning Ihex (ihex_from_fields bytes) ≡ Ok m
    → ihex_line (Ok bytes) ≡ Some m
ihex_fields bytes m is = search (rules, nat_tests, nat_tests)

-- the same for an S-record, after its type's digit
srec_typed : (digit : ℕ) (bytes : List ℕ) (m : Meaning) → record_meaning Srec (typed_srec digit bytes) ≡ Ok m
    → srec_meaning digit bytes ≡ Some m
srec_typed digit bytes m is = search (rules, nat_tests)

-- by the reader's three tests of an S-record
srec_by_tests : (none sized summed : Bool) (r : Result RecordFields LineFault) (o : Option Meaning) (m : Meaning)
    → record_meaning Srec (if none || not sized then Err Length else if not summed then Err Sum else r) ≡ Ok m
    → (record_meaning Srec r ≡ Ok m → o ≡ Some m) → (if sized && summed then o else None) ≡ Some m
srec_by_tests none sized summed r o m is go_on = grind (arith)

-- the bytes of an S-record
srec_fields : (digit : ℕ) (bytes : List ℕ) (m : Meaning) → record_meaning Srec (srec_from_fields digit bytes) ≡ Ok m
    → srec_line digit (Ok bytes) ≡ Some m
srec_fields digit [] m is = absurd (cc is)
srec_fields digit (count ∷ more) m is = search (rules, srec_by_tests, srec_typed)

-- digits that are decoded to these bytes
decoded : (digits bytes : List ℕ) → bytes_of_digits digits ≡ Ok bytes → decode_of digits ≡ Ok bytes
decoded digits bytes is = search rules

-- a line that is read has bytes, and these are read
from_bytes : (kind : Kind) (r : Result (List ℕ) LineFault) (f : List ℕ → Result RecordFields LineFault) (m : Meaning)
    → record_meaning kind (r and_then f) ≡ Ok m
    → (bytes : List ℕ) × ((r ≡ Ok bytes) × (record_meaning kind (f bytes) ≡ Ok m))
from_bytes kind r f e h = search rules

-- the digits of a line of Intel HEX
ihex_digits : (digits : List ℕ) (m : Meaning)
    → record_meaning Ihex (bytes_of_digits digits and_then ihex_from_fields) ≡ Ok m
    → ihex_line (decode_of digits) ≡ Some m
ihex_digits digits m is = search (rules, from_bytes, decoded, ihex_fields)

-- the digits of an S-record
srec_digits : (digit : ℕ) (digits : List ℕ) (m : Meaning)
    → record_meaning Srec (bytes_of_digits digits and_then srec_from_fields digit) ≡ Ok m
    → srec_line digit (decode_of digits) ≡ Some m
srec_digits digit digits m is = search (rules, from_bytes, decoded, srec_fields)

-- a line without its white space means what it is read as
trimmed_meant : (kind : Kind) (line : List ℕ) (m : Meaning) → trimmed_line_result kind line ≡ Ok m
    → trimmed_line_meaning kind line ≡ Some m
trimmed_meant kind [] m is = search rules
trimmed_meant Ihex (mark ∷ digits) m is = search (rules, ihex_digits)
trimmed_meant Srec (mark ∷ []) m is = absurd (cc is)
trimmed_meant Srec (mark ∷ digit ∷ digits) m is = search (rules, srec_digits)

-- so does a whole line
line_meant : (kind : Kind) (line : List ℕ) (m : Meaning) → line_result kind line ≡ Ok m
    → line_meaning kind line ≡ Some m
line_meant Ihex line m is = search (rules, trimmed_meant)
line_meant Srec line m is = search (rules, trimmed_meant)

-- ---- the places of a text

-- if the first place outside isn't found, all are inside
all_inside : (size : ℕ) (placed : List (ℕ × ℕ)) → first_outside size placed ≡ None
    → list_all (λ (place : ℕ × ℕ). nat_lt place.0 size) placed ≡ true
all_inside size [] none = refl
all_inside size (place ∷ placed) none = search (rules, nat_tests, all_inside size placed)

append_inside : (size : ℕ) (a b : List (ℕ × ℕ)) → list_all (λ (place : ℕ × ℕ). nat_lt place.0 size) a ≡ true
    → list_all (λ (place : ℕ × ℕ). nat_lt place.0 size) b ≡ true
    → list_all (λ (place : ℕ × ℕ). nat_lt place.0 size) (a ++ b) ≡ true
append_inside size [] b first second = second
append_inside size (place ∷ a) b first second = search (rules, nat_tests, append_inside size a b)

-- neither of two options is given
or_none : {A : Type 0} (a b : Option A) → option_or a b ≡ None → (a ≡ None) × (b ≡ None)
or_none e b is = search rules

map_none : {A B : Type 0} (f : A → B) (a : Option A) → option_map f a ≡ None → a ≡ None
map_none e a is = search rules

-- a count that isn't refused is the right one
count_agrees : (same : Bool) (f : LineFault → RecordFault) → option_map f (if same then None else Some Count) ≡ None
    → same ≡ true
count_agrees same f none = search rules

-- the base after one more line
base_next : (before : List LineResult) (r : LineResult)
    → base_after (before ++ r ∷ []) ≡ next_base (base_after before) r
base_next before r = search (rules, fold-append)

-- the count of data records after one more line
count_next : (before : List LineResult) (r : LineResult) → count_by is_data_record (before ++ r ∷ [])
    ≡ (if is_data_record r then count_by is_data_record before + 1 else count_by is_data_record before)
count_next before r = grind (arith, nat_tests, sum_by-append)

-- the placed bytes of these lines, after those before
abbrev bytes_from : List LineResult → List LineResult → List (ℕ × ℕ)
bytes_from before after = flat_map bytes_of_line (with_lines_before before (up_to_end after))

-- the reader finds no fault in these lines, after those before
abbrev AreFine : ℕ → List LineResult → List LineResult → Type 0
AreFine size before after = first_fault size (with_lines_before before (up_to_end after)) ≡ None

-- the bytes of these lines are where the definition places them, inside the memory
record ArePlaced (size : ℕ) (before after : List LineResult) (means : List (Option Meaning)) : Type 0 where
  are : placed_bytes (base_after before) (count_by is_data_record before) means ≡ Some (bytes_from before after)
  are_inside : list_all (λ (place : ℕ × ℕ). nat_lt place.0 size) (bytes_from before after) ≡ true

-- under an equal base and count the same bytes are placed
placed_alike : (base new : AddressBase) (count next : ℕ) (means : List (Option Meaning)) (out : Option (List (ℕ
    × ℕ))) → base ≡ new → count ≡ next → placed_bytes base count means ≡ out → placed_bytes new next means ≡ out
placed_alike base new count next means out same equal is = search rules

module _ (size : ℕ) (before after : List LineResult) (means : List (Option Meaning))
    (rest : (more : List LineResult) → AreFine size more after → ArePlaced size more after means) where
  abbrev with_line : LineResult → List LineResult
  with_line r = before ++ r ∷ []

  -- so the later lines place theirs after this one
  next_are : (r : LineResult) → ArePlaced size (with_line r) after means
      → placed_bytes (next_base (base_after before) r) (if is_data_record r then count_by is_data_record before + 1
      else count_by is_data_record before) means ≡ Some (bytes_from (with_line r) after)
  next_are r next = search (rules, placed_alike, base_next, count_next)

  -- by what the first line means
  is_placed : (m : Meaning) → AreFine size before (Ok m ∷ after) → ArePlaced size before (Ok m ∷ after) (Some m ∷ means)
  is_placed Nothing fine =
      let next = rest (with_line (Ok Nothing)) fine in
      record { are = next_are (Ok Nothing) next; are_inside = next.are_inside }
  is_placed (Rebase new) fine =
      let next = rest (with_line (Ok (Rebase new))) fine in
      record { are = next_are (Ok (Rebase new)) next; are_inside = next.are_inside }
  is_placed (Data offset bytes) fine =
      let first = or_none _ _ fine in
      let next = rest (with_line (Ok (Data offset bytes))) first.1 in
      let these = places (base_after before) offset bytes in
      record {
        are = ap (option_map (λ (later : List (ℕ × ℕ)). these ++ later)) (next_are (Ok (Data offset bytes)) next);
        are_inside = search (rules, append_inside, all_inside, map_none);
      }
  is_placed (Counted n) fine =
      let first = or_none _ _ fine in
      let same = count_agrees (n == count_by is_data_record before) _ first.0 in
      let next = rest (with_line (Ok (Counted n))) first.1 in
      record { are = rw same (next_are (Ok (Counted n)) next); are_inside = next.are_inside }
  is_placed End fine = record { are = refl; are_inside = refl }

  -- by how the first line is read
  one_placed : (r : LineResult) (o : Option Meaning) → ((m : Meaning) → r ≡ Ok m → o ≡ Some m)
      → AreFine size before (r ∷ after) → ArePlaced size before (r ∷ after) (o ∷ means)
  one_placed (Err fault) o meant fine = absurd (cc fine)
  one_placed (Ok m) o meant fine = search (rules, is_placed m fine)

-- lines without a fault place their bytes as the definition says
lines_placed : (kind : Kind) (size : ℕ) (lines : List (List ℕ)) (before : List LineResult)
    → AreFine size before (map (line_result kind) lines)
    → ArePlaced size before (map (line_result kind) lines) (map (line_meaning kind) lines)
lines_placed kind size [] before fine = record { are = refl; are_inside = refl }
lines_placed kind size (line ∷ lines) before fine = search (rules, one_placed, lines_placed kind size lines, line_meant)

-- what is made unless there is a fault
ok_without_fault : {A : Type 0} (fault : Option RecordFault) (given made : A) → ok_unless fault given ≡ Ok made
    → (fault ≡ None) × (given ≡ made)
ok_without_fault fault given made e = search rules

-- an image that is read is the one that the text holds
pub held_records : (kind : Kind) (text : List ℕ) (size : ℕ) (image : List (Option ℕ)) (ending : Ending)
    → image_in_text kind text size ≡ Ok (image, ending) → HoldsRecords kind text size image
held_records kind text size image ending is =
    let meant = map (line_result kind) (lines text) in
    let good = ok_without_fault (first_fault size (with_lines_before [] (up_to_end meant)))
    (image_of_pairs size (bytes_from [] meant), file_ending meant) (image, ending) is in
    let placed = lines_placed kind size (lines text) [] good.0 in
    (bytes_from [] meant, placed.are, placed.are_inside, ap (λ (p : List (Option ℕ) × Ending). p.0) (sym good.1))

-- ---- and conversely

-- a line of Intel HEX that means this is read so
ihex_read : (bytes : List ℕ) (m : Meaning) → ihex_line (Ok bytes) ≡ Some m
    → record_meaning Ihex (ihex_from_fields bytes) ≡ Ok m
ihex_read bytes m is = search (rules, nat_tests, nat_tests)

-- the same for an S-record, after its type's digit
srec_untyped : (digit : ℕ) (bytes : List ℕ) (m : Meaning) → srec_meaning digit bytes ≡ Some m
    → record_meaning Srec (typed_srec digit bytes) ≡ Ok m
srec_untyped digit bytes m is = search (rules, nat_tests)

abbrev ok_meaning : Option Meaning → LineResult
ok_meaning (Some m) = Ok m
ok_meaning None = Err Mark

-- a line of the right size and sum isn't empty
srec_unsized : (count : ℕ) (more : List ℕ) → (length more == count && sum (count ∷ more) % 256 == 255) ≡ true
    → (count == 0) ≡ false
srec_unsized zero [] passed = absurd (cc passed)
srec_unsized zero (byte ∷ more) passed = grind (arith, nat_tests)
srec_unsized (suc count) more passed = search (rules, nat_tests)

-- an S-record passes the reader's three tests
srec_untested : (none sized summed : Bool) (r : Result RecordFields LineFault) (o : Option Meaning) (m : Meaning)
    → (if sized && summed then o else None) ≡ Some m → ((sized && summed) ≡ true → none ≡ false)
    → (o ≡ Some m → record_meaning Srec r ≡ Ok m)
    → record_meaning Srec (if none || not sized then Err Length else if not summed then Err Sum else r) ≡ Ok m
srec_untested none sized summed r o m is some go_on = grind (arith)

-- the bytes of an S-record are read
srec_read : (digit : ℕ) (bytes : List ℕ) (m : Meaning) → srec_line digit (Ok bytes) ≡ Some m
    → record_meaning Srec (srec_from_fields digit bytes) ≡ Ok m
srec_read digit [] m is = absurd (cc is)
srec_read digit (count ∷ more) m is = search (rules, srec_untested, srec_unsized, srec_untyped)

-- its type is a decimal digit
srec_has_digit : (digit : ℕ) (bytes : List ℕ) (m : Meaning) → srec_line digit (Ok bytes) ≡ Some m
    → is_ascii_digit digit ≡ true
srec_has_digit digit [] m is = absurd (cc is)
srec_has_digit digit (count ∷ more) m is = search (rules, nat_tests, nat_tests)

-- digits that have a meaning are decoded
undecoded : (digits bytes : List ℕ) → decode_of digits ≡ Ok bytes → bytes_of_digits digits ≡ Ok bytes
undecoded digits bytes is = search (rules, decoded_digits)

-- the digits of a line of Intel HEX are read
ihex_undecoded : (digits : List ℕ) (r : Result (List ℕ) FromHexError) (m : Meaning) → decode_of digits ≡ r
    → ihex_line r ≡ Some m → record_meaning Ihex (bytes_of_digits digits and_then ihex_from_fields) ≡ Ok m
ihex_undecoded digits r m same is = grind (arith, undecoded, ihex_read)

-- the digits of an S-record are read
srec_undecoded : (digit : ℕ) (digits : List ℕ) (r : Result (List ℕ) FromHexError) (m : Meaning) → decode_of digits ≡ r
    → srec_line digit r ≡ Some m
    → (record_meaning Srec (bytes_of_digits digits and_then srec_from_fields digit) ≡ Ok m)
    × (is_ascii_digit digit ≡ true)
srec_undecoded digit digits (Ok bytes) m same is =
    search (rules, undecoded digits bytes same, srec_read digit bytes m is, srec_has_digit digit bytes m is)
srec_undecoded digit digits (Err e) m same is = absurd (cc is)

-- what is given only after a test
tested : {A : Type 0} (b : Bool) (o : Option A) (a : A) → (if b then o else None) ≡ Some a → (b ≡ true) × (o ≡ Some a)
tested b o a e = search rules

-- a line without its white space is read as it means
trimmed_read : (kind : Kind) (line : List ℕ) (m : Meaning) → trimmed_line_meaning kind line ≡ Some m
    → trimmed_line_result kind line ≡ Ok m
trimmed_read Ihex [] m is = ap ok_meaning is
trimmed_read Srec [] m is = ap ok_meaning is
trimmed_read Ihex (mark ∷ digits) m is = search (rules, tested, ihex_undecoded)
trimmed_read Srec (mark ∷ []) m is = absurd (cc is)
trimmed_read Srec (mark ∷ digit ∷ digits) m is =
    let passed = tested (mark == 83) (srec_line digit (decode_of digits)) m is in
    let all = srec_undecoded digit digits (decode_of digits) m refl passed.1 in
    rw (passed.0, all.1) all.0

-- a line that isn't too long
if_short : {A E : Type 0} (b : Bool) (o : Option A) (e : E) (r : Result A E) (a : A) → (if b then None else o) ≡ Some a
    → (o ≡ Some a → r ≡ Ok a) → (if b then Err e else r) ≡ Ok a
if_short b o e r a h go_on = search rules

-- so is a whole line
line_read : (kind : Kind) (line : List ℕ) (m : Meaning) → line_meaning kind line ≡ Some m → line_result kind line ≡ Ok m
line_read Ihex line m is = search (rules, if_short, trimmed_read)
line_read Srec line m is = search (rules, if_short, trimmed_read)

-- if all places are inside, none is found outside
none_outside : (size : ℕ) (placed : List (ℕ × ℕ))
    → list_all (λ (place : ℕ × ℕ). nat_lt place.0 size) placed ≡ true → first_outside size placed ≡ None
none_outside size [] all = refl
none_outside size (place ∷ placed) all = search (rules, nat_tests, none_outside size placed)

inside_of_append : (size : ℕ) (a b : List (ℕ × ℕ)) → list_all (λ (place : ℕ × ℕ). nat_lt place.0 size) (a ++ b) ≡ true
    → (list_all (λ (place : ℕ × ℕ). nat_lt place.0 size) a ≡ true)
    × (list_all (λ (place : ℕ × ℕ). nat_lt place.0 size) b ≡ true)
inside_of_append size [] b all = (refl, all)
inside_of_append size (place ∷ a) b all = search (rules, nat_tests, inside_of_append size a b)

-- what is mapped was there
mapped_some : {A B : Type 0} (f : A → B) (o : Option A) (b : B) → option_map f o ≡ Some b
    → (a : A) × (o ≡ Some a) × (f a ≡ b)
mapped_some f o b is = search rules

abbrev Inside : ℕ → List (ℕ × ℕ) → Type 0
Inside size placed = list_all (λ (place : ℕ × ℕ). nat_lt place.0 size) placed ≡ true

-- these lines are read without a fault, and place these bytes
record AreRead (size : ℕ) (before after : List LineResult) (placed : List (ℕ × ℕ)) : Type 0 where
  fine : AreFine size before after
  are : bytes_from before after ≡ placed

module _ (size : ℕ) (before after : List LineResult) (means : List (Option Meaning))
    (rest : (more : List LineResult) (placed : List (ℕ × ℕ))
    → placed_bytes (base_after more) (count_by is_data_record more) means ≡ Some placed → Inside size placed
    → AreRead size more after placed) where
  abbrev onto : LineResult → List LineResult
  onto r = before ++ r ∷ []

  -- the lines after this one
  next_read : (r : LineResult) (placed : List (ℕ × ℕ))
      → placed_bytes (next_base (base_after before) r) (if is_data_record r then count_by is_data_record before + 1
      else count_by is_data_record before) means ≡ Some placed → Inside size placed → AreRead size (onto r) after placed
  next_read r placed are within = search (rules, placed_alike, base_next, count_next)

  -- by what the first line means
  step_read : (m : Meaning) (placed : List (ℕ × ℕ))
      → placed_bytes (base_after before) (count_by is_data_record before) (Some m ∷ means) ≡ Some placed
      → Inside size placed → AreRead size before (Ok m ∷ after) placed
  step_read Nothing placed are within =
      let next = next_read (Ok Nothing) placed are within in record { fine = next.fine; are = next.are }
  step_read (Rebase new) placed are within =
      let next = next_read (Ok (Rebase new)) placed are within in record { fine = next.fine; are = next.are }
  step_read (Data offset bytes) placed are within =
      let these = places (base_after before) offset bytes in
      let later = mapped_some (λ (later : List (ℕ × ℕ)). these ++ later)
      (placed_bytes (base_after before) (count_by is_data_record before + 1) means) placed are in
      let two = inside_of_append size these later.0 (subst (Inside size) (sym later.2) within) in
      let next = next_read (Ok (Data offset bytes)) later.0 later.1 two.1 in
      record {
        fine = rw (none_outside size these two.0) next.fine;
        are = ap (λ (later : List (ℕ × ℕ)). these ++ later) next.are ∙ later.2;
      }
  step_read (Counted n) placed are within =
      let passed = tested (n == count_by is_data_record before)
      (placed_bytes (base_after before) (count_by is_data_record before) means) placed are in
      let next = next_read (Ok (Counted n)) placed passed.1 within in
      record { fine = rw passed.0 next.fine; are = next.are }
  step_read End placed are within = record { fine = refl; are = cc are }

  -- by whether the first line has a meaning
  meant_read : (r : LineResult) (o : Option Meaning) (placed : List (ℕ × ℕ)) → ((m : Meaning) → o ≡ Some m → r ≡ Ok m)
      → placed_bytes (base_after before) (count_by is_data_record before) (o ∷ means) ≡ Some placed
      → Inside size placed → AreRead size before (r ∷ after) placed
  meant_read r None placed read are within = absurd (cc are)
  meant_read r (Some m) placed read are within =
      subst (λ (first : LineResult). AreRead size before (first ∷ after) placed) (sym (read m refl))
      (step_read m placed are within)

-- lines that place their bytes inside the memory are read
lines_read : (kind : Kind) (size : ℕ) (lines : List (List ℕ)) (before : List LineResult) (placed : List (ℕ × ℕ))
    → placed_bytes (base_after before) (count_by is_data_record before) (map (line_meaning kind) lines) ≡ Some placed
    → Inside size placed → AreRead size before (map (line_result kind) lines) placed
lines_read kind size [] before placed are within = record { fine = refl; are = cc are }
lines_read kind size (line ∷ lines) before placed are within =
    search (rules, meant_read, lines_read kind size lines, line_read)

-- equal places make an equal image
made_again : (size : ℕ) (made : List (Option ℕ)) (places placed : List (ℕ × ℕ)) (ending : Ending) → places ≡ placed
    → made ≡ image_of_pairs size placed
    → ◌≡◌ {A = Result (List (Option ℕ) × Ending) RecordFault} (Ok (image_of_pairs size places, ending))
    (Ok (made, ending))
made_again size made places placed ending same is = cc (ap (image_of_pairs size) same)

-- so a text that holds an image is read as this image
pub records_read : (kind : Kind) (text : List ℕ) (size : ℕ) (image : List (Option ℕ))
    → HoldsRecords kind text size image
    → image_in_text kind text size ≡ Ok (image, file_ending (map (line_result kind) (lines text)))
records_read kind text size image (placed, are, within, is) =
    search (rules, lines_read kind size (lines text) [] placed are within, made_again)
