-- What the definitions refuse, in worked examples.
use Rattle.std.proofs.Common.{◌≡◌, ap, refl, arith, ℕ, List, [], ◌∷◌, Option, Some, None, Err, rules}
use Rattle.avr_records.specs.declared.fault.RecordFault.TheVariants.{BadSum}
use Rattle.avr_records.specs.declared.kind.Kind.TheVariants.{Ihex, Srec}
use Rattle.avr_records_c.specs.Numbers.{outcome_of_fault, misfit, no_records}
use Rattle.avr_records_c.specs.Reading.{ReadResult, checked_read_kind, Reads}
use Rattle.avr_records_c.specs.Writing.{checked_write_kind, file_rest, file_start, put_none, Writes}

-- a gap, and two bytes
abbrev gap_first : List (Option ℕ)
gap_first = None ∷ Some 10 ∷ Some 11 ∷ []

-- arguments that don't fit one another
no_fourth_kind : checked_read_kind 4 0 9 2 ≡ Err misfit
no_fourth_kind = refl

-- the number of raw files
no_records_in_raw_bytes : checked_read_kind 0 0 9 2 ≡ Err no_records
no_records_in_raw_bytes = refl

-- the number of executables
no_records_in_an_executable : checked_read_kind 3 0 9 2 ≡ Err no_records
no_records_in_an_executable = refl

-- a format without records, and a bitmap that is too short
misfit_before_the_format : checked_read_kind 3 0 9 1 ≡ Err misfit
misfit_before_the_format = refl

-- a file of more than 32 bits
no_longer_file : checked_read_kind 1 4294967296 9 2 ≡ Err misfit
no_longer_file = refl

-- a bitmap that is too short
no_longer_bitmap : checked_write_kind 2 8 2 ≡ None
no_longer_bitmap = refl

-- cursors that no call leaves
no_end_of_two : file_rest Ihex gap_first (record { addr = 3; gone = 0; upper = 0; address_size = 0; ended = 2 }) ≡ None
no_end_of_two = refl

-- addresses of one byte
no_address_of_a_byte : file_rest Srec gap_first
    (record { addr = 3; gone = 0; upper = 0; address_size = 1; ended = 0 }) ≡ None
no_address_of_a_byte = refl

-- addresses of five bytes
no_address_of_five_bytes : file_rest Srec gap_first
    (record { addr = 3; gone = 0; upper = 0; address_size = 5; ended = 0 }) ≡ None
no_address_of_five_bytes = refl

-- An empty file is good. A call may report a failed allocation, but no other fault and no end record.
no_fault_of_nothing : Reads 1 [] [] [] (record { outcome = outcome_of_fault (BadSum 1); bytes = []; present = [] }) → ⊥
no_fault_of_nothing x0 = search rules

-- a misfit of the arguments is reported as fault 11
no_reading_of_a_fourth_kind : Reads 4 [] [] []
    (record { outcome = outcome_of_fault (BadSum 1); bytes = []; present = [] }) → ⊥
no_reading_of_a_fourth_kind e = let same : 4 ≡ 11 = ap (λ (l : ReadResult). l.outcome.fault) e in
    absurd (omega (arith, same))

-- a format without records is reported as fault 12
no_misfit_of_raw_bytes : Reads 0 [] [] [] (record { outcome = misfit; bytes = []; present = [] }) → ⊥
no_misfit_of_raw_bytes e = let same : 11 ≡ 12 = ap (λ (l : ReadResult). l.outcome.fault) e in
    absurd (omega (arith, same))

-- the text of an empty image is its end record: no call may refuse it
not_refused : Writes 1 [] [] file_start (0 ∷ []) (put_none file_start (0 ∷ [])) → ⊥
not_refused put = absurd (omega (arith, put.good))
