-- How long a file may be: it has at most two lines for each byte, and an end record.
use Rattle.std.proofs.Common.{◌≡◌, arith, ℕ, zero, suc, ◌+◌, ◌-◌, ◌*◌, ◌/◌, ◌^◌, ◌<◌, ◌≤◌, List, [], ◌∷◌, ◌++◌, length, Option, Some, None, rules}
use Rattle.std.proofs.lemmas.Bool.{cases_Bool}
use Rattle.std.proofs.lemmas.Bool.Decides.{nat_tests}
use Rattle.std.proofs.lemmas.List.{length-append, length-take}
use Rattle.hex.proofs.HexLemmas.{length-encode_with}
use Rattle.avr_image.specs.Runs.{runs}
use Rattle.avr_records.specs.Sparse.{image_text, rows_of}
use Rattle.avr_records.specs.Text.{rows_behind, upper_record, ihex_rows, width_of, low_bytes, srec_record, srec_rows}
use Rattle.avr_records.specs.declared.address_size.AddressSize.{AddressSize}
use Rattle.avr_records.specs.declared.kind.Kind.{Kind}
use Rattle.avr_records.proofs.Writers.Pieces.{address_has_2_to_4_bytes, length_low_bytes}

-- ---- one line

-- the record of the upper 16 bits has at most 16 characters
upper_line : (old new : ℕ) → length (upper_record old new) ≤ 16
upper_line old new = search (rules, cases_Bool, nat_tests, length-append, length-encode_with)

-- ---- the lines of rows

-- the bytes of rows, and one for each row
abbrev weight : List (ℕ × List ℕ) → ℕ
weight [] = 0
weight (row ∷ more) = 1 + length row.1 + weight more

-- the lines of rows have at most 28 characters for each byte and each row, and the end record 12
ihex_lines : (upper : ℕ) (cut : List (ℕ × List ℕ)) → length (ihex_rows upper cut) ≤ 28 * weight cut + 12
ihex_lines upper [] = search (rules, nat_tests, length-append, length-encode_with)
ihex_lines upper ((addr, bytes) ∷ more) =
    search (rules, nat_tests, length-append, upper_line, length-encode_with, ihex_lines (addr / 65536) more)

-- the end record of S-records has at most 15 characters
srec_end : (size : ℕ) → size ≤ 4 → length (srec_record (11 - size) (low_bytes size 0)) ≤ 15
srec_end size few = grind (arith, nat_tests, length-append, length-encode_with, length_low_bytes)

-- the same of S-records, whose end record has 15
srec_lines : (size : AddressSize) (cut : List (ℕ × List ℕ)) → length (srec_rows size cut) ≤ 28 * weight cut + 15
srec_lines size [] = srec_end (width_of size) (address_has_2_to_4_bytes size).1
srec_lines size ((addr, bytes) ∷ more) =
    search (rules, length-append, address_has_2_to_4_bytes, nat_tests, length-encode_with, length_low_bytes, srec_lines size more)

-- ---- the rows of an image

-- rows have at most one row for each byte
rows_weight : (taken : ℕ) (size : ℕ → ℕ) (addr : ℕ) (bytes : List ℕ)
    → weight (rows_behind taken size addr bytes) ≤ 2 * (length bytes - taken)
rows_weight taken size addr [] = omega arith
rows_weight (suc taken) size addr (b ∷ bytes) = grind (arith, nat_tests, rows_weight taken size (addr + 1) bytes)
rows_weight zero size addr (b ∷ bytes) = search (rules, length-take, rows_weight (size addr - 1) size (addr + 1) bytes)

-- the weight of two lists of rows is the sum
weight_append : (first second : List (ℕ × List ℕ)) → weight (first ++ second) ≡ weight first + weight second
weight_append [] second = omega arith
weight_append (row ∷ more) second = let rest = weight_append more second in omega (arith, rest)

-- the bytes of runs
abbrev held : List (ℕ × List ℕ) → ℕ
held [] = 0
held (run ∷ more) = length run.1 + held more

-- the runs of an image have at most as many bytes as the image has addresses
runs_held : (addr : ℕ) (image : List (Option ℕ)) → held (runs addr image) ≤ length image
runs_held addr [] = omega arith
runs_held addr (None ∷ image) = let more = runs_held (addr + 1) image in omega (arith, more)
runs_held addr (Some b ∷ image) = grind (arith, nat_tests, runs_held (addr + 1) image)

-- the rows of runs have at most one row for each byte
cut_weight : (size : ℕ → ℕ) (cut : List (ℕ × List ℕ)) → weight (rows_of size cut) ≤ 2 * held cut
cut_weight size [] = omega arith
cut_weight size (run ∷ more) = grind (arith, nat_tests, cut_weight size more, weight_append, rows_weight)

-- so the length of a file has at most 64 bits
pub countable : (kind : Kind) (image : List (Option ℕ)) → length image < 2 ^ 32
    → length (image_text kind image) < 2 ^ 64
countable kind image few = search (rules, nat_tests, ihex_lines, cut_weight, runs_held, srec_lines)
