-- What a memory's file reads back as. Law `what_is_written_reads_back` uses it.
use Rattle.std.specs.Prelude.{ℕ, ◌<◌, List, Ok, length, slice_index}
use Rattle.avr_records.specs.declared.kind.Ending.TheVariants.{Ended}
use Rattle.avr_records_c.specs.Bitmap.{image_of}
use Rattle.avr_records_c.specs.Reading.{ReadResult, read_into}

-- Each value is below 256.
abbrev pub EachIsByte : List ℕ → Type 0
EachIsByte bytes = (i : ℕ) → i < length bytes → slice_index bytes i < 256

-- The bytes that the bitmap marks, FF for the others, and the bitmap of the same addresses.
abbrev pub written_and_read : List ℕ → List ℕ → ReadResult
written_and_read present bytes = read_into bytes present (Ok (image_of present bytes, Ended))
