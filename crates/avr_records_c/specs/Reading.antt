-- What `avr_records_read` leaves in the caller's memory.
use Rattle.std.specs.Prelude.{◌≡◌, ◌⊎◌, ℕ, ◌==◌, ◌&&◌, ◌^◌, nat_lt, List, length, Option, Result, Ok, Err, MatchResult, if◌then◌else◌}
use Rattle.avr_image.specs.Image.{filled_bytes}
use Rattle.avr_records.specs.Reading.{image_in_text}
use Rattle.avr_records.specs.declared.fault.RecordFault.{RecordFault}
use Rattle.avr_records.specs.declared.fault.RecordFault.TheVariants.{Memory}
use Rattle.avr_records.specs.declared.kind.Kind.{Kind}
use Rattle.avr_records.specs.declared.kind.Ending.{Ending}
use Rattle.avr_records_c.specs.declared.outcome.Outcome.{Outcome}
use Rattle.avr_records_c.specs.Numbers.{kind_to_read, outcome_of_end, outcome_of_fault, misfit}
use Rattle.avr_records_c.specs.Bitmap.{octets_of, bitmap}

-- The outcome of a read, and the caller's memory after it.
pub record ReadResult : Type 0 where
  pub outcome : Outcome
  pub bytes : List ℕ
  pub present : List ℕ

-- What a read leaves: the image's bytes, FF in gaps, and its bitmap. A fault changes neither.
abbrev pub read_into : List ℕ → List ℕ → Result (List (Option ℕ) × Ending) RecordFault → ReadResult
read_into bytes present (Ok (image, ending)) = record {
  outcome = outcome_of_end ending;
  bytes = filled_bytes image 0 (length bytes);
  present = bitmap image (length present);
}
read_into bytes present (Err fault) = record { outcome = outcome_of_fault fault; bytes = bytes; present = present }

-- The kind of file if the arguments fit, else the outcome. File and memory have to be shorter than 2 to the power 32
-- bytes, and the bitmap has to be the memory's in length.
abbrev pub checked_read_kind : ℕ → ℕ → ℕ → ℕ → Result Kind Outcome
checked_read_kind kind text size present =
    if nat_lt text (2 ^ 32) && nat_lt size (2 ^ 32) && present == octets_of size then kind_to_read kind else Err misfit

-- The call leaves the file's image, or reports that allocation failed. If the arguments don't fit one another or the
-- format has no records, it changes nothing.
abbrev pub Reads : ℕ → List ℕ → List ℕ → List ℕ → ReadResult → Type 0
Reads kind text bytes present left =
    MatchResult (checked_read_kind kind (length text) (length bytes) (length present))
    (λ k. (left ≡ read_into bytes present (image_in_text k text (length bytes)))
    ⊎ (left ≡ read_into bytes present (Err Memory)))
    (λ outcome. left ≡ record { outcome = outcome; bytes = bytes; present = present })
