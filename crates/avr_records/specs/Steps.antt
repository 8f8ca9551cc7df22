-- How one line changes what a reader keeps.
use Rattle.std.specs.Prelude.{ℕ, true, false, ◌+◌, ◌≡◌, ◌≤◌, List, option_map, Result, Ok, Err, IsSome, MatchResult, OnOk, if◌then◌else◌}
use Rattle.avr_image.specs.Image.{with_pairs}
use Rattle.avr_records.specs.Fault.{fault_line_number}
use Rattle.avr_records.specs.Needed.{end_after}
use Rattle.avr_records.specs.Progress.{image_size}
use Rattle.avr_records.specs.Reading.{LineResult, is_end_record, is_data_record, next_base, bytes_under_base, fault_under_base, in_line, line_result, ok_unless}
use Rattle.avr_records.specs.declared.progress.Extent.{Extent}
use Rattle.avr_records.specs.declared.kind.Kind.{Kind}
use Rattle.avr_records.specs.declared.kind.Kind.TheVariants.{Ihex, Srec}
use Rattle.avr_records.specs.declared.kind.Ending.{Ending}
use Rattle.avr_records.specs.declared.kind.Ending.TheVariants.{Ended, NoEnd}
use Rattle.avr_records.specs.declared.kind.AddressBase.{AddressBase}
use Rattle.avr_records.specs.declared.kind.AddressBase.TheVariants.{Linear}
use Rattle.avr_records.specs.declared.fault.RecordFault.{RecordFault}
use Rattle.avr_records.specs.declared.progress.Progress.{Progress}

-- The extent after one more line.
abbrev pub extended : Extent → LineResult → Extent
extended e meant = record {
  base = next_base e.base meant;
  data_records = if is_data_record meant then e.data_records + 1 else e.data_records;
  lines = e.lines + 1;
  end = end_after e.end (bytes_under_base e.base meant);
  ended = if is_end_record meant then true else e.ended;
}

-- The extent after one more line, or the line's fault.
abbrev pub next_extent : ℕ → Extent → LineResult → Result Extent RecordFault
next_extent size e meant =
    let fault = option_map (in_line (e.lines + 1)) (fault_under_base size e.base e.data_records meant) in
    ok_unless fault (extended e meant)

-- The image with the bytes of one more line, and the extent after it.
abbrev pub with_extent : Progress → LineResult → Result Extent RecordFault → Result Progress RecordFault
with_extent p meant (Err fault) = Err fault
with_extent p meant (Ok e) = Ok (record {
  extent = e;
  image = with_pairs p.image (bytes_under_base p.extent.base meant);
})

-- Extent and image after one more line, or the line's fault. After an end record a line changes nothing.
abbrev pub next_progress : Progress → LineResult → Result Progress RecordFault
next_progress p meant = if p.extent.ended then Ok p else with_extent p meant (next_extent (image_size p) p.extent meant)

-- Whether there was an end record.
abbrev pub ending_of : Extent → Ending
ending_of e = if e.ended then Ended else NoEnd

-- A base that lines of this kind may set. S-records set none.
abbrev pub HasBase : Kind → AddressBase → Type 0
HasBase Ihex base = Unit {0}
HasBase Srec base = base ≡ Linear 0

-- The fault has a line.
abbrev pub IsLineFault : RecordFault → Type 0
IsLineFault fault = IsSome (fault_line_number fault)

-- Keeps the code's addresses and counts in range.
pub record InRange (kind : Kind) (e : Extent) : Type 0 where
  pub base : HasBase kind e.base
  pub counts : e.data_records ≤ e.lines

-- The call reads the next line and changes the state by it, or returns the line's fault.
pub record TakesLine (kind : Kind) (p : Progress) (line : List ℕ) (new : Progress) (result : Result Unit RecordFault)
    : Type 0 where
  pub step : MatchResult result (λ _. next_progress p (line_result kind line) ≡ Ok new)
      (λ fault. next_progress p (line_result kind line) ≡ Err fault)
  pub size : image_size new ≡ image_size p
  pub range : OnOk result (InRange kind new.extent)
  pub lines : OnOk result (new.extent.lines ≤ p.extent.lines + 1)

-- The extent of no lines.
abbrev pub no_lines : Extent
no_lines = record { base = Linear 0; data_records = 0; lines = 0; end = 0; ended = false }
