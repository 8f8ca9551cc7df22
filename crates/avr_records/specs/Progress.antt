-- What a reader keeps of the lines that have ended.
use Rattle.std.specs.Prelude.{ℕ, ◌≡◌, List, [], length, count_by, None}
use Rattle.std.specs.List.{list_any}
use Rattle.avr_image.specs.Image.{image_of_pairs}
use Rattle.avr_records.specs.Needed.{end_of_bytes}
use Rattle.avr_records.specs.Reading.{LineResult, is_end_record, is_data_record, up_to_end, with_lines_before, bytes_of_lines, first_fault, base_after}
use Rattle.avr_records.specs.declared.progress.Extent.{Extent}
use Rattle.avr_records.specs.declared.progress.Progress.{Progress}

-- The size of the memory that is read into.
abbrev pub image_size : Progress → ℕ
image_size p = length p.image

-- The extent is that of these lines. None is at fault in a memory of this size, and only the last may be an end record.
pub record IsExtentOf (size : ℕ) (e : Extent) (meant : List LineResult) : Type 0 where
  pub no_fault : first_fault size (with_lines_before [] meant) ≡ None
  pub end : e.end ≡ end_of_bytes (bytes_of_lines meant)
  pub base : e.base ≡ base_after meant
  pub data_records : e.data_records ≡ count_by is_data_record meant
  pub lines : e.lines ≡ length meant
  pub ended : e.ended ≡ list_any is_end_record meant

-- The extent and image are those of these lines, up to an end record among them.
pub record HoldsLines (p : Progress) (meant : List LineResult) : Type 0 where
  pub extent : IsExtentOf (image_size p) p.extent (up_to_end meant)
  pub image : p.image ≡ image_of_pairs (image_size p) (bytes_of_lines (up_to_end meant))
