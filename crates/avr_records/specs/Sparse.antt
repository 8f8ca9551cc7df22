-- The record files of memories with gaps: what `Writer` and `Cursor` write.
use Rattle.std.specs.Prelude.{◌≡◌, ℕ, ◌+◌, ◌/◌, ◌%◌, ◌-◌, ◌^◌, ◌≤◌, ◌==◌, List, [], ◌∷◌, ◌++◌, length, min, flat_map, map, replicate, Option, Some, None, Ok, if◌then◌else◌}
use Rattle.avr_image.specs.Image.{HoldsBytes, empty}
use Rattle.avr_image.specs.Runs.{runs}
use Rattle.avr_records.specs.Reading.{image_in_text}
use Rattle.avr_records.specs.Text.{rows, ihex_record, ihex_rows, low_bytes, srec_record, srec_rows, address_size, width_of}
use Rattle.avr_records.specs.declared.address_size.AddressSize.{AddressSize}
use Rattle.avr_records.specs.declared.kind.Kind.{Kind}
use Rattle.avr_records.specs.declared.kind.Kind.TheVariants.{Ihex, Srec}
use Rattle.avr_records.specs.declared.kind.Ending.TheVariants.{Ended}

-- All bytes are below 256, at addresses below 2 to the power 32. Contracts of `Sparse` promise it.
pub record IsMemory (image : List (Option ℕ)) : Type 0 where
  pub short : length image ≤ 2 ^ 32
  pub bytes : HoldsBytes image

-- The memory that holds these bytes from `base` on, and ends with the last of them: that of a `Run`.
abbrev pub run_at : ℕ → List ℕ → List (Option ℕ)
run_at base [] = []
run_at base (b ∷ bs) = replicate base None ++ map (λ byte. Some byte) (b ∷ bs)

-- The rows of each run, one run after the other.
abbrev pub rows_of : (ℕ → ℕ) → List (ℕ × List ℕ) → List (ℕ × List ℕ)
rows_of size = flat_map (λ run. rows size run.0 run.1)

-- The most bytes of a row at this address: 32, but none past a multiple of 65,536 in Intel HEX.
abbrev pub row_size : Kind → ℕ → ℕ
row_size Ihex addr = min 32 (65536 - addr % 65536)
row_size Srec addr = 32

-- The upper 16 bits of an address, if a record of Intel HEX has to set them.
abbrev pub new_upper : Kind → ℕ → ℕ → Option ℕ
new_upper Ihex in_force addr = if addr / 65536 == in_force then None else Some (addr / 65536)
new_upper Srec in_force addr = None

-- The data record of a row.
abbrev pub row_text : Kind → AddressSize → ℕ → List ℕ → List ℕ
row_text Ihex size addr bytes = ihex_record 0 (addr % 65536) bytes
row_text Srec size addr bytes = srec_record (width_of size - 1) (low_bytes (width_of size) addr ++ bytes)

-- The data records and the end record. Intel HEX begins with these upper 16 bits of the address in force, and
-- S-records have addresses of this size.
abbrev pub file_rows : Kind → ℕ → AddressSize → List (ℕ × List ℕ) → List ℕ
file_rows Ihex upper size rows = ihex_rows upper rows
file_rows Srec upper size rows = srec_rows size rows

-- The last address that holds a byte, or `last` if none does. The image begins at `addr`.
abbrev pub last_held : ℕ → ℕ → List (Option ℕ) → ℕ
last_held last addr [] = last
last_held last addr (None ∷ image) = last_held last (addr + 1) image
last_held last addr (Some b ∷ image) = last_held addr (addr + 1) image

-- The whole record file of a memory: what `Writer` writes and `avr_records_length` measures.
abbrev pub image_text : Kind → List (Option ℕ) → List ℕ
image_text kind image = file_rows kind 0 (address_size (last_held 0 0 image)) (rows_of (row_size kind) (runs 0 image))

-- The file written of a memory reads back, into one at least as large, as the same bytes and gaps, with the end
-- record.
abbrev pub ReadsBack : Kind → Type 0
ReadsBack kind =
    (image : List (Option ℕ)) (more : ℕ) → length image ≤ 2 ^ 32 → HoldsBytes image
    → image_in_text kind (image_text kind image) (length image + more) ≡ Ok (image ++ empty more, Ended)
