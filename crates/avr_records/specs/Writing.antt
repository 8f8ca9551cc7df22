-- The text that a writer has not written yet.
use Rattle.std.specs.Prelude.{ℕ, List, [], drop, Option, if◌then◌else◌}
use Rattle.avr_image.specs.Runs.{runs}
use Rattle.avr_records.specs.Sparse.{file_rows, row_size, rows_of}
use Rattle.avr_records.specs.declared.address_size.AddressSize.{AddressSize}
use Rattle.avr_records.specs.declared.cursor.Cursor.{Cursor}
use Rattle.avr_records.specs.declared.kind.Kind.{Kind}

-- The records of a memory from an address on.
abbrev pub text_from : Kind → ℕ → AddressSize → ℕ → List (Option ℕ) → List ℕ
text_from kind upper size addr image = file_rows kind upper size (rows_of (row_size kind) (runs addr (drop addr image)))

-- The text that is left at a cursor. Contracts of `Cursor`, `Writer` and of the library for C cite it.
abbrev pub text_left : Cursor → List (Option ℕ) → List ℕ
text_left cursor image =
    if cursor.ended then [] else text_from cursor.kind cursor.upper cursor.address_size cursor.addr image
