-- The numbers of a cursor of C, and the position in a file that they stand for.
use Rattle.std.specs.Prelude.{ℕ, Bool, true, false, ◌==◌, min, List, Option, Some, None, if◌then◌else◌}
use Rattle.std.specs.Option.{option_map, option_zip}
use Rattle.avr_records.specs.Sparse.{last_held}
use Rattle.avr_records.specs.Text.{address_size, width_of}
use Rattle.avr_records.specs.declared.address_size.AddressSize.{AddressSize}
use Rattle.avr_records.specs.declared.address_size.AddressSize.TheVariants.{Two, Three, Four}
use Rattle.avr_records.specs.declared.cursor.Cursor.{Cursor as Position}
use Rattle.avr_records.specs.declared.kind.Kind.{Kind}
use Rattle.avr_records.specs.declared.kind.Kind.TheVariants.{Ihex, Srec}
use Rattle.avr_records_c.specs.declared.cursor.Cursor.{Cursor}

-- Whether the file has ended, by a cursor's number.
abbrev pub ended_of : ℕ → Option Bool
ended_of n = if n == 0 then Some false else if n == 1 then Some true else None

-- The size of an S-record's address by a cursor's number: 0 means the least that holds the last one. Intel HEX needs
-- none.
abbrev pub size_in_force : Kind → ℕ → List (Option ℕ) → Option AddressSize
size_in_force Ihex n image = Some Two
size_in_force Srec n image =
    if n == 0 then Some (address_size (last_held 0 0 image))
    else if n == 2 then Some Two
    else if n == 3 then Some Three
    else if n == 4 then Some Four
    else None

-- The position that a cursor stands for, if its numbers are ones that calls leave.
abbrev pub position_of : Kind → Cursor → List (Option ℕ) → Option Position
position_of kind cursor image =
    option_map (λ p. record { kind = kind; addr = cursor.addr; upper = cursor.upper; address_size = p.1; ended = p.0 })
    (option_zip (ended_of cursor.ended) (size_in_force kind cursor.address_size image))

-- The cursor for the position `lines`, with `gone` bytes of the next line put.
abbrev pub cursor_of : Position → ℕ → Cursor
cursor_of lines gone = record {
  addr = min lines.addr 4294967295;
  gone = gone;
  upper = elim (lines.kind) [ Ihex ↦ lines.upper | Srec ↦ 0 ];
  address_size = elim (lines.kind) [ Ihex ↦ 0 | Srec ↦ width_of lines.address_size ];
  ended = if lines.ended then 1 else 0;
}
