-- The record of a line of either kind. `read_record` returns it.
use Rattle.std.specs.Prelude.{ℕ, ◌==◌, ◌&&◌, List, ◌∷◌, Result, Err, if◌then◌else◌}
use Rattle.std.specs.Char.{is_ascii_digit}
use Rattle.avr_records.specs.Record.{RecordFields, bytes_of_digits, unless_long, ◌and_then◌}
use Rattle.avr_records.specs.Ihex.{ihex_from_fields}
use Rattle.avr_records.specs.Srec.{srec_from_fields}
use Rattle.avr_records.specs.declared.kind.Kind.{Kind}
use Rattle.avr_records.specs.declared.kind.Kind.TheVariants.{Ihex, Srec}
use Rattle.avr_records.specs.declared.fault.LineFault.{LineFault}
use Rattle.avr_records.specs.declared.fault.LineFault.TheVariants.{Mark}

-- The record of a line without blanks at its end.
abbrev pub trimmed_line_record : Kind → List ℕ → Result RecordFields LineFault
trimmed_line_record Ihex (mark ∷ digits) =
    if mark == 58 then bytes_of_digits digits and_then ihex_from_fields else Err Mark
trimmed_line_record Srec (mark ∷ digit ∷ digits) =
    if mark == 83 && is_ascii_digit digit then bytes_of_digits digits and_then srec_from_fields digit else Err Mark
trimmed_line_record kind line = Err Mark

-- The record of a line. Blanks at its end are cut off first.
abbrev pub line_record : Kind → List ℕ → Result RecordFields LineFault
line_record kind = unless_long (trimmed_line_record kind)
