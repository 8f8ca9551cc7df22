-- The file that a memory's bytes are written to.
use Rattle.std.specs.Prelude.{ℕ, ◌==◌, ◌&&◌, ◌+◌, ◌*◌, ◌/◌, [], ◌∷◌, take, if◌then◌else◌}
use Rattle.avr_io.specs.Record.{Bytes}
use Rattle.avr_plan.specs.declared.update.Format.{Format}
use Rattle.avr_plan.specs.declared.update.Format.TheVariants.{Ihex, Srec, Decimal, Hexadecimal, Octal, Binary}
use Rattle.avr_image.specs.Lists.{list_text}
use Rattle.avr_image.specs.declared.list.Base.TheVariants.{Dec, Hex, Oct, Bin}
use Rattle.avr_records.specs.Sparse.{image_text, run_at}
use Rattle.avr_records.specs.declared.kind.Kind.TheVariants as kind

-- The text of a file in a format; in any other format the bytes themselves.
unfoldable pub file_text : Format → Bytes → Bytes
file_text Ihex bytes = image_text kind.Ihex (run_at 0 bytes)
file_text Srec bytes = image_text kind.Srec (run_at 0 bytes)
file_text Decimal bytes = list_text Dec bytes
file_text Hexadecimal bytes = list_text Hex bytes
file_text Octal bytes = list_text Oct bytes
file_text Binary bytes = list_text Bin bytes
file_text format bytes = bytes

-- The length without the FF at the end.
abbrev pub used_length : Bytes → ℕ
used_length [] = 0
used_length (byte ∷ bytes) = if used_length bytes == 0 && byte == 255 then 0 else 1 + used_length bytes

-- Flash bytes without the trailing FF, of which one stays if the length would be odd.
abbrev pub trimmed : Bytes → Bytes
trimmed bytes = take ((used_length bytes + 1) / 2 * 2) bytes
