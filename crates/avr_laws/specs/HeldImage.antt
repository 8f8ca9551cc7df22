-- The image that a text holds: values, raw bytes, or records. Only what is well formed has a meaning here. Which fault
-- another text has is said by its reader, in avr_image or avr_records.
use Rattle.std.specs.Prelude.{◌≡◌, ◌<◌, ◌≤◌, ℕ, ◌+◌, ◌-◌, ◌*◌, ◌%◌, ◌==◌, ◌&&◌, ◌||◌, nat_le, nat_lt, List, [], ◌∷◌, ◌++◌, length, take, drop, map, fold, sum, Option, Some, None, option_map, Result, Ok, true, if◌then◌else◌}
use Rattle.std.specs.List.{list_all}
use Rattle.hex.specs.Hex.{decode_of}
use Rattle.hex.specs.declared.error.FromHexError.{FromHexError}
use Rattle.avr_io.specs.Record.{Bytes}
use Rattle.avr_image.specs.Image.{empty, from_zero, with_byte}
use Rattle.avr_image.specs.Values.{pieces, value_of}
use Rattle.avr_records.specs.Lines.{lines, trimmed_line}
use Rattle.avr_records.specs.Meaning.{Meaning, Nothing, Data, Rebase, Counted, End}
use Rattle.avr_records.specs.Reading.{places}
use Rattle.avr_records.specs.Record.{number}
use Rattle.avr_records.specs.declared.kind.AddressBase.{AddressBase}
use Rattle.avr_records.specs.declared.kind.AddressBase.TheVariants.{Linear, Segment}
use Rattle.avr_records.specs.declared.kind.Found.{Found}
use Rattle.avr_records.specs.declared.kind.Found.TheVariants as file
use Rattle.avr_records.specs.declared.kind.Kind.{Kind}
use Rattle.avr_records.specs.declared.kind.Kind.TheVariants.{Ihex, Srec}

-- At least one value, separated by commas, spaces or tabs: the bytes of an image, from address 0 on.
abbrev pub HoldsValues : Bytes → ℕ → List (Option ℕ) → Type 0
HoldsValues text size image =
    (bytes : Bytes) × (map value_of (pieces text) ≡ map (λ byte. Some byte) bytes)
    × (list_all (λ byte. nat_lt byte 256) bytes ≡ true) × (0 < length bytes) × (length bytes ≤ size)
    × (image ≡ from_zero bytes size)

-- ---- a line of Intel HEX

-- What a record means, by its type, its offset and its bytes.
abbrev pub ihex_meaning : ℕ → ℕ → Bytes → Option Meaning
ihex_meaning type offset bytes =
    if type == 0 then Some (Data offset bytes)
    else if type == 1 && length bytes == 0 then Some End
    else if type == 2 && length bytes == 2 then Some (Rebase (Segment (number bytes)))
    else if type == 4 && length bytes == 2 then Some (Rebase (Linear (number bytes)))
    else if (type == 3 || type == 5) && length bytes == 4 then Some Nothing
    else None

-- The digits of a line are a size, two bytes of offset, a type, as many bytes as the size states, and one byte with
-- which the sum of all is 0 modulo 256.
abbrev pub ihex_line : Result Bytes FromHexError → Option Meaning
ihex_line (Ok (size ∷ high ∷ low ∷ type ∷ more)) =
    if length more == size + 1 && sum (size ∷ high ∷ low ∷ type ∷ more) % 256 == 0
    then ihex_meaning type (high * 256 + low) (take size more) else None
ihex_line bytes = None

-- ---- a line of S-records

-- The bytes behind an address of this width.
abbrev pub data_behind : ℕ → Bytes → Meaning
data_behind width bytes = Data (number (take width bytes)) (drop width bytes)

-- What a record means, by its digit, where `0` is 48, and its bytes.
abbrev pub srec_meaning : ℕ → Bytes → Option Meaning
srec_meaning digit bytes =
    let size = length bytes in
    if digit == 48 && nat_le 2 size then Some Nothing
    else if digit == 49 && nat_le 2 size then Some (data_behind 2 bytes)
    else if digit == 50 && nat_le 3 size then Some (data_behind 3 bytes)
    else if digit == 51 && nat_le 4 size then Some (data_behind 4 bytes)
    else if digit == 53 && size == 2 || digit == 54 && size == 3 then Some (Counted (number bytes))
    else if digit == 55 && size == 4 || digit == 56 && size == 3 || digit == 57 && size == 2 then Some End
    else None

-- The digits of a line are a count and as many bytes. The last byte makes the sum of all 255 modulo 256.
abbrev pub srec_line : ℕ → Result Bytes FromHexError → Option Meaning
srec_line digit (Ok (count ∷ more)) =
    if length more == count && sum (count ∷ more) % 256 == 255 then srec_meaning digit (take (count - 1) more) else None
srec_line digit bytes = None

-- ---- a text of records

-- What a line without blanks at its end means. A record begins with `:`, or with `S` and a digit.
abbrev pub trimmed_line_meaning : Kind → Bytes → Option Meaning
trimmed_line_meaning kind [] = Some Nothing
trimmed_line_meaning Ihex (mark ∷ digits) = if mark == 58 then ihex_line (decode_of digits) else None
trimmed_line_meaning Srec (mark ∷ digit ∷ digits) = if mark == 83 then srec_line digit (decode_of digits) else None
trimmed_line_meaning kind line = None

-- What a line means, if it has at most 600 bytes.
abbrev pub line_meaning : Kind → Bytes → Option Meaning
line_meaning kind line = if nat_lt 600 (length line) then None else trimmed_line_meaning kind (trimmed_line line)

-- The addresses and bytes that lines hold, up to an end record, under a base and after so many records of data. A
-- record with a count has to state how many these are.
abbrev pub placed_bytes : AddressBase → ℕ → List (Option Meaning) → Option (List (ℕ × ℕ))
placed_bytes base count [] = Some []
placed_bytes base count (None ∷ more) = None
placed_bytes base count (Some Nothing ∷ more) = placed_bytes base count more
placed_bytes base count (Some (Data offset bytes) ∷ more) =
    option_map (λ later. places base offset bytes ++ later) (placed_bytes base (count + 1) more)
placed_bytes base count (Some (Rebase new) ∷ more) = placed_bytes new count more
placed_bytes base count (Some (Counted n) ∷ more) = if n == count then placed_bytes base count more else None
placed_bytes base count (Some End ∷ more) = Some []

-- The image of a text's records, all of whose bytes are inside. A later byte at an address wins.
abbrev pub HoldsRecords : Kind → Bytes → ℕ → List (Option ℕ) → Type 0
HoldsRecords kind text size image =
    (placed : List (ℕ × ℕ)) × (placed_bytes (Linear 0) 0 (map (line_meaning kind) (lines text)) ≡ Some placed)
    × (list_all (λ place. nat_lt place.0 size) placed ≡ true)
    × (image ≡ fold (λ (image : List (Option ℕ)) (place : ℕ × ℕ). with_byte image place.0 place.1) (empty size) placed)

-- The image of a file's text. An ELF file has none.
abbrev pub HoldsImageAs : Found → Bytes → ℕ → List (Option ℕ) → Type 0
HoldsImageAs file.Ihex text size image = HoldsRecords Ihex text size image
HoldsImageAs file.Srec text size image = HoldsRecords Srec text size image
HoldsImageAs file.Elf text size image = ⊥
HoldsImageAs file.Raw text size image = (length text ≤ size) × (image ≡ from_zero text size)
