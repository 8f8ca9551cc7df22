-- The text of a file that a memory is read into: records of 32 bytes from address 0 on, or numbers.
use Rattle.std.specs.Prelude.{ℕ, ◌+◌, ◌-◌, ◌/◌, ◌%◌, ◌==◌, nat_lt, List, [], ◌∷◌, ◌++◌, length, sum, if◌then◌else◌}
use Rattle.hex.specs.Hex.{encode_upper}
use Rattle.avr_io.specs.Record.{Bytes}
use Rattle.avr_plan.specs.declared.update.Format.{Format}
use Rattle.avr_plan.specs.declared.update.Format.TheVariants.{Ihex, Srec, Decimal, Hexadecimal, Octal, Binary}
use Rattle.avr_image.specs.Lists.{list_line}
use Rattle.avr_image.specs.declared.list.Base.TheVariants.{Dec, Hex, Oct, Bin}
use Rattle.avr_records.specs.Text.{low_bytes, rows_behind}

-- The line of a record of Intel HEX: a size, an offset, a type and bytes, in digits. The last byte makes the sum of all
-- 0 modulo 256.
abbrev pub saved_ihex_line : ℕ → ℕ → Bytes → Bytes
saved_ihex_line type offset bytes =
    let all : Bytes = length bytes ∷ low_bytes 2 offset ++ type ∷ bytes in
    58 ∷ encode_upper (all ++ ((256 - sum all % 256) % 256) ∷ []) ++ 10 ∷ []

-- The data records of these addresses and bytes, and the end record. If the upper 16 bits of the address change, a
-- record sets them before the data.
abbrev pub saved_ihex : ℕ → List (ℕ × Bytes) → Bytes
saved_ihex upper [] = saved_ihex_line 1 0 []
saved_ihex upper ((addr, bytes) ∷ more) =
    (if addr / 65536 == upper then [] else saved_ihex_line 4 0 (low_bytes 2 (addr / 65536)))
    ++ saved_ihex_line 0 (addr % 65536) bytes ++ saved_ihex (addr / 65536) more

-- The line of an S-record: a count and the bytes, in digits. The last byte makes the sum of all 255 modulo 256.
abbrev pub saved_srec_line : ℕ → Bytes → Bytes
saved_srec_line type bytes =
    let all : Bytes = (length bytes + 1) ∷ bytes in
    83 ∷ (48 + type) ∷ encode_upper (all ++ (255 - sum all % 256) ∷ []) ++ 10 ∷ []

-- The data records and the end record, with addresses of this many bytes.
abbrev pub saved_srec : ℕ → List (ℕ × Bytes) → Bytes
saved_srec width [] = saved_srec_line (11 - width) (low_bytes width 0)
saved_srec width ((addr, bytes) ∷ more) =
    saved_srec_line (width - 1) (low_bytes width addr ++ bytes) ++ saved_srec width more

-- How many bytes an address has: the fewest, but at least two, that hold the last one.
abbrev pub address_width : ℕ → ℕ
address_width last = if nat_lt last 65536 then 2 else if nat_lt last 16777216 then 3 else 4

-- Records of 32 bytes, the last one of what is left; or numbers on one line. In other formats the bytes.
unfoldable pub saved_text : Format → Bytes → Bytes
saved_text Ihex bytes = saved_ihex 0 (rows_behind 0 (λ addr. 32) 0 bytes)
saved_text Srec bytes = saved_srec (address_width (length bytes - 1)) (rows_behind 0 (λ addr. 32) 0 bytes)
saved_text Decimal bytes = list_line Dec bytes ++ 10 ∷ []
saved_text Hexadecimal bytes = list_line Hex bytes ++ 10 ∷ []
saved_text Octal bytes = list_line Oct bytes ++ 10 ∷ []
saved_text Binary bytes = list_line Bin bytes ++ 10 ∷ []
saved_text format bytes = bytes
