-- Texts that hold an image, a table that holds a part, and others that don't.
use Rattle.std.proofs.Common.{◌≤◌, ℕ, List, [], ◌∷◌, refl, Some, None, Option, arith, rules}
use Rattle.std.specs.Prelude.{codes, pos}
use Rattle.hex.specs.Hex.{decode_pairs}
use Rattle.toml.specs.Data.{Members, integer, member, no_members, string}
use Rattle.avr_image.specs.Image.{image_of_pairs}
use Rattle.avr_part.specs.BuiltIn.{m328p}
use Rattle.avr_part.specs.Part.{IsPart, Part}
use Rattle.avr_records.specs.declared.kind.Found.TheVariants as file
use Rattle.avr_records.specs.declared.kind.Kind.TheVariants.{Ihex, Srec}
use Rattle.avr_laws.specs.HeldImage.{HoldsImageAs, HoldsRecords, HoldsValues}
use Rattle.avr_laws.specs.HeldParts.{IsPartOf}

-- ---- values

pub one_value : HoldsValues (codes "0xE2") 1 (Some 0xE2 ∷ [])
one_value = (0xE2 ∷ [], refl, refl, omega arith, omega arith, refl)

abbrev first_held : List (Option ℕ) → ℕ
first_held (Some byte ∷ more) = byte
first_held image = 0

-- a value above 255
pub large_value : (image : List (Option ℕ)) → HoldsValues (codes "256") 1 image → ⊥
large_value image ([], are, all, some, few, is) = absurd (omega (arith, some))
large_value image (byte ∷ bytes, are, all, some, few, is) = search rules

-- ---- records: the byte 5 at address 0, and an end record

pub two_records : HoldsRecords Ihex (codes ":0100000005FA\n:00000001FF\n") 2 (Some 5 ∷ None ∷ [])
unfolding decode_pairs
two_records = ((0, 5) ∷ [], refl, refl, refl)

-- the same byte, at address 1, in S-records
pub an_s_record : HoldsRecords Srec (codes "S104000105F5\nS9030000FC\n") 2 (None ∷ Some 5 ∷ [])
unfolding decode_pairs
an_s_record = ((1, 5) ∷ [], refl, refl, refl)

-- a record with another checksum
pub wrong_sum : (image : List (Option ℕ)) → HoldsRecords Ihex (codes ":0100000005FB\n") 2 image → ⊥
unfolding decode_pairs
wrong_sum image has = search rules

-- ---- the other rows of Intel HEX in README's table

pub bytes_behind_offset : HoldsRecords Ihex (codes ":0300100041424327\n:00000001FF\n") 32
    (image_of_pairs 32 ((0x10, 65) ∷ (0x11, 66) ∷ (0x12, 67) ∷ []))
unfolding decode_pairs
bytes_behind_offset = ((0x10, 65) ∷ (0x11, 66) ∷ (0x12, 67) ∷ [], refl, refl, refl)

pub base_of_segment : HoldsRecords Ihex (codes ":020000021200EA\n:0100000007F8\n:00000001FF\n") 131072
    (image_of_pairs 131072 ((0x12000, 7) ∷ []))
unfolding decode_pairs
base_of_segment = ((0x12000, 7) ∷ [], refl, refl, refl)

pub wrapped_in_segment : HoldsRecords Ihex (codes ":020000021200EA\n:02FFFF000102FD\n:00000001FF\n") 262144
    (image_of_pairs 262144 ((0x21fff, 1) ∷ (0x12000, 2) ∷ []))
unfolding decode_pairs
wrapped_in_segment = ((0x21fff, 1) ∷ (0x12000, 2) ∷ [], refl, refl, refl)

pub linear_base : HoldsRecords Ihex (codes ":020000040001F9\n:0100000007F8\n:00000001FF\n") 131072 (image_of_pairs
    131072 ((0x10000, 7) ∷ []))
unfolding decode_pairs
linear_base = ((0x10000, 7) ∷ [], refl, refl, refl)

pub not_wrapped : HoldsRecords Ihex (codes ":02FFFF000102FD\n:00000001FF\n") 131072
    (image_of_pairs 131072 ((0xffff, 1) ∷ (0x10000, 2) ∷ []))
unfolding decode_pairs
not_wrapped = ((0xffff, 1) ∷ (0x10000, 2) ∷ [], refl, refl, refl)

pub starts_mean_nothing : HoldsRecords Ihex (codes ":0400000300003800C1\n:04000005000000CD2A\n:00000001FF\n") 2 (None
    ∷ None ∷ [])
unfolding decode_pairs
starts_mean_nothing = ([], refl, refl, refl)

pub later_over_earlier : HoldsRecords Ihex (codes ":0100000005FA\n:0100000006F9\n:00000001FF\n") 2 (Some 6 ∷ None ∷ [])
unfolding decode_pairs
later_over_earlier = ((0, 5) ∷ (0, 6) ∷ [], refl, refl, refl)

pub nothing_behind_end : HoldsRecords Ihex (codes ":0100000005FA\n:00000001FF\n:0100000006F9\nmore\n") 2 (Some 5 ∷
    None ∷ [])
unfolding decode_pairs
nothing_behind_end = ((0x0, 5) ∷ [], refl, refl, refl)

pub byte_missing : (image : List (Option ℕ)) → HoldsRecords Ihex (codes ":0200000005F9\n:00000001FF\n") 2 image → ⊥
unfolding decode_pairs
byte_missing image has = search rules

pub outside_memory : (image : List (Option ℕ)) → HoldsRecords Ihex (codes ":0100020005F8\n:00000001FF\n") 2 image → ⊥
unfolding decode_pairs
outside_memory image has = search rules

-- ---- raw bytes

-- one byte in a memory of two
pub one_byte : HoldsImageAs file.Raw (5 ∷ []) 2 (Some 5 ∷ None ∷ [])
one_byte = (omega arith, refl)

-- two bytes for a memory of one
pub long_file : (image : List (Option ℕ)) → HoldsImageAs file.Raw (5 ∷ 6 ∷ []) 1 image → ⊥
long_file image has = let fits : 2 ≤ 1 = has.0 in omega (arith, fits)

-- ---- a table of a part file

abbrev fields : Members
fields = member (codes "signature") (string (codes "1E950F")) (
    member (codes "flash_size") (integer (pos 32768)) (
    member (codes "flash_page") (integer (pos 128)) (
    member (codes "eeprom_size") (integer (pos 1024)) (
    member (codes "eeprom_page") (integer (pos 4)) (member (codes "eesave_bit") (integer (pos 3)) no_members)
    )
    )
    )
    )

is_part : IsPart m328p
is_part = search rules

-- a table with all fields of a part
pub a_part : IsPartOf (codes "m328p") fields m328p
unfolding decode_pairs
a_part = record {
  id = refl;
  signature = (codes "1E950F", refl, refl);
  flash_size = refl;
  flash_page = refl;
  eeprom_size = refl;
  eeprom_page = refl;
  eesave_bit = refl;
  is_part = is_part;
}

-- a table without fields
pub no_part : (key : List ℕ) (part : Part) → IsPartOf key no_members part → ⊥
no_part key part is = cc is.flash_size
