-- The parts, or the fault, that a part file means by its TOML tree.
use Rattle.std.specs.Prelude.{◌≡◌, ◌≢◌, ◌≤◌, ◌⊎◌, ◌+◌, ℕ, pos, negsuc, List, [], ◌∷◌, ◌&&◌, ◌==◌, ◌%◌, Option, Some, None, Result, Ok, Err, ok_or, codes, count_by, take, MatchOption, if◌then◌else◌}
use Rattle.std.specs.Result.{result_map_both, result_ok}
use Rattle.std.specs.Int.{is_power_of_two}
use Rattle.std.specs.Str.{is_utf8}
use Rattle.std.specs.Global.{Vec}
use Rattle.std.specs.BTreeMap.{BTreeMap}
use Rattle.std.specs.Prelude.{String}
use Rattle.std.specs.declared.alloc.Global.{Global}
use Rattle.hex.specs.Hex.{decode_sized}
use Rattle.toml.specs.Data.{Data, Members, no_members, member, get_member, as_table, as_str, as_integer}
use Rattle.toml.specs.Parse.{parse_document}
use Rattle.toml.specs.View.{table_view}
use Rattle.toml.specs.declared.value.Value.{Value}
use Rattle.avr_part.specs.Part.{Part, id_of, is_between}
use Rattle.avr_part.specs.declared.fault.Field.{Field}
use Rattle.avr_part.specs.declared.fault.Field.TheVariants as field
use Rattle.avr_part.specs.declared.fault.PartFault.{PartFault}
use Rattle.avr_part.specs.declared.fault.PartFault.TheVariants.{NotToml, Missing, BadValue, BadSizes, Memory}

-- bytes of a text or of a name
abbrev pub Bytes : Type 0
Bytes = List ℕ

-- goes on with a result, unless it is a fault
infixl 10 ◌>>=◌
abbrev pub ◌>>=◌ : {A B E : Type 0} → Result A E → (A → Result B E) → Result B E
Ok x >>= f = f x
Err e >>= f = Err e

-- a field that is a number from `least` to `most`
abbrev pub number_field : Field → ℕ → ℕ → Option Data → Result ℕ PartFault
number_field f least most d = do
  value ← ok_or d (Missing f)
  number ← ok_or (as_integer value) (BadValue f)
  elim number [ pos n ↦ if is_between least most n then Ok n else Err (BadValue f) | negsuc n ↦ Err (BadValue f) ]

-- a field that is a page: a power of two from `least` to 256
abbrev pub page_field : Field → ℕ → Option Data → Result ℕ PartFault
page_field f least d = number_field f least 256 d >>= (λ n. if is_power_of_two n then Ok n else Err (BadValue f))

-- a field that is three bytes in hexadecimal digits
abbrev pub signature_field : Option Data → Result Bytes PartFault
signature_field d = do
  value ← ok_or d (Missing field.Signature)
  text ← ok_or (as_str value) (BadValue field.Signature)
  ok_or (result_ok (decode_sized text 3)) (BadValue field.Signature)

-- a member of the table of parts: a table named by the part's id, with the fields in their order
abbrev pub part_of : Bytes → Data → Result Part PartFault
part_of key d = do
  ms ← ok_or (as_table d) (BadValue field.Parts)
  id ← ok_or (id_of key) (BadValue field.Id)
  signature ← signature_field (get_member (codes "signature") ms)
  flash_size ← number_field field.FlashSize 2 262144 (get_member (codes "flash_size") ms)
  flash_page ← page_field field.FlashPage 2 (get_member (codes "flash_page") ms)
  eeprom_size ← number_field field.EepromSize 1 4096 (get_member (codes "eeprom_size") ms)
  eeprom_page ← page_field field.EepromPage 1 (get_member (codes "eeprom_page") ms)
  eesave_bit ← number_field field.EesaveBit 0 7 (get_member (codes "eesave_bit") ms)
  fits ← if flash_size % flash_page == 0 && eeprom_size % eeprom_page == 0 then Ok (tt {0}) else Err BadSizes
  Ok (record {
    id = id;
    signature = signature;
    flash_size = flash_size;
    flash_page = flash_page;
    eeprom_size = eeprom_size;
    eeprom_page = eeprom_page;
    eesave_bit = eesave_bit;
  })

-- why a part file is refused, and the id of the part at fault, if it has one
pub record NamedFault : Type 0 where
  pub part : Option Bytes
  pub fault : PartFault

-- a fault of the whole file
abbrev pub of_file : PartFault → NamedFault
of_file fault = record { part = None; fault = fault }

-- a part, or its fault with its id
abbrev pub in_part : Bytes → Result Part PartFault → Result Part NamedFault
in_part key = result_map_both (λ part. part) (λ fault. record { part = id_of key; fault = fault })

-- the members of the table of parts, in the byte order of their keys
abbrev pub parts_in : Members → Result (List Part) NamedFault
parts_in no_members = Ok []
parts_in (member key d rest) = do
  part ← in_part key (part_of key d)
  parts ← parts_in rest
  Ok (part ∷ parts)

-- the parts in the document's table `parts`
abbrev pub document_parts : Members → Result (List Part) NamedFault
document_parts ms = do
  parts ← ok_or (get_member (codes "parts") ms) (of_file (Missing field.Parts))
  members ← ok_or (as_table parts) (of_file (BadValue field.Parts))
  parts_in members

-- how many lines a text has, the last one perhaps empty
abbrev pub line_count : Bytes → ℕ
line_count text = count_by (λ byte. byte == 10) text + 1

-- the 1-based line of a place in a text
abbrev pub line_at : Bytes → ℕ → ℕ
line_at text place = line_count (take place text)

-- why a part file is refused, and the line at which it stops being TOML
pub record FaultWithLine : Type 0 where
  pub why : NamedFault
  pub line : Option ℕ

-- the fault of a text that stops being TOML at this line
abbrev pub not_toml_at : ℕ → FaultWithLine
not_toml_at line = record { why = of_file NotToml; line = Some line }

-- only a text that is not TOML has a line, which is one of its lines
abbrev pub IsPlaced : Bytes → FaultWithLine → Type 0
IsPlaced text f =
    MatchOption f.line (f.why.fault ≢ NotToml) (λ line. (f.why.fault ≡ NotToml) × (1 ≤ line) × (line ≤ line_count text))

-- the result without the id of the part at fault
abbrev pub unnamed : {T : Type 0} → Result T NamedFault → Result T PartFault
unnamed = result_map_both (λ t. t) (λ f. f.fault)

-- the parts of a part file with these bytes, or why it is refused
abbrev pub parts_of : Bytes → Result (List Part) NamedFault
parts_of bytes = do
  text ← ok_or (if is_utf8 bytes then Some bytes else None) (of_file NotToml)
  document ← ok_or (parse_document text) (of_file NotToml)
  document_parts document

-- the contract of calls that make parts and chips: the wanted result, or allocation failed
abbrev pub GivesPartUnlessOutOfMemory : {T : Type 0} → Result T PartFault → Result T PartFault → Type 0
GivesPartUnlessOutOfMemory want got = (got ≡ want) ⊎ (got ≡ Err Memory)

-- the same for calls that read a part file
abbrev pub ReadsUnlessOutOfMemory : {T : Type 0} → Result T NamedFault → Result T NamedFault → Type 0
ReadsUnlessOutOfMemory want got = (got ≡ want) ⊎ (got ≡ Err (of_file Memory))

-- the parts that were listed, as a list
abbrev pub listed_items : Result (Vec Part) NamedFault → Result (List Part) NamedFault
listed_items = result_map_both (λ v. v.items) (λ e. e)

-- the document of a text, or why there is none: it isn't TOML, or allocation failed
abbrev pub ReadsDocument : Option Members → Result (BTreeMap (String Global) Value) FaultWithLine → Type 0
ReadsDocument want (Ok t) = want ≡ Some (table_view t)
ReadsDocument want (Err e) = (e.why ≡ of_file Memory) ⊎ ((e.why ≡ of_file NotToml) × (want ≡ None))
