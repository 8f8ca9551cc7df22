-- The parts that a part file holds, if its reader finds no fault.
use Rattle.std.proofs.Common.{◌≡◌, ◌≤◌, ◌<◌, ◌%◌, ℕ, List, [], ◌∷◌, refl, Some, Option, Result, Ok, Err, Bool, true, arith, rules}
use Rattle.std.proofs.lemmas.Bool.{cases_lt}
use Rattle.std.proofs.lemmas.Bool.Decides.{nat_tests}
use Rattle.std.proofs.Math.Nat.{mod-eq_of_lt}
use Rattle.std.specs.Int.{is_power_of_two}
use Rattle.std.specs.Prelude.{pos, codes, nat_lt, ok_or, ◌&&◌, ◌==◌, if◌then◌else◌}
use Rattle.hex.specs.Hex.{decode_sized}
use Rattle.toml.specs.Data.{Data, Members, no_members, member, get_member, string, integer, table}
use Rattle.avr_part.specs.Part.{Part, id_of, is_id}
use Rattle.avr_part.specs.PartFile.{Bytes, part_of, parts_in, parts_of, number_field, page_field, signature_field, ◌>>=◌}
use Rattle.avr_laws.specs.HeldParts.{IsPartOf, ArePartsIn, HoldsParts}
use Rattle.avr_part.specs.declared.fault.Field.{Field}
use Rattle.avr_part.specs.declared.fault.Field.TheVariants as field
use Rattle.avr_part.specs.declared.fault.PartFault.{PartFault}
use Rattle.avr_part.specs.declared.fault.PartFault.TheVariants.{BadValue, BadSizes}
use Rattle.avr_laws.proofs.Held.Sized.{sized}
use Rattle.avr_part.proofs.Powers.{all_below, below, power_divides, power_is_even}

-- a field's value is a number within limits
record HasNumber (value : Option Data) (least most n : ℕ) : Type 0 where
  is : value ≡ Some (integer (pos n))
  least_is : least ≤ n
  most_is : n ≤ most

-- a field that is read as a number has such a value
field_number : (f : Field) (least most : ℕ) (value : Option Data) (n : ℕ) → number_field f least most value ≡ Ok n
    → HasNumber value least most n
field_number f least most value n is = search (rules, nat_tests)

-- a field that is read as the size of a page is a power of two, too
field_page : (f : Field) (least : ℕ) (value : Option Data) (n : ℕ) → page_field f least value ≡ Ok n
    → HasNumber value least 256 n × (is_power_of_two n ≡ true)
field_page f least value n is = search (rules, nat_tests, field_number)

-- an id that is read is the table's name
id_is : (key id : Bytes) → ok_or (id_of key) (BadValue field.Id) ≡ Ok id → (id ≡ key) × (is_id id ≡ true)
id_is key id is = search (rules, nat_tests)

-- a signature that is read is three bytes in hexadecimal
signature_is : (value : Option Data) (bytes : Bytes) → signature_field value ≡ Ok bytes
    → (text : Bytes) × (value ≡ Some (string text)) × (decode_sized text 3 ≡ Ok bytes)
signature_is value bytes is = search rules

-- each field was read, and gave the part's value
record AreFields (id signature : Result Bytes PartFault) (flash flash_page eeprom eeprom_page bit : Result ℕ PartFault)
    (part : Part) : Type 0 where
  id_ok : id ≡ Ok part.id
  signature_ok : signature ≡ Ok part.signature
  flash_ok : flash ≡ Ok part.flash_size
  flash_page_ok : flash_page ≡ Ok part.flash_page
  eeprom_ok : eeprom ≡ Ok part.eeprom_size
  eeprom_page_ok : eeprom_page ≡ Ok part.eeprom_page
  bit_ok : bit ≡ Ok part.eesave_bit
  flash_fits : part.flash_size % part.flash_page ≡ 0
  eeprom_fits : part.eeprom_size % part.eeprom_page ≡ 0

-- the part of these fields, or their first fault
abbrev part_of_fields : (id signature : Result Bytes PartFault) (flash flash_page eeprom eeprom_page bit : Result ℕ
    PartFault) → Result Part PartFault
part_of_fields id signature flash flash_page eeprom eeprom_page bit = do
  id ← id
  signature ← signature
  flash_size ← flash
  flash_page ← flash_page
  eeprom_size ← eeprom
  eeprom_page ← eeprom_page
  eesave_bit ← bit
  fits ← if flash_size % flash_page == 0 && eeprom_size % eeprom_page == 0 then Ok (tt {0}) else Err BadSizes
  Ok (record {
    id = id;
    signature = signature;
    flash_size = flash_size;
    flash_page = flash_page;
    eeprom_size = eeprom_size;
    eeprom_page = eeprom_page;
    eesave_bit = eesave_bit;
  })

-- a part that was made had all its fields
fields_read : (id signature : Result Bytes PartFault) (flash flash_page eeprom eeprom_page bit : Result ℕ PartFault)
    (part : Part) → part_of_fields id signature flash flash_page eeprom eeprom_page bit ≡ Ok part
    → AreFields id signature flash flash_page eeprom eeprom_page bit part
fields_read id signature flash flash_page eeprom eeprom_page bit part is = grind (arith, nat_tests)

-- a table that is read as a part holds it
one_part : (key : Bytes) (fields : Members) (part : Part) → part_of key (table fields) ≡ Ok part
    → IsPartOf key fields part
one_part key fields part is =
    let these = fields_read _ _ _ _ _ _ _ part is in
    let id = id_is key part.id these.id_ok in
    let signature = signature_is (get_member (codes "signature") fields) part.signature these.signature_ok in
    let flash = field_number _ 2 262144 _ part.flash_size these.flash_ok in
    let flash_page = field_page _ 2 _ part.flash_page these.flash_page_ok in
    let eeprom = field_number _ 1 4096 _ part.eeprom_size these.eeprom_ok in
    let eeprom_page = field_page _ 1 _ part.eeprom_page these.eeprom_page_ok in
    let bit = field_number _ 0 7 _ part.eesave_bit these.bit_ok in
    record {
      id = id.0;
      signature = signature;
      flash_size = flash.is;
      flash_page = flash_page.0.is;
      eeprom_size = eeprom.is;
      eeprom_page = eeprom_page.0.is;
      eesave_bit = bit.is;
      is_part = record {
        id = id.1;
        signature = sized signature.0 3 part.signature signature.2;
        flash_page = flash_page.0.least_is;
        flash_halves = power_is_even part.flash_page flash_page.1 flash_page.0.most_is flash_page.0.least_is;
        flash_fits = power_divides part.flash_page flash_page.1 flash_page.0.most_is;
        flash_pages = these.flash_fits;
        flash_some = flash.least_is;
        flash_most = flash.most_is;
        eeprom_page = eeprom_page.0.least_is;
        eeprom_fits = power_divides part.eeprom_page eeprom_page.1 eeprom_page.0.most_is;
        eeprom_pages = these.eeprom_fits;
        eeprom_some = eeprom.least_is;
        eeprom_most = eeprom.most_is;
        eesave_bit = omega (arith, bit.most_is);
      };
    }

-- the tables that are read as parts hold them
each_part : (tables : Members) (parts : List Part) → parts_in tables ≡ Ok parts → ArePartsIn tables parts
each_part no_members parts is = search rules
each_part (member key (table fields) tables) parts is = search (rules, one_part, each_part tables)
each_part (member key value tables) parts is = search rules

-- the parts that are read from a file are those that it holds
pub held_parts : (text : Bytes) (parts : List Part) → parts_of text ≡ Ok parts → HoldsParts text parts
held_parts text parts is = search (rules, each_part)

-- ---- and conversely

-- a number within the limits is read
number_read : (f : Field) (least most n : ℕ) → least ≤ n → n ≤ most
    → number_field f least most (Some (integer (pos n))) ≡ Ok n
number_read f least most n some few = search (rules, nat_tests)

-- a number that divides 256 is a power of two
abbrev power_if_divides : ℕ → Bool
power_if_divides n = if nat_lt 0 n && 256 % n == 0 then is_power_of_two n else true

-- so it is for each number up to 256
all_powers : all_below power_if_divides 257 ≡ true
unfolding lib.Count.ones
all_powers = refl

-- what divides 256 passes the reader's test
divides_power : (n : ℕ) → 0 < n → n ≤ 256 → 256 % n ≡ 0 → is_power_of_two n ≡ true
divides_power n some few divides = search (rules, below power_if_divides 257 n all_powers (omega arith))

-- what divides 256 is at most 256
divides_below : (n : ℕ) → 256 % n ≡ 0 → n ≤ 256
divides_below n divides = search (rules, cases_lt, mod-eq_of_lt)

-- the size of a page that divides 256 is read
page_read : (f : Field) (least n : ℕ) → 0 < n → least ≤ n → 256 % n ≡ 0
    → page_field f least (Some (integer (pos n))) ≡ Ok n
page_read f least n some enough divides = search (
  rules,
  nat_tests,
  number_read f least 256 n enough (divides_below n divides),
  divides_power n some (divides_below n divides) divides,
)

-- three bytes in hexadecimal are read
signature_read : (text bytes : Bytes) → decode_sized text 3 ≡ Ok bytes → signature_field (Some (string text)) ≡ Ok bytes
signature_read text bytes is = search rules

-- an id is read
id_read : (id : Bytes) → is_id id ≡ true → ok_or (id_of id) (BadValue field.Id) ≡ Ok id
id_read id is = search rules

-- a part is made of its fields
fields_made : (id signature : Result Bytes PartFault) (flash flash_page eeprom eeprom_page bit : Result ℕ PartFault)
    (part : Part) → AreFields id signature flash flash_page eeprom eeprom_page bit part
    → part_of_fields id signature flash flash_page eeprom eeprom_page bit ≡ Ok part
fields_made id signature flash flash_page eeprom eeprom_page bit part f = grind (arith, nat_tests)

-- so a table that holds a part is read as this part
part_read : (key : Bytes) (fields : Members) (part : Part) → IsPartOf key fields part
    → part_of key (table fields) ≡ Ok part
part_read key fields part p = search (
  rules,
  fields_made,
  id_read,
  signature_read p.signature.0 part.signature p.signature.2,
  number_read field.FlashSize 2 262144 part.flash_size p.is_part.flash_some p.is_part.flash_most,
  page_read field.FlashPage
      2 part.flash_page (omega (arith, p.is_part.flash_page)) p.is_part.flash_page p.is_part.flash_fits,
  number_read field.EepromSize 1 4096 part.eeprom_size p.is_part.eeprom_some p.is_part.eeprom_most,
  page_read field.EepromPage 1 part.eeprom_page p.is_part.eeprom_page p.is_part.eeprom_page p.is_part.eeprom_fits,
  number_read field.EesaveBit 0 7 part.eesave_bit (omega arith) (omega (arith, p.is_part.eesave_bit)),
)

-- so are the tables of a file
all_read : (tables : Members) (parts : List Part) → ArePartsIn tables parts → parts_in tables ≡ Ok parts
all_read no_members [] are = refl
all_read (member key (table fields) tables) (part ∷ parts) are =
    search (rules, part_read key fields part are.0, all_read tables parts are.1)
all_read tables parts are = absurd are

-- so is a part file
pub parts_read : (text : Bytes) (parts : List Part) → HoldsParts text parts → parts_of text ≡ Ok parts
parts_read text parts held = search (rules, all_read)
