-- The parts that a part file holds.
use Rattle.std.specs.Prelude.{◌≡◌, ℕ, pos, List, [], ◌∷◌, codes, Some, Ok, true}
use Rattle.std.specs.Str.{is_utf8}
use Rattle.hex.specs.Hex.{decode_sized}
use Rattle.toml.specs.Data.{Members, no_members, member, get_member, string, integer, table}
use Rattle.toml.specs.Parse.{parse_document}
use Rattle.avr_part.specs.Part.{Part, IsPart}

-- The part of a table with these members, under this key. Each field is there, and the part is possible.
pub record IsPartOf (key : List ℕ) (fields : Members) (part : Part) : Type 0 where
  pub id : part.id ≡ key
  pub signature : (text : List ℕ) × (get_member (codes "signature") fields ≡ Some (string text))
      × (decode_sized text 3 ≡ Ok part.signature)
  pub flash_size : get_member (codes "flash_size") fields ≡ Some (integer (pos part.flash_size))
  pub flash_page : get_member (codes "flash_page") fields ≡ Some (integer (pos part.flash_page))
  pub eeprom_size : get_member (codes "eeprom_size") fields ≡ Some (integer (pos part.eeprom_size))
  pub eeprom_page : get_member (codes "eeprom_page") fields ≡ Some (integer (pos part.eeprom_page))
  pub eesave_bit : get_member (codes "eesave_bit") fields ≡ Some (integer (pos part.eesave_bit))
  pub is_part : IsPart part

-- One part for each table, in order.
abbrev pub ArePartsIn : Members → List Part → Type 0
ArePartsIn no_members [] = Unit {0}
ArePartsIn (member key (table fields) tables) (part ∷ parts) = IsPartOf key fields part × ArePartsIn tables parts
ArePartsIn tables parts = ⊥

-- The parts that a text of TOML holds, in its table `parts`.
abbrev pub HoldsParts : List ℕ → List Part → Type 0
HoldsParts text parts =
    (document : Members) × (tables : Members) × (is_utf8 text ≡ true) × (parse_document text ≡ Some document)
    × (get_member (codes "parts") document ≡ Some (table tables)) × ArePartsIn tables parts
