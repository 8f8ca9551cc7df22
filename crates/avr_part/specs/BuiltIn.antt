-- The built-in parts, and how a part is found.
use Rattle.std.specs.Prelude.{ℕ, List, [], ◌∷◌, ◌++◌, Bool, codes, Result, ok_or, find}
use Rattle.std.specs.Str.{bytes_eq}
use Rattle.avr_part.specs.Part.{Part}
use Rattle.avr_part.specs.declared.fault.PartFault.{PartFault}
use Rattle.avr_part.specs.declared.fault.PartFault.TheVariants.{NoSuchPart}

-- the ATmega328P
abbrev pub m328p : Part
m328p = record {
  id = codes "m328p";
  signature = 0x1E ∷ 0x95 ∷ 0x0F ∷ [];
  flash_size = 32768;
  flash_page = 128;
  eeprom_size = 1024;
  eeprom_page = 4;
  eesave_bit = 3;
}

-- the ATtiny85
abbrev pub t85 : Part
t85 = record {
  id = codes "t85";
  signature = 0x1E ∷ 0x93 ∷ 0x0B ∷ [];
  flash_size = 8192;
  flash_page = 64;
  eeprom_size = 512;
  eeprom_page = 4;
  eesave_bit = 3;
}

-- the ATmega2560
abbrev pub m2560 : Part
m2560 = record {
  id = codes "m2560";
  signature = 0x1E ∷ 0x98 ∷ 0x01 ∷ [];
  flash_size = 262144;
  flash_page = 256;
  eeprom_size = 4096;
  eeprom_page = 8;
  eesave_bit = 3;
}

-- the parts that are known without a part file
abbrev pub built_in_parts : List Part
built_in_parts = m328p ∷ t85 ∷ m2560 ∷ []

-- the part has this id
abbrev pub has_id : List ℕ → Part → Bool
has_id id p = bytes_eq p.id id

-- the first part of this id; parts of a file come before the built-in ones
abbrev pub part_of_id : List ℕ → List Part → Result Part PartFault
part_of_id id parts = ok_or (find (has_id id) (parts ++ built_in_parts)) NoSuchPart
