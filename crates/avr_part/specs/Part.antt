-- The data of a part, and the ids and sizes that a part can have.
use Rattle.std.specs.Prelude.{◌≡◌, ◌<◌, ◌≤◌, ◌%◌, ℕ, List, Bool, true, length, Option, Some, None, if◌then◌else◌, ◌&&◌, ◌||◌, ◌==◌, nat_le}
use Rattle.std.specs.List.{list_all}
use Rattle.avr_part.specs.declared.part.Mem.{Mem}
use Rattle.avr_part.specs.declared.part.Mem.TheVariants.{Flash, Eeprom, Signature}

-- sizes and pages in bytes; the EESAVE bit by its number in the high fuse
pub record Part : Type 0 where
  pub id : List ℕ
  pub signature : List ℕ
  pub flash_size : ℕ
  pub flash_page : ℕ
  pub eeprom_size : ℕ
  pub eeprom_page : ℕ
  pub eesave_bit : ℕ

-- the number is neither below the first bound nor above the second
abbrev pub is_between : ℕ → ℕ → ℕ → Bool
is_between low high n = nat_le low n && nat_le n high

-- a letter, a digit, `_` or `-`
abbrev pub is_id_byte : ℕ → Bool
is_id_byte b = is_between 65 90 b || is_between 97 122 b || is_between 48 57 b || b == 95 || b == 45

-- 1 to 31 such bytes
abbrev pub is_id : List ℕ → Bool
is_id text = is_between 1 31 (length text) && list_all is_id_byte text

-- the text, if it is a valid id
abbrev pub id_of : List ℕ → Option (List ℕ)
id_of text = if is_id text then Some text else None

-- A valid id, and sizes that a part can have. A page divides 256, so it is a power of two, and a memory is whole pages.
-- Flash has at most 262,144 bytes and pages of whole words. EEPROM has at most 4,096 bytes.
pub record IsPart (p : Part) : Type 0 where
  pub id : is_id p.id ≡ true
  pub signature : length p.signature ≡ 3
  pub flash_page : 2 ≤ p.flash_page
  pub flash_halves : p.flash_page % 2 ≡ 0
  pub flash_fits : 256 % p.flash_page ≡ 0
  pub flash_pages : p.flash_size % p.flash_page ≡ 0
  pub flash_some : 2 ≤ p.flash_size
  pub flash_most : p.flash_size ≤ 262144
  pub eeprom_page : 0 < p.eeprom_page
  pub eeprom_fits : 256 % p.eeprom_page ≡ 0
  pub eeprom_pages : p.eeprom_size % p.eeprom_page ≡ 0
  pub eeprom_some : 0 < p.eeprom_size
  pub eeprom_most : p.eeprom_size ≤ 4096
  pub eesave_bit : p.eesave_bit < 8

-- the size of a memory in bytes
abbrev pub size_of : Mem → Part → ℕ
size_of Flash p = p.flash_size
size_of Eeprom p = p.eeprom_size
size_of Signature p = 3
size_of m p = 1

-- how many bytes are written at once
abbrev pub page_of : Mem → Part → ℕ
page_of Flash p = p.flash_page
page_of Eeprom p = p.eeprom_page
page_of m p = 1
