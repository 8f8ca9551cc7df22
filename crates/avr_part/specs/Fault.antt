-- The names of fields in a part file, and the numbers of faults.
use Rattle.std.specs.Prelude.{ℕ, List, codes}
use Rattle.avr_part.specs.declared.fault.Field.{Field}
use Rattle.avr_part.specs.declared.fault.Field.TheVariants as field
use Rattle.avr_part.specs.declared.fault.PartFault.{PartFault}
use Rattle.avr_part.specs.declared.fault.PartFault.TheVariants.{NotToml, Missing, BadValue, BadSizes, NoSuchPart, BadChipFile, Memory}

-- the name of a field in a part file
abbrev pub field_name : Field → List ℕ
field_name field.Parts = codes "parts"
field_name field.Id = codes "id"
field_name field.Signature = codes "signature"
field_name field.FlashSize = codes "flash_size"
field_name field.FlashPage = codes "flash_page"
field_name field.EepromSize = codes "eeprom_size"
field_name field.EepromPage = codes "eeprom_page"
field_name field.EesaveBit = codes "eesave_bit"

-- the number of a fault, which never changes
abbrev pub part_fault_number : PartFault → ℕ
part_fault_number NotToml = 1
part_fault_number (Missing field) = 2
part_fault_number (BadValue field) = 3
part_fault_number BadSizes = 4
part_fault_number NoSuchPart = 5
part_fault_number (BadChipFile length) = 6
part_fault_number Memory = 7
