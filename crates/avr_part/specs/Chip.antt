-- The state that contracts see of a chip.
use Rattle.avr_part.specs.State.{ChipState}
use Rattle.avr_part.specs.declared.chip.Chip.TheInside.{Inside}

-- the state that contracts see of a chip
abbrev pub state_of : Inside → ChipState
state_of c = record {
  part = c.part;
  flash = c.flash;
  eeprom = c.eeprom;
  lfuse = c.lfuse;
  hfuse = c.hfuse;
  efuse = c.efuse;
  lock = c.lock;
  flash_buffer = c.flash_buffer;
  eeprom_buffer = c.eeprom_buffer;
  extended = c.extended;
}
