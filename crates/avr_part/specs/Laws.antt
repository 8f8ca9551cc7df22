-- Definitions for the laws of the chip.
use Rattle.std.specs.Prelude.{◌≡◌}
use Rattle.avr_part.specs.State.{ChipState}

-- flash, EEPROM and fuses are unchanged; the lock may change
pub record KeepsMemories (before s : ChipState) : Type 0 where
  pub flash : s.flash ≡ before.flash
  pub eeprom : s.eeprom ≡ before.eeprom
  pub lfuse : s.lfuse ≡ before.lfuse
  pub hfuse : s.hfuse ≡ before.hfuse
  pub efuse : s.efuse ≡ before.efuse
