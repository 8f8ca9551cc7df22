-- What holds of every chip.
use Rattle.std.specs.Prelude.{◌≡◌, ◌<◌, length}
use Rattle.avr_part.specs.Part.{IsPart}
use Rattle.avr_part.specs.Memory.{AreBytes, AreLoads}
use Rattle.avr_part.specs.State.{ChipState}

-- Every chip's memories and buffers have the part's sizes and hold bytes.
pub record IsSoundChip (s : ChipState) : Type 0 where
  pub part : IsPart s.part
  pub flash_size : length s.flash ≡ s.part.flash_size
  pub eeprom_size : length s.eeprom ≡ s.part.eeprom_size
  pub flash_buffer_size : length s.flash_buffer ≡ s.part.flash_page
  pub eeprom_buffer_size : length s.eeprom_buffer ≡ s.part.eeprom_page
  pub flash : AreBytes s.flash
  pub eeprom : AreBytes s.eeprom
  pub lfuse : s.lfuse < 256
  pub hfuse : s.hfuse < 256
  pub efuse : s.efuse < 256
  pub lock : s.lock < 256
  pub flash_buffer : AreBytes s.flash_buffer
  pub eeprom_buffer : AreLoads s.eeprom_buffer
  pub extended : s.extended < 256
