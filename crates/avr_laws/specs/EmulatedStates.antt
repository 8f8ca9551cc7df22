-- The emulated programmer, as the table sees it.
use Rattle.std.specs.Prelude.{◌≡◌, length, replicate, None}
use Rattle.avr_part.specs.Part.{Part}
use Rattle.stk_emu.specs.Effect.{Memories, memories_of}
use Rattle.stk_emu.specs.Programmer.{Programmer}
use Rattle.stk_emu.specs.Settled.{NeedsNoExtendedAddress}

-- The memories of its chip.
abbrev pub chip_memories : Programmer → Memories
chip_memories p = memories_of p.chip

-- It has a chip of this part, and page buffers of its sizes.
pub record HasPart (part : Part) (p : Programmer) : Type 0 where
  pub part_is : p.chip.part ≡ part
  pub flash_buffer : length p.chip.flash_buffer ≡ part.flash_page
  pub eeprom_buffer : length p.chip.eeprom_buffer ≡ part.eeprom_page

-- Its page buffers are empty.
pub record HasEmptyBuffers (part : Part) (p : Programmer) : Type 0 where
  pub part_is : p.chip.part ≡ part
  pub flash_buffer : p.chip.flash_buffer ≡ replicate part.flash_page 255
  pub eeprom_buffer : p.chip.eeprom_buffer ≡ replicate part.eeprom_page None
  pub extended : NeedsNoExtendedAddress part → p.chip.extended ≡ 0
