-- States of a programmer between commands, as far as the steps of a host depend on them.
use Rattle.std.specs.Prelude.{◌≡◌, ◌≤◌, true, length, replicate, None}
use Rattle.avr_part.specs.Part.{Part}
use Rattle.avr_part.specs.Memory.{AreBytes}
use Rattle.stk_emu.specs.Programmer.{Programmer}
use Rattle.stk_emu.specs.Effect.{Memories, memories_of}

-- Flash of at most 128 kB needs no extended address.
abbrev pub NeedsNoExtendedAddress : Part → Type 0
NeedsNoExtendedAddress part = part.flash_size ≤ 131072

-- A programmer in any mode, with a chip of this part that has these memories and page buffers of the part's sizes.
pub record HasMemories (part : Part) (m : Memories) (p : Programmer) : Type 0 where
  pub memories : memories_of p.chip ≡ m
  pub part_is : p.chip.part ≡ part
  pub flash_buffer : length p.chip.flash_buffer ≡ part.flash_page
  pub eeprom_buffer : length p.chip.eeprom_buffer ≡ part.eeprom_page

-- A programmer in programming mode, with a chip of this part that has these memories and empty page buffers. Its
-- extended address is 0 if the part needs none.
pub record Ready (part : Part) (m : Memories) (p : Programmer) : Type 0 where
  pub memories : memories_of p.chip ≡ m
  pub part_is : p.chip.part ≡ part
  pub mode : p.mode ≡ true
  pub flash_buffer : p.chip.flash_buffer ≡ replicate part.flash_page 255
  pub eeprom_buffer : p.chip.eeprom_buffer ≡ replicate part.eeprom_page None
  pub extended : NeedsNoExtendedAddress part → p.chip.extended ≡ 0

-- Memories of the part's sizes, and flash of bytes.
pub record FitsPart (part : Part) (m : Memories) : Type 0 where
  pub flash : length m.flash ≡ part.flash_size
  pub eeprom : length m.eeprom ≡ part.eeprom_size
  pub bytes : AreBytes m.flash
