-- The programmer's replies to the commands that read, and its state after them.
use Rattle.std.proofs.Common.{ℕ, ◌/◌, rules}
use Rattle.avr_part.specs.declared.part.Mem.TheVariants.{Flash, Eeprom}
use Rattle.avr_part.specs.Part.{Part, IsPart}
use Rattle.stk_frame.specs.Commands.{body}
use Rattle.stk_frame.specs.HostCommands.{read_flash_block, read_eeprom_block}
use Rattle.stk_host.specs.Places.{load_flash, load_eeprom}
use Rattle.stk_emu.specs.Programmer.{Programmer}
use Rattle.stk_emu.specs.Device.{device}
use Rattle.stk_emu.specs.Effect.{Memories}
use Rattle.stk_emu.specs.Settled.{Ready}
use Rattle.stk_emu.specs.WriteOperations.{IsBlock, AreWords}
use Rattle.stk_emu.proofs.Memories.Pages.{is_wide}
use Rattle.stk_emu.proofs.Memories.BlocksRead.{flash_left, eeprom_left}

module _ (part : Part) (sound : IsPart part) where
  -- the address is loaded, then the block is read
  pub flash_read_keeps : (start count : ℕ) (m : Memories) (p : Programmer) → IsBlock part Flash start count
      → AreWords start count → Ready part m p
      → Ready part m (device.after (body (read_flash_block count)) (device.after (body (load_flash part start)) p))
  flash_read_keeps start count m p is_block words s =
      search (rules, flash_left (is_wide part) (start / 2) 0 count p.chip)

  -- The same of a block of EEPROM.
  pub eeprom_read_keeps : (start count : ℕ) (m : Memories) (p : Programmer) → IsBlock part Eeprom start count
      → Ready part m p
      → Ready part m (device.after (body (read_eeprom_block count)) (device.after (body (load_eeprom start)) p))
  eeprom_read_keeps start count m p is_block s = search (rules, eeprom_left)
