use Rattle.std.proofs.Common.{◌≡◌, ◌+◌, ◌-◌, length}
use Rattle.stk_emu.specs.Programmer.{eeprom_reads}
use Rattle.stk_emu.proofs.Memories.Blocks.{LooksOn}
use Rattle.stk_emu.proofs.eeprom.read.Given as goal

abbrev pub invariant-loop-place : goal.invariant-loop-place
invariant-loop-place l = record {
  on : LooksOn l.initial.out.items (eeprom_reads l.command l.address 0 l.count l.initial.chip) l.out.items
      (eeprom_reads l.command l.address l.place (l.count - l.place) l.chip);
  len : length l.out.items ≡ length l.initial.out.items + l.place;
}
