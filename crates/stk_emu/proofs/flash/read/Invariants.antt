use Rattle.std.proofs.Common.{◌≡◌, ◌+◌, ◌-◌, length}
use Rattle.stk_emu.specs.Programmer.{flash_reads}
use Rattle.stk_emu.proofs.Memories.Blocks.{LooksOn}
use Rattle.stk_emu.proofs.flash.read.Given as goal

abbrev pub invariant-loop-place : goal.invariant-loop-place
invariant-loop-place l = record {
  on : LooksOn l.fn.out.items (flash_reads l.block.wide l.block.command l.block.address 0 l.count l.fn.chip) l.out.items
      (flash_reads l.block.wide l.block.command l.block.address l.place (l.count - l.place) l.chip);
  len : length l.out.items ≡ length l.fn.out.items + l.place;
}
