use Rattle.std.proofs.Common.{◌≡◌, drop}
use Rattle.stk_emu.specs.Programmer.{after_instructions, flash_loads}
use Rattle.stk_emu.proofs.flash.load_page.Given as goal

abbrev pub invariant-loop-i : goal.invariant-loop-i
invariant-loop-i l =
    after_instructions (flash_loads l.block.wide l.block.command l.block.address l.i (drop l.i l.bytes)) l.chip
    ≡ after_instructions (flash_loads l.block.wide l.block.command l.block.address 0 l.bytes) l.fn.chip
