use Rattle.std.proofs.Common.{rules}
use Rattle.stk_emu.proofs.Memories.Blocks.{block_done}
use Rattle.stk_emu.proofs.programmer.Programmer.program_flash.Goals as goal

pub returns : goal.returns
returns c = search (rules, block_done)
