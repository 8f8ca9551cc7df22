use Rattle.std.proofs.Common.{rules}
use Rattle.stk_emu.proofs.Wires.Waiting.{none_wait}
use Rattle.stk_emu.proofs.arrival.Arrivals.rewind.Goals as goal

pub returns-then-is_empty : goal.returns-then-is_empty
returns-then-is_empty c = search (rules, none_wait)
