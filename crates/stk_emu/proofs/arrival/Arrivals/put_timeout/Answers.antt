use Rattle.std.proofs.Common.{rules}
use Rattle.stk_emu.proofs.Wires.Waiting.{within_last, timeout_put}
use Rattle.stk_emu.proofs.arrival.Arrivals.put_timeout.Goals as goal

pub invariant_of-self : goal.invariant_of-self
invariant_of-self c = search (rules, within_last)

pub returns : goal.returns
returns c = search (rules, timeout_put)
