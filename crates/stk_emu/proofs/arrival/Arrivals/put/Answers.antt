use Rattle.std.proofs.Common.{rules}
use Rattle.stk_emu.proofs.Wires.Waiting.{within_more, bytes_put}
use Rattle.stk_emu.proofs.arrival.Arrivals.put.Goals as goal

pub invariant_of-self : goal.invariant_of-self
invariant_of-self c = search (rules, within_more)

pub returns-clause-tape : goal.returns-clause-tape
returns-clause-tape c = search (rules, bytes_put)
