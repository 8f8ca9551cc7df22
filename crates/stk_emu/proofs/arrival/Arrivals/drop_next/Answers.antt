use Rattle.std.proofs.Common.{rules}
use Rattle.stk_emu.proofs.Wires.Waiting.{within_next, within_dropped, at_dropped, timeout_dropped, bytes_dropped}
use Rattle.stk_emu.proofs.arrival.Arrivals.drop_next.Goals as goal

pub invariant_of-self : goal.invariant_of-self
invariant_of-self c = search (rules, within_next)

pub overflow_add-self : goal.overflow_add-self
overflow_add-self c =
    let le = at_dropped c.self.inside.at c.args.count c.self.inside.bytes.items c.self.inside.timeouts.items
    c.self.invariant.0 c.self.invariant.1 (rw (← c.self.view_is) at c.requires.inside) in
    search (rules, le)

pub invariant_of-self-else-count-eq0 : goal.invariant_of-self-else-count-eq0
invariant_of-self-else-count-eq0 c =
    let le = rw (← c.self.view_is) at c.requires.inside in
    search (rules, at_dropped, within_dropped, le)

pub returns-then-count-eq0 : goal.returns-then-count-eq0
returns-then-count-eq0 c = search (rules, timeout_dropped)

pub returns-else-count-eq0 : goal.returns-else-count-eq0
returns-else-count-eq0 c = search (rules, bytes_dropped)
