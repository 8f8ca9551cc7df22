use Rattle.std.proofs.Common.{◌≡◌, ◌-◌, length, drop}
use Rattle.avr_records.specs.Sparse.{last_held}
use Rattle.avr_records.proofs.cursor.last_held_of.Given as goal

abbrev pub invariant-rows : goal.invariant-rows
invariant-rows g l =
    last_held 0 0 (g.M.Sparse.held l.memory)
    ≡ last_held l.last l.addr (drop l.addr (g.M.Sparse.held l.memory))

abbrev pub decreases-rows : goal.decreases-rows
decreases-rows g l = length (g.M.Sparse.held l.memory) - l.addr
