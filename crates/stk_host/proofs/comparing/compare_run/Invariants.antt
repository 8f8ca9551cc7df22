use Rattle.std.proofs.Common.{◌≡◌, ◌+◌, drop}
use Rattle.stk_host.specs.Operations.{difference_from}
use Rattle.stk_host.proofs.ImagePlaces.Differences.{held_as}
use Rattle.stk_host.proofs.comparing.compare_run.Given as goal

abbrev pub invariant-loop-i : goal.invariant-loop-i
invariant-loop-i l =
    difference_from l.addr (held_as l.run) l.bytes
    ≡ difference_from (l.addr + l.i) (held_as (drop l.i l.run)) (drop l.i l.bytes)
