use Rattle.std.proofs.Common.{◌≡◌, length, take, ◌-◌, ◌≤◌}
use Rattle.stk_host.specs.Reach.{SendsExactly}
use Rattle.ghosts.specs.Preserves.{Preserves}
use Rattle.stk_host.proofs.link.send_all.Given as goal

abbrev pub invariant-loop-done : goal.invariant-loop-done
invariant-loop-done g l = record {
  in_range : l.done ≤ length l.bytes;
  emits : SendsExactly (take l.done l.bytes) (g.L.Link.view l.fn.link).transcript (g.L.Link.view l.link).transcript;
  counted : (g.L.Link.view l.link).failures ≡ (g.L.Link.view l.fn.link).failures;
  comes : Preserves g.L.Link.started_as l.fn.link l.link;
}

abbrev pub decreases-loop-done : goal.decreases-loop-done
decreases-loop-done g l = length l.bytes - l.done
