use Rattle.std.proofs.Common.{◌≤◌, ◌-◌, length, []}
use Rattle.stk_host.specs.Places.{each_from}
use Rattle.stk_host.specs.WriteSteps.{place_count, place_steps}
use Rattle.stk_host.specs.Reach.{Reaches}
use Rattle.stk_host.specs.Steps.{play}
use Rattle.ghosts.specs.Preserves.{Preserves}
use Rattle.stk_host.proofs.writing.write_places.Given as goal

abbrev pub invariant-loop-place : goal.invariant-loop-place
invariant-loop-place g l = record {
  reaches : Reaches (play (each_from (place_steps l.part l.mem l.image) 0 (place_count l.part l.mem)) [])
      l.fn.talk.progress (g.L.Link.view l.fn.link)
      (play (each_from (place_steps l.part l.mem l.image) l.place (place_count l.part l.mem - l.place)) [])
      l.talk.progress (g.L.Link.view l.link);
  comes : Preserves g.L.Link.started_as l.fn.link l.link;
  bound : length l.fn.talk.progress.unread ≤ 281 → length l.talk.progress.unread ≤ 281;
}
