use Rattle.std.proofs.Common.{◌≡◌, ◌≤◌, ◌-◌, length, []}
use Rattle.std.specs.Prelude.{vec_capacity}
use Rattle.avr_part.specs.Part.{size_of}
use Rattle.stk_host.specs.Places.{each_from}
use Rattle.stk_host.specs.ReadSteps.{read_count, read_step, read_steps}
use Rattle.stk_host.specs.Reach.{Reaches}
use Rattle.stk_host.specs.Steps.{play}
use Rattle.ghosts.specs.Preserves.{Preserves}
use Rattle.stk_host.proofs.Operations.Reads.{read_before}
use Rattle.stk_host.proofs.reading.read_memory.Given as goal

abbrev pub invariant-loop-number : goal.invariant-loop-number
invariant-loop-number g l = record {
  reaches : Reaches (play (read_steps l.part l.mem) []) l.fn.talk.progress (g.L.Link.view l.fn.link)
      (play (each_from (read_step l.part l.mem) l.number (read_count l.part l.mem - l.number)) l.out.items)
      l.talk.progress (g.L.Link.view l.link);
  size : length l.out.items ≡ read_before l.part l.mem l.number;
  room : size_of l.mem l.part ≤ vec_capacity l.out;
  comes : Preserves g.L.Link.started_as l.fn.link l.link;
  bound : length l.fn.talk.progress.unread ≤ 281 → length l.talk.progress.unread ≤ 281;
}
