use Rattle.std.proofs.Common.{◌≤◌, ◌<◌, length, ◌-◌}
use Rattle.stk_host.specs.Reach.{Reaches}
use Rattle.stk_host.specs.Steps.{step, attempts_or_fault, commands_by}
use Rattle.ghosts.specs.Preserves.{Preserves}
use Rattle.stk_host.proofs.conversation.Conversation.step.Given as goal

abbrev pub invariant-loop-tried : goal.invariant-loop-tried
invariant-loop-tried g l = record {
  reaches : Reaches (step (commands_by l.first l.last)) l.fn.self.progress (g.L.Link.view l.fn.link)
      (attempts_or_fault (4 - l._tried) (commands_by l.first l.last) l.fault) l.self.progress (g.L.Link.view l.link);
  bound : 0 < l._tried → length l.self.progress.unread ≤ 281;
  comes : Preserves g.L.Link.started_as l.fn.link l.link;
}
