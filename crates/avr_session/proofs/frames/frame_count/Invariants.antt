use Rattle.std.proofs.Common.{◌≡◌, ◌≤◌, ◌+◌, min}
use Rattle.avr_session.proofs.FrameCounts.{most, left, all}
use Rattle.avr_session.proofs.frames.frame_count.Given as goal

abbrev pub invariant-loop-task : goal.invariant-loop-task
invariant-loop-task l = record {
  counted : min most (l.count + left l.plan l.task-index) ≡ min most (all l.plan);
  few : l.count ≤ most;
  tasks : l.tasks ≡ l.plan.tasks;
  switches : l.switches ≡ l.plan.switches;
}
