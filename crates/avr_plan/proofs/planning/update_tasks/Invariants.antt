use Rattle.std.proofs.Common.{◌≡◌, ℕ, List, [], drop, length, Result, All}
use Rattle.avr_io.specs.Fault.{HasSameCounts}
use Rattle.avr_io.specs.Record.{DeskState}
use Rattle.avr_plan.specs.Plan.{IsFitted}
use Rattle.avr_plan.specs.Planning.{tasks_stage}
use Rattle.avr_plan.specs.AllocationPoints.{AtAllocatingTask}
use Rattle.avr_io.specs.StageRuns.{RunsStage}
use Rattle.avr_plan.specs.declared.planned.Task.{Task}
use Rattle.ghosts.specs.Preserves.{Preserves}
use Rattle.avr_plan.proofs.planning.update_tasks.Given as goal

-- the outcome of the remaining updates is that of all of them
abbrev pub invariant-loop-update : goal.invariant-loop-update
invariant-loop-update g l = record {
  completes : (new : DeskState) (result : Result (List Task) ℕ)
      → RunsStage (AtAllocatingTask l.switches l.part l.tasks.items (drop l.update-index l.updates))
      (tasks_stage l.switches l.part l.tasks.items (drop l.update-index l.updates)) (g.D.Desk.view l.desk) new result
      → RunsStage (AtAllocatingTask l.switches l.part [] l.updates) (tasks_stage l.switches l.part [] l.updates)
      (g.D.Desk.view l.initial.desk) new result;
  fitted : All (IsFitted l.part) l.tasks.items;
  counts : HasSameCounts (g.D.Desk.view l.initial.desk) (g.D.Desk.view l.desk);
  placed : length l.tasks.items ≡ l.update-index;
  stays : Preserves g.D.Desk.started_as l.initial.desk l.desk;
}
