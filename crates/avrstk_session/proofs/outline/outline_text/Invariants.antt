use Rattle.std.proofs.Common.{◌≡◌, ◌++◌, drop, map}
use Rattle.std.specs.List.{concat}
use Rattle.avrstk_session.specs.Outline.{task_text, outline_text}
use Rattle.avrstk_session.proofs.outline.outline_text.Given as goal

abbrev pub invariant-loop-task : goal.invariant-loop-task
invariant-loop-task l = record {
  all : l.text.items ++ concat (map (task_text l.plan.part) (drop l.task-index l.plan.tasks)) ≡ outline_text l.plan;
  tasks : l.tasks ≡ l.plan.tasks;
}
