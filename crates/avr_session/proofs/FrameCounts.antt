-- How many commands the steps of a plan have.
use Rattle.std.proofs.Common.{◌≡◌, arith, ℕ, zero, suc, ◌+◌, ◌*◌, ◌-◌, ◌<◌, ◌≤◌, Option, List, [], ◌∷◌, ◌++◌, drop, min, ◌^◌, rules}
use Rattle.avr_part.specs.Part.{Part}
use Rattle.avr_part.specs.declared.part.Mem.{Mem}
use Rattle.avr_plan.specs.Plan.{Plan}
use Rattle.avr_plan.specs.declared.planned.Task.{Task}
use Rattle.avr_session.specs.Actions.{Action, WriteImage, CompareImage, erase_actions, task_actions, tasks_actions}
use Rattle.avr_session.specs.PlanSteps.{actions_steps, run_steps}
use Rattle.stk_frame.specs.declared.command.Command.{Command}
use Rattle.stk_host.specs.Bound.{commands_in}
use Rattle.stk_host.specs.Places.{each_from}
use Rattle.stk_host.specs.ReadSteps.{read_steps}
use Rattle.stk_host.specs.WriteSteps.{write_steps}
use Rattle.std.proofs.lemmas.Bool.Decides.{nat_tests}
use Rattle.std.proofs.lemmas.List.{drop_more, drop_all}

-- Steps of two lists have the commands of both.
pub commands_append : (first second : List (List Command))
    → commands_in (first ++ second) ≡ commands_in first + commands_in second
commands_append [] second = omega arith
commands_append (commands ∷ first) second = let more = commands_append first second in omega (arith, more)

-- Actions of two lists have the commands of both.
pub actions_append : (part : Part) (first second : List Action) → commands_in (actions_steps part (first ++ second))
    ≡ commands_in (actions_steps part first) + commands_in (actions_steps part second)
actions_append part [] second = omega arith
actions_append part (action ∷ first) second = search (rules, commands_append, actions_append part first second)

-- A write and its comparison have the commands that write the image and those that read the memory.
pub write_and_read : (part : Part) (mem : Mem) (image : List (Option ℕ))
    → commands_in (actions_steps part (WriteImage mem image ∷ CompareImage mem image ∷ []))
    ≡ commands_in (write_steps part mem image) + commands_in (read_steps part mem)
write_and_read part mem image = search (rules, commands_append)

module _ (steps_at : ℕ → List (List Command)) where
  -- the commands from this place on are those at it and those after it
  pub next_place : (place count : ℕ) → place < count → commands_in (each_from steps_at place (count - place))
      ≡ commands_in (steps_at place) + commands_in (each_from steps_at (place + 1) (count - (place + 1)))
  next_place place count before = search (rules, commands_append)

  -- From the end on there are no commands.
  pub no_place : (place count : ℕ) → count ≤ place → commands_in (each_from steps_at place (count - place)) ≡ 0
  no_place place count past = search rules

  -- If each place has `each` commands, the places have `count * each`.
  pub all_places : (each place count : ℕ) → ((k : ℕ) → commands_in (steps_at k) ≡ each)
      → commands_in (each_from steps_at place count) ≡ count * each
  all_places each place zero all = omega arith
  all_places each place (suc count) all = search (rules, commands_append, all_places each (place + 1) count all)

-- ---- the tasks of a plan, one after another

-- The greatest count that a caller gets.
abbrev pub most : ℕ
most = 2 ^ 64 - 1

-- the commands of its tasks from this one on
abbrev pub left : Plan → ℕ → ℕ
left plan i = commands_in (actions_steps plan.part (tasks_actions plan.switches (drop i plan.tasks)))

-- The commands of the whole session.
abbrev pub all : Plan → ℕ
all plan = commands_in (run_steps plan)

-- The count before the first task, with those of all tasks, is that of the session.
pub counts_first : (plan : Plan) (erase : ℕ)
    → erase ≡ commands_in (actions_steps plan.part (erase_actions plan.switches plan.tasks))
    → min most (6 + erase + left plan 0) ≡ min most (all plan)
counts_first plan erase is = search (rules, min, commands_append)

-- If the count so far and what is left make up the session, so they do after one more task.
pub counts_on : (plan : Plan) (i count more next : ℕ) (task : Task) → drop i plan.tasks ≡ task ∷ drop (i + 1) plan.tasks
    → more ≡ commands_in (actions_steps plan.part (task_actions plan.switches task)) → next ≡ min (count + more) most
    → min most (count + left plan i) ≡ min most (all plan) → min most (next + left plan (i + 1)) ≡ min most (all plan)
counts_on plan i count more next task cut more_is next_is counted = search (rules, actions_append)

-- After the last task the count is that of the session.
pub counts_all : (plan : Plan) (i count : ℕ) → drop i plan.tasks ≡ [] → count ≤ most
    → min most (count + left plan i) ≡ min most (all plan) → count ≡ min most (all plan)
counts_all plan i count none few counted = search rules

-- the lemmas for the functions of frames.rt
pub ruleset places_counted = (nat_tests, all_places, next_place, no_place, write_and_read)

pub ruleset tasks_counted = (drop_more, drop_all, counts_first, counts_on, counts_all)
