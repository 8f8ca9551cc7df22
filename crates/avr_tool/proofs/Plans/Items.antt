-- The items of a plan: an erase, if it has one, and then writes alone.
use Rattle.std.proofs.Common.{◌≡◌, refl, List, [], ◌∷◌, ◌++◌, Bool, true, false, rules}
use Rattle.std.specs.Prelude.{filter_map, if◌then◌else◌}
use Rattle.avr_plan.specs.declared.settings.Switches.{Switches}
use Rattle.avr_part.specs.Part.{Part}
use Rattle.avr_plan.specs.Plan.{Plan}
use Rattle.avr_plan.specs.declared.planned.Task.{Task}
use Rattle.avr_plan.specs.declared.planned.Task.TheVariants as task
use Rattle.avr_session.specs.Actions.{Action, erase_actions, tasks_actions}
use Rattle.stk_emu.specs.Effect.{Memories, Item, Erase, effects}
use Rattle.avr_tool.specs.ComparisonsAgree.{EachComparisonAgrees, ComparisonsAgree}
use Rattle.avr_tool.specs.Items.{action_items, actions_items, items, has_erase, task_item, asked_items}

-- The writes of a plan.
abbrev pub writes : Plan → List Item
writes plan = actions_items (tasks_actions plan.switches plan.tasks)

-- The erase, if there is one.
abbrev pub erase_if : Bool → List Item
erase_if true = Erase ∷ []
erase_if false = []

-- The items of two lists of actions.
pub items_on : (xs ys : List Action) → actions_items (xs ++ ys) ≡ actions_items xs ++ actions_items ys
items_on [] ys = refl
items_on (x ∷ xs) ys = search (rules, items_on xs ys)

-- No task erases.
pub tasks_write : (s : Switches) (tasks : List Task) → has_erase (actions_items (tasks_actions s tasks)) ≡ false
tasks_write s [] = refl
tasks_write s (task.Write mem image ∷ tasks) = search (rules, tasks_write s tasks)
tasks_write s (task.Verify mem image ∷ tasks) = tasks_write s tasks
tasks_write s (task.Read mem format file ∷ tasks) = tasks_write s tasks

-- The first action erases if the plan has an erase.
pub begins : (plan : Plan) → actions_items (erase_actions plan.switches plan.tasks) ≡ erase_if (has_erase (items plan))
begins plan = search (rules, tasks_write)

-- The items of a plan are its erase, if any, and its writes.
pub items_are : (plan : Plan) → items plan ≡ erase_if (has_erase (items plan)) ++ writes plan
items_are plan = search (rules, items_on, begins)

-- ---- by the tasks

-- The writes are those of the tasks; a dry run has none.
writes_by_tasks : (s : Switches) (tasks : List Task)
    → actions_items (tasks_actions s tasks) ≡ (if s.dry then [] else filter_map task_item tasks)
writes_by_tasks s [] = search rules
writes_by_tasks s (task.Write mem image ∷ tasks) = search (rules, writes_by_tasks s tasks)
writes_by_tasks s (task.Verify mem image ∷ tasks) = writes_by_tasks s tasks
writes_by_tasks s (task.Read mem format file ∷ tasks) = writes_by_tasks s tasks

-- So the items are the asked ones.
pub items_by_tasks : (plan : Plan) → items plan ≡ asked_items plan
items_by_tasks plan = search (rules, writes_by_tasks)

-- ---- what they compare

module _ (part : Part) where
  -- The comparisons of later actions agree over what the first ones leave.
  agree_behind : (xs ys : List Action) (m : Memories) → EachComparisonAgrees part (xs ++ ys) m
      → EachComparisonAgrees part ys (effects part (actions_items xs) m)
  agree_behind [] ys m agree = agree
  agree_behind (x ∷ xs) ys m agree = search (rules, agree_behind xs ys (effects part (action_items x) m) agree.1)

-- the comparisons of a plan are those of its tasks, after the erase
pub tasks_agree : (plan : Plan) (m : Memories) → ComparisonsAgree plan m
    → EachComparisonAgrees plan.part (tasks_actions plan.switches plan.tasks)
    (effects plan.part (erase_if (has_erase (items plan))) m)
tasks_agree plan m agree = search (rules, begins, agree_behind)
