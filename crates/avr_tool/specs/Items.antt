-- What a plan does to the memories of a chip.
use Rattle.std.specs.Prelude.{Bool, true, false, List, [], ◌∷◌, ◌++◌, Option, Some, None, filter_map, if◌then◌else◌}
use Rattle.avr_plan.specs.Plan.{Plan}
use Rattle.avr_plan.specs.declared.planned.Task.{Task}
use Rattle.avr_plan.specs.declared.planned.Task.TheVariants as task
use Rattle.avr_session.specs.Actions.{Action, EraseChip, WriteImage, is_erase_due, actions}
use Rattle.stk_emu.specs.Effect.{Item, Erase, Write}

-- What an action does to the memories.
abbrev pub action_items : Action → List Item
action_items EraseChip = Erase ∷ []
action_items (WriteImage mem image) = Write mem image ∷ []
action_items action = []

-- What actions do, in order.
abbrev pub actions_items : List Action → List Item
actions_items [] = []
actions_items (action ∷ actions) = action_items action ++ actions_items actions

-- The erase, if due, and the writes, in order.
abbrev pub items : Plan → List Item
items plan = actions_items (actions plan)

-- Whether one of these items is an erase.
abbrev pub has_erase : List Item → Bool
has_erase [] = false
has_erase (Erase ∷ more) = true
has_erase (Write mem image ∷ more) = has_erase more

-- A task that writes changes a memory. Others don't.
abbrev pub task_item : Task → Option Item
task_item (task.Write mem image) = Some (Write mem image)
task_item other = None

-- The items of a plan by its switches and tasks alone. A dry run has none; any other run erases if an erase is due, and
-- writes the image of each write in order. Law `a_plan_writes_what_its_tasks_write` states that `items` is equal.
abbrev pub asked_items : Plan → List Item
asked_items plan = if plan.switches.dry then []
    else (if is_erase_due plan.switches plan.tasks then Erase ∷ [] else []) ++ filter_map task_item plan.tasks
