-- The actions of a session after its opening fit the part: an image is as large as its memory, and a memory that is
-- written can be.
use Rattle.std.proofs.Common.{List, [], ◌∷◌, ◌++◌, rules}
use Rattle.std.proofs.lemmas.List.Elements.{All-head, All-tail}
use Rattle.std.specs.Prelude.{All, ⊤}
use Rattle.avr_plan.specs.declared.settings.Switches.{Switches}
use Rattle.avr_part.specs.Part.{Part}
use Rattle.avr_plan.specs.Plan.{Plan, IsFitted}
use Rattle.avr_plan.specs.declared.planned.Task.{Task}
use Rattle.avr_plan.specs.declared.planned.Task.TheVariants.{Write, Verify}
use Rattle.avr_session.specs.Actions.{Action, OpenSession, WriteImage, CompareImage, erase_actions, task_actions, tasks_actions}
use Rattle.avr_tool.proofs.WriteOperations.Items.{ItemsFit}
use Rattle.avr_tool.specs.Items.{action_items}
use Rattle.avr_tool.proofs.Each.{Each, each_on}

-- what follows the opening of a session
abbrev pub work : Plan → List Action
work plan = erase_actions plan.switches plan.tasks ++ tasks_actions plan.switches plan.tasks

-- an action that is done in programming mode
abbrev pub FitsAction : Part → Action → Type 0
FitsAction part OpenSession = ⊥
FitsAction part (WriteImage mem image) = IsFitted part (Write mem image)
FitsAction part (CompareImage mem image) = IsFitted part (Verify mem image)
FitsAction part action = ⊤

-- Each of these actions fits.
abbrev pub AllFitActions : Part → List Action → Type 0
AllFitActions part actions = Each (FitsAction part) actions

module _ (part : Part) where
  -- The action of a task fits if its image does.
  task_fits : (s : Switches) (task : Task) → IsFitted part task → AllFitActions part (task_actions s task)
  task_fits s task fitted = search rules

  -- So do those of all tasks.
  pub tasks_fit : (s : Switches) (tasks : List Task) → All (IsFitted part) tasks
      → AllFitActions part (tasks_actions s tasks)
  tasks_fit s [] fitted = tt
  tasks_fit s (task ∷ tasks) fitted =
      each_on (FitsAction part) (task_actions s task) (tasks_actions s tasks)
      (task_fits s task (All-head (IsFitted part) task tasks fitted))
      (tasks_fit s tasks (All-tail (IsFitted part) task tasks fitted))

  -- The items of an action that fits do.
  pub action_items_fit : (action : Action) → FitsAction part action → ItemsFit part (action_items action)
  action_items_fit action fits = search rules

-- The actions of a plan after its opening fit.
pub work_fits : (plan : Plan) → All (IsFitted plan.part) plan.tasks → AllFitActions plan.part (work plan)
work_fits plan fitted =
    let part = plan.part in
    let s = plan.switches in
    each_on (FitsAction part) (erase_actions s plan.tasks) (tasks_actions s plan.tasks)
    (search rules)
    (tasks_fit part s plan.tasks fitted)
