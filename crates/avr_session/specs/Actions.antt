-- The actions of a plan, in order.
use Rattle.std.specs.Prelude.{ℕ, Bool, true, false, ◌&&◌, ◌||◌, not, List, [], ◌∷◌, ◌++◌, Option, if◌then◌else◌}
use Rattle.std.specs.List.{list_any}
use Rattle.avr_plan.specs.declared.settings.Switches.{Switches}
use Rattle.avr_plan.specs.declared.update.Format.{Format}
use Rattle.avr_io.specs.Record.{Bytes}
use Rattle.avr_part.specs.declared.part.Mem.{Mem}
use Rattle.avr_part.specs.declared.part.Mem.TheVariants.{Flash}
use Rattle.avr_plan.specs.Plan.{Plan}
use Rattle.avr_plan.specs.declared.planned.Task.{Task}
use Rattle.avr_plan.specs.declared.planned.Task.TheVariants.{Write, Verify, Read}

-- What a dry run skips: an erase that was asked for, or the write of an image.
pub data SkippedByDryRun : Type 0 where
  SkippedErase : SkippedByDryRun
  SkippedWrite : Mem → List (Option ℕ) → SkippedByDryRun

-- What a session does for a plan: one operation of the host, or the report of what a dry run skips.
pub data Action : Type 0 where
  OpenSession : Action
  EraseChip : Action
  WriteImage : Mem → List (Option ℕ) → Action
  CompareImage : Mem → List (Option ℕ) → Action
  SaveMemory : Mem → Format → Bytes → Action
  SkipAction : SkippedByDryRun → Action

-- The task writes an image to flash.
abbrev pub writes_flash : Task → Bool
writes_flash (Write Flash image) = true
writes_flash task = false

-- The chip is to be erased: by `-e`, or before flash is written unless `-D` is given.
abbrev pub is_erase_due : Switches → List Task → Bool
is_erase_due s tasks = s.erase || (list_any writes_flash tasks && not s.keep_flash)

-- A dry run erases and writes nothing.
abbrev pub erase_actions : Switches → List Task → List Action
erase_actions s tasks = if s.dry then (if s.erase then SkipAction SkippedErase ∷ [] else [])
    else if is_erase_due s tasks then EraseChip ∷ [] else []

-- A write, which is read back unless verifying is off, or what a dry run reports in place of them.
abbrev pub write_actions : Switches → Mem → List (Option ℕ) → List Action
write_actions s mem image =
    if s.dry then SkipAction (SkippedWrite mem image) ∷ []
    else WriteImage mem image ∷ (if s.no_verify then [] else CompareImage mem image ∷ [])

-- The actions of one task; below, of tasks in order.
abbrev pub task_actions : Switches → Task → List Action
task_actions s (Write mem image) = write_actions s mem image
task_actions s (Verify mem image) = CompareImage mem image ∷ []
task_actions s (Read mem format file) = SaveMemory mem format file ∷ []

abbrev pub tasks_actions : Switches → List Task → List Action
tasks_actions s [] = []
tasks_actions s (task ∷ tasks) = task_actions s task ++ tasks_actions s tasks

-- What a plan does, in order. Its dialog, its commands and its items follow from this list.
abbrev pub actions : Plan → List Action
actions plan = OpenSession ∷ (erase_actions plan.switches plan.tasks ++ tasks_actions plan.switches plan.tasks)

-- Reading and comparing allocate. Planning has allocated all that the plan holds.
abbrev pub action_allocates : Action → Bool
action_allocates (CompareImage mem image) = true
action_allocates (SaveMemory mem format file) = true
action_allocates action = false

-- The session of this plan allocates.
abbrev pub plan_allocates : Plan → Bool
plan_allocates plan = list_any action_allocates (actions plan)
