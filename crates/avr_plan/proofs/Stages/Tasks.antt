-- The tasks of updates.
use Rattle.std.proofs.Common.{◌≡◌, sym, ap, subst, ℕ, ◌+◌, All, drop, List, [], ◌∷◌, ◌++◌, refl, Bool, false, Option, Result, Err, rules}
use Rattle.avr_plan.specs.declared.settings.Switches.{Switches}
use Rattle.avr_plan.specs.declared.update.Format.{Format}
use Rattle.avr_plan.specs.declared.update.Format.TheVariants.{Immediate}
use Rattle.avr_plan.specs.declared.update.Update.{Update}
use Rattle.avr_io.specs.Record.{DeskState, Bytes}
use Rattle.avr_io.specs.OutputEvents.{OutputEvent}
use Rattle.avr_io.specs.declared.record.Opening.{Opening}
use Rattle.avr_part.specs.Part.{Part}
use Rattle.avr_part.specs.declared.part.Mem.{Mem}
use Rattle.avr_io.proofs.Stages.Played.{runs_then, runs_first_only, runs_with_more_allocations}
use Rattle.avr_plan.specs.Planning.{file_image_stage, image_stage, task_stage, tasks_stage}
use Rattle.avr_io.specs.StageRuns.{OnlyAtStart, RunsStage, StageCompleted}
use Rattle.avr_plan.specs.AllocationPoints.{AtAllocatingTask, has_immediate_values, op_allocates}
use Rattle.avr_io.specs.Stage.{Produced}
use Rattle.avr_plan.specs.declared.planned.Task.{Task}

-- If the values are not on the command line, the stage of an image is that of its file.
file_stage-is : (switches : Switches) (memory : Mem) (size : ℕ) (file : Bytes) (format : Format)
    → (format ≡ Immediate → ⊥)
    → file_image_stage switches file format size ≡ image_stage switches memory size file format
file_stage-is switches memory size file format other = search rules

module _ (switches : Switches) (memory : Mem) (size own_size : ℕ) (file own_file : Bytes) (format : Format)
    (old new : DeskState) (result : Result (List (Option ℕ)) ℕ) (sizes : size ≡ own_size)
    (files : file ≡ own_file) where
  -- A run of the stage of an image is one for an equal size and file.
  stage_of_same_image : (allocates : Bool) → has_immediate_values format ≡ allocates
      → RunsStage (OnlyAtStart allocates) (image_stage switches memory size file format) old new result
      → RunsStage (OnlyAtStart (has_immediate_values format)) (image_stage switches memory own_size own_file format)
      old new result
  stage_of_same_image allocates values goes = search rules

  -- If the values are in a file, a run of the stage of this file is one of the stage of the image.
  pub stage_of_file_image : (format ≡ Immediate → ⊥)
      → RunsStage (OnlyAtStart false) (file_image_stage switches file format size) old new result
      → RunsStage (OnlyAtStart (has_immediate_values format)) (image_stage switches memory own_size own_file format)
      old new result
  stage_of_file_image other goes = stage_of_same_image false (search rules) (search (rules, file_stage-is))

-- ---- one task after another

module _ (switches : Switches) (part : Part) (tasks : List Task) (u : Update) (updates : List Update) where
  -- If the next update allocates at its start, this is a point of the stage of these updates.
  due_at_once : (passed : List Opening) (emitted : List OutputEvent) → OnlyAtStart (op_allocates u u.op) passed emitted
      → AtAllocatingTask switches part tasks (u ∷ updates) passed emitted
  due_at_once passed emitted allocates = record {
    point = record {
      done = [];
      due = u;
      more = updates;
      updates_are = refl;
      allocates = allocates.0;
      made = tasks;
      is_made = rw (allocates.1, allocates.2) refl;
    };
  }

  -- A point of the stage of later updates is one of these updates, after the next one.
  due_later : (old mid : DeskState) (task : Task) (went : StageCompleted (task_stage switches part u) old mid
      (Produced task)) (passed : List Opening) (emitted : List OutputEvent)
      → AtAllocatingTask switches part (tasks ++ task ∷ []) updates passed emitted
      → AtAllocatingTask switches part tasks (u ∷ updates) (went.passed ++ passed) (went.output_events ++ emitted)
  due_later old mid task went passed emitted later = record {
    point = record {
      done = u ∷ later.point.done;
      due = later.point.due;
      more = later.point.more;
      updates_are = ap (λ (us : List Update). u ∷ us) later.point.updates_are;
      allocates = later.point.allocates;
      made = later.point.made;
      is_made = search rules;
    };
  }

module _ (switches : Switches) (part : Part) (tasks : List Task) (updates : List Update) (i : ℕ) (u : Update) where
  -- The task of the next update was made: a run of the stage of later updates makes one of the stage of these.
  pub next_task_made : (old mid new : DeskState) (task : Task) (result : Result (List Task) ℕ)
      → drop i updates ≡ u ∷ drop (i + 1) updates → StageCompleted (task_stage switches part u) old mid (Produced task)
      → RunsStage (AtAllocatingTask switches part (tasks ++ task ∷ []) (drop (i + 1) updates))
      (tasks_stage switches part (tasks ++ task ∷ []) (drop (i + 1) updates)) mid new result
      → RunsStage (AtAllocatingTask switches part tasks (drop i updates)) (tasks_stage switches part tasks
      (drop i updates)) old new result
  next_task_made old mid new task result is went goes = search (rules, runs_then, due_later, result, is, went, goes)

  -- If the next update gave no task, the stage of these updates broke off or was refused.
  pub next_task_refused : (old new : DeskState) (status : ℕ) → drop i updates ≡ u ∷ drop (i + 1) updates
      → RunsStage (OnlyAtStart (op_allocates u u.op)) (task_stage switches part u) old new (Err status)
      → RunsStage (AtAllocatingTask switches part tasks (drop i updates)) (tasks_stage switches part tasks
      (drop i updates)) old new (Err status)
  next_task_refused old new status is goes =
      subst (λ (us : List Update). RunsStage (AtAllocatingTask switches part tasks us) (tasks_stage switches part tasks
      us) old new (Err status)) (sym is)
      (search (rules, runs_with_more_allocations, due_at_once, runs_first_only))

-- What holds of a task holds of the list of it alone.
pub all_one : (P : Task → Type 0) (task : Task) → P task → All P (task ∷ [])
all_one P task holds index other within = search rules
