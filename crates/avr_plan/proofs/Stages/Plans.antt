-- The stages of a plan, one after another.
use Rattle.std.proofs.Common.{◌≡◌, ap, append-nil, ℕ, false, List, [], ◌++◌, Ok, Err, rules}
use Rattle.avr_plan.specs.declared.settings.Settings.{Settings}
use Rattle.avr_io.specs.Record.{DeskState}
use Rattle.avr_part.specs.Part.{Part}
use Rattle.avr_io.specs.OutputEvents.{OutputEvent}
use Rattle.avr_io.specs.declared.record.Opening.{Opening}
use Rattle.avr_io.proofs.Stages.Files.{never_allocates}
use Rattle.avr_io.proofs.Stages.Played.{runs_then, runs_first_only, completed_then}
use Rattle.avr_plan.specs.Plan.{Plan}
use Rattle.avr_plan.specs.Planning.{parts_stage, part_stage, tasks_stage, planned}
use Rattle.avr_io.specs.StageRuns.{OnlyAtStart, RunsStage, AllocationPoints, StageCompleted}
use Rattle.avr_plan.specs.AllocationPoints.{AtAllocatingUpdate, AtAllocatingTask}
use Rattle.avr_io.specs.Stage.{Stage, Produced, continued_stage, ◌>>=◌, result_stage}
use Rattle.avr_plan.specs.declared.planned.Task.{Task}

-- The plan of this part and these tasks.
abbrev plan_of : Settings → Part → List Task → Plan
plan_of s part tasks = record { part = part; tasks = tasks; switches = s.switches }

-- The stages after the part.
abbrev behind_part : Settings → Part → Stage Plan
behind_part s part = tasks_stage s.switches part [] s.updates >>= λ tasks. result_stage (Ok (plan_of s part tasks))

-- The stages after the part file.
abbrev pub behind_parts : Settings → List Part → Stage Plan
behind_parts s parts = part_stage s.part parts >>= behind_part s

-- If the part file gave no parts, planning broke off or was refused.
pub plan_lacks_parts : (s : Settings) (old new : DeskState) (status : ℕ)
    → RunsStage (OnlyAtStart false) (parts_stage s.parts) old new (Err status)
    → RunsStage (AtAllocatingUpdate s) (planned s) old new (Err status)
plan_lacks_parts s old new status goes =
    runs_first_only (AtAllocatingUpdate s) (parts_stage s.parts) (behind_parts s) old new status
    (search rules)

-- If the part was not found, planning was refused.
pub plan_lacks_part : (s : Settings) (old mid new : DeskState) (status : ℕ) (parts : List Part)
    → StageCompleted (parts_stage s.parts) old mid (Produced parts)
    → RunsStage (OnlyAtStart false) (part_stage s.part parts) mid new (Err status)
    → RunsStage (AtAllocatingUpdate s) (planned s) old new (Err status)
plan_lacks_part s old mid new status parts went goes =
    runs_then (OnlyAtStart false) (AtAllocatingUpdate s) (parts_stage s.parts) (behind_parts s) old mid new parts
    (Err status) went (λ passed emitted never. absurd (never_allocates passed emitted never))
    (runs_first_only (OnlyAtStart false) (part_stage s.part parts) (behind_part s) mid new status goes)

-- an update that is due after the part is due in the plan
due_in_plan : (s : Settings) (old first mid : DeskState) (parts : List Part) (part : Part)
    (went : StageCompleted (parts_stage s.parts) old first (Produced parts))
    (found : StageCompleted (part_stage s.part parts) first mid (Produced part)) (passed : List Opening)
    (emitted : List OutputEvent) → AtAllocatingTask s.switches part [] s.updates passed emitted
    → AtAllocatingUpdate s (went.passed ++ (found.passed ++ passed)) (went.output_events
    ++ (found.output_events ++ emitted))
due_in_plan s old first mid parts part went found passed emitted due = search (rules, planned_so, before)
  where
    -- The settings with the updates before the one that is due.
    before : Settings
    before = record s { updates = due.point.done }

    -- Their stages after the part.
    made : Stage Plan
    made = tasks_stage s.switches part [] due.point.done >>= λ tasks. result_stage (Ok (plan_of s part tasks))

    -- These stages completed with what was passed and emitted after the part.
    made_so : made passed ≡ record {
      output_events = emitted ++ [];
      stage_outcome = Produced (plan_of s part due.point.made);
      openings_left = [];
    }
    made_so = ap (λ p. continued_stage p.output_events p.openings_left (λ ts. result_stage (Ok (plan_of s part ts)))
        p.stage_outcome) due.point.is_made

    -- Planning with these settings completed with all that was passed and emitted.
    planned_so : planned before (went.passed ++ (found.passed ++ passed))
        ≡ record {
          output_events = went.output_events ++ (found.output_events ++ emitted);
          stage_outcome = Produced (plan_of s part due.point.made);
          openings_left = [];
        }
    planned_so = search (rules, append-nil)

-- allocation points after the part file
abbrev Behind : Settings → List Opening → List OutputEvent → AllocationPoints
Behind s before output_events passed emitted = AtAllocatingUpdate s (before ++ passed) (output_events ++ emitted)

-- If the updates gave no tasks, planning broke off or was refused.
pub plan_lacks_tasks : (s : Settings) (old first mid new : DeskState) (status : ℕ) (parts : List Part) (part : Part)
    → StageCompleted (parts_stage s.parts) old first (Produced parts) → StageCompleted (part_stage s.part parts) first
    mid (Produced part)
    → RunsStage (AtAllocatingTask s.switches part [] s.updates) (tasks_stage s.switches part [] s.updates)
    mid new (Err status) → RunsStage (AtAllocatingUpdate s) (planned s) old new (Err status)
plan_lacks_tasks s old first mid new status parts part went found goes =
    runs_then (Behind s went.passed went.output_events) (AtAllocatingUpdate s) (parts_stage s.parts) (behind_parts s)
    old first new parts (Err status) went (λ passed emitted there. there)
    (runs_then (AtAllocatingTask s.switches part [] s.updates) (Behind s went.passed went.output_events)
    (part_stage s.part parts) (behind_part s) first mid new part (Err status) found
    (due_in_plan s old first mid parts part went found) (search (rules, runs_first_only)))

-- If all stages completed, planning completed with the plan.
pub plan_made : (s : Settings) (old first mid new : DeskState) (parts : List Part) (part : Part)
    (tasks : List Task)
    → StageCompleted (parts_stage s.parts) old first (Produced parts) → StageCompleted (part_stage s.part parts) first
    mid (Produced part) → StageCompleted (tasks_stage s.switches part [] s.updates) mid new (Produced tasks)
    → StageCompleted (planned s) old new (Produced (plan_of s part tasks))
plan_made s old first mid new parts part tasks went found made = search (rules, completed_then)
