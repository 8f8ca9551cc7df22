-- When a failed allocation may stop a plan while no file is open. If a file is open, the break is `NoMemoryForFile`.
use Rattle.std.specs.Prelude.{◌≡◌, Bool, true, false, List, [], ◌∷◌, ◌++◌, if◌then◌else◌}
use Rattle.avr_plan.specs.declared.settings.Settings.{Settings}
use Rattle.avr_plan.specs.declared.settings.Switches.{Switches}
use Rattle.avr_plan.specs.declared.update.Format.{Format}
use Rattle.avr_plan.specs.declared.update.Format.TheVariants.{Immediate}
use Rattle.avr_plan.specs.declared.update.Op.{Op}
use Rattle.avr_plan.specs.declared.update.Op.TheVariants as op
use Rattle.avr_plan.specs.declared.update.Update.{Update}
use Rattle.avr_io.specs.OutputEvents.{OutputEvent}
use Rattle.avr_io.specs.Stage.{Stage, Produced}
use Rattle.avr_io.specs.declared.record.Opening.{Opening}
use Rattle.avr_part.specs.Mem.{is_writable}
use Rattle.avr_part.specs.Part.{Part}
use Rattle.avr_plan.specs.Planning.{planned, tasks_stage}
use Rattle.avr_plan.specs.declared.planned.Task.{Task}

-- The update has its values on the command line.
abbrev pub has_immediate_values : Format → Bool
has_immediate_values Immediate = true
has_immediate_values format = false

-- An operation allocates the image of immediate values, or the name of the file that a read creates.
abbrev pub op_allocates : Update → Op → Bool
op_allocates u op.Write = if is_writable u.memory then has_immediate_values u.format else false
op_allocates u op.Verify = has_immediate_values u.format
op_allocates u op.Read = true

-- The next update, `due`, allocates without a file. The openings and events so far are those of the stage of the
-- updates before it.
pub record AtAllocating {A : Type 0} (stage_of : List Update → Stage A) (updates : List Update) (passed : List Opening)
    (emitted : List OutputEvent) : Type 0 where
  pub done : List Update
  pub due : Update
  pub more : List Update
  pub updates_are : updates ≡ done ++ due ∷ more
  pub allocates : op_allocates due due.op ≡ true
  pub made : A
  pub is_made : stage_of done passed
      ≡ record { output_events = emitted; stage_outcome = Produced made; openings_left = [] }

-- The stage is the plan. Contracts of `plan` give this as the only point of a failed allocation without a file.
pub record AtAllocatingUpdate (s : Settings) (passed : List Opening) (emitted : List OutputEvent) : Type 0 where
  pub point : AtAllocating (λ done. planned (record s { updates = done })) s.updates passed emitted

-- inside: the stage is that of some updates whose tasks follow others
pub record AtAllocatingTask (switches : Switches) (part : Part) (tasks : List Task) (updates : List Update)
    (passed : List Opening) (emitted : List OutputEvent) : Type 0 where
  pub point : AtAllocating (tasks_stage switches part tasks) updates passed emitted
