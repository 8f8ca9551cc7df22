-- Lifts a fact about single stages of planning to the whole of it. The fact may name the files that a stage reads.
use Rattle.std.proofs.Common.{ℕ, List, [], ◌∷◌, ◌++◌, append-nil, Bool, true, false, Option, Some, None, Result, Ok, Err, rules, if◌then◌else◌}
use Rattle.avr_plan.specs.declared.settings.Settings.{Settings}
use Rattle.avr_plan.specs.declared.settings.Switches.{Switches}
use Rattle.avr_plan.specs.declared.update.Format.{Format}
use Rattle.avr_plan.specs.declared.update.Format.TheVariants as format
use Rattle.avr_plan.specs.declared.update.Op.{Op}
use Rattle.avr_plan.specs.declared.update.Op.TheVariants as op
use Rattle.avr_plan.specs.declared.update.Update.{Update}
use Rattle.avr_io.specs.Lines.{error}
use Rattle.avr_io.specs.Record.{Bytes}
use Rattle.avr_io.specs.Stage.{Stage, ◌>>=◌, output_stage, result_stage, file_stage}
use Rattle.avr_part.specs.BuiltIn.{part_of_id}
use Rattle.avr_part.specs.Mem.{is_writable}
use Rattle.avr_part.specs.Part.{Part}
use Rattle.avr_part.specs.declared.part.Mem.{Mem}
use Rattle.avr_laws.proofs.Limits.{LARGEST_IMAGE_FILE, LARGEST_PART_FILE}
use Rattle.avr_laws.specs.FilesRead.{part_file, image_file, file_of_op, files_of, files_read}
use Rattle.avr_plan.specs.Lines.{read_only_pieces, no_part_pieces}
use Rattle.avr_plan.specs.Plan.{Plan}
use Rattle.avr_plan.specs.Planning.{checked_parts, parts_stage, or_line, part_stage, warning_events, checked_image, image_stage, update_image, write_stage, op_stage, task_stage, tasks_stage, planned}
use Rattle.avr_plan.specs.declared.planned.Task.{Task}
use Rattle.avr_plan.specs.declared.planned.Task.TheVariants.{Write}
use Rattle.avr_records.specs.declared.kind.Ending.{Ending}

module _ (Holds : (A : Type 0) → Stage A → List Bytes → Type 0)
    (settled : (A : Type 0) (result : Result A Bytes) → Holds A (result_stage result) [])
    (warned : (s : Switches) (name : Bytes) (ending : Ending)
    → Holds (Unit {0}) (output_stage (warning_events s name ending)) [])
    (of_parts : (name : Bytes) → Holds (List Part) (file_stage name LARGEST_PART_FILE (checked_parts name)) (name ∷ []))
    (of_image : (name : Bytes) (kind : Format) (size : ℕ)
    → Holds (List (Option ℕ) × Ending) (file_stage name LARGEST_IMAGE_FILE (checked_image name kind size)) (name ∷ []))
    (onward : (A B : Type 0) (stage : Stage A) (go_on : A → Stage B) (first back : List Bytes) → Holds A stage first
    → ((a : A) → Holds B (go_on a) back) → Holds B (stage >>= go_on) (first ++ back)) where
  -- nothing more is read after it
  last : {A B : Type 0} (stage : Stage A) (go_on : A → Stage B) (names : List Bytes) → Holds A stage names
      → ((a : A) → Holds B (go_on a) []) → Holds B (stage >>= go_on) names
  last {A = A} {B = B} stage go_on names first second = search (rules, append-nil names)

  -- the stage of the part file
  parts : (name : Option Bytes) → Holds (List Part) (parts_stage name) (part_file name)
  parts None = settled (List Part) (Ok [])
  parts (Some name) = of_parts name

  module _ (s : Switches) where
    -- the stage of an image
    image : (memory : Mem) (size : ℕ) (name : Bytes) (kind : Format)
        → Holds (List (Option ℕ)) (image_stage s memory size name kind) (image_file name kind)
    image memory size name format.Immediate = search rules
    image memory size name kind = search (rules, last)

    module _ (part : Part) where
      -- an update's image, then its task
      update_holds : (u : Update) (make : List (Option ℕ) → Task)
          → Holds Task (update_image s part u >>= λ bytes. result_stage (Ok (make bytes))) (image_file u.file u.format)
      update_holds u make = search (rules, last, image)

      -- a write, by whether its memory can be written
      write : (u : Update) → Holds Task (write_stage s part u) (file_of_op u op.Write)
      write u = by_memory (is_writable u.memory)
        where
          by_memory : (b : Bool) → Holds Task
              (if b then (update_image s part u >>= λ bytes. result_stage (Ok (Write u.memory bytes)))
              else result_stage (Err (error (read_only_pieces u.memory))))
              (if b then image_file u.file u.format else [])
          by_memory true = update_holds u (Write u.memory)
          by_memory false = settled Task (Err (error (read_only_pieces u.memory)))

      -- an update, by its operation
      operation_holds : (u : Update) (o : Op) → Holds Task (op_stage s part u o) (file_of_op u o)
      operation_holds u op.Write = write u
      operation_holds u o = search (rules, update_holds)

      -- the updates, one after the other
      tasks : (before : List Task) (updates : List Update)
          → Holds (List Task) (tasks_stage s part before updates) (files_of updates)
      tasks before [] = settled (List Task) (Ok before)
      tasks before (u ∷ updates) =
          onward Task (List Task) (task_stage s part u) (λ task. tasks_stage s part (before ++ task ∷ []) updates)
          (file_of_op u u.op) (files_of updates) (operation_holds u u.op) (λ task. tasks (before ++ task ∷ []) updates)

  -- the plan made of a part and tasks
  abbrev plan_stage : Settings → Part → List Task → Stage Plan
  plan_stage s part tasks = result_stage (Ok (record { part = part; tasks = tasks; switches = s.switches }))

  -- planning as a whole
  pub whole_plan : (s : Settings) → Holds Plan (planned s) (files_read s)
  whole_plan s =
      let after_part : Part → Stage Plan = λ part. tasks_stage s.switches part [] s.updates >>= plan_stage s part in
      onward (List Part) Plan (parts_stage s.parts) (λ all. part_stage s.part all >>= after_part) (part_file s.parts)
      (files_of s.updates) (parts s.parts)
      (λ all. onward Part Plan (part_stage s.part all) after_part [] (files_of s.updates)
      (settled Part (or_line (λ fault. no_part_pieces s.part) (part_of_id s.part all)))
      (λ part. search (rules, last, tasks)))
