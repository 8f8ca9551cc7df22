-- A plan that was made over some openings is the one that settings and these files ask for.
use Rattle.std.proofs.Common.{rules, arith}
use Rattle.std.proofs.Common.{◌≡◌, ◌≤◌, ◌∙◌, ap, ℕ, Bool, true, List, [], ◌∷◌, ◌++◌, append_assoc, append-nil, refl, Some, Option, Result, Ok, inl, inr, length}
use Rattle.std.specs.Prelude.{ok_or, if◌then◌else◌}
use Rattle.std.proofs.lemmas.Bool.{cases_Bool}
use Rattle.std.proofs.lemmas.Bool.Decides.{nat_tests}
use Rattle.avr_plan.specs.declared.settings.Settings.{Settings}
use Rattle.avr_plan.specs.declared.settings.Switches.{Switches}
use Rattle.avr_plan.specs.declared.update.Format.{Format}
use Rattle.avr_plan.specs.declared.update.Format.TheVariants as format
use Rattle.avr_plan.specs.declared.update.Op.{Op}
use Rattle.avr_plan.specs.declared.update.Op.TheVariants as op
use Rattle.avr_plan.specs.declared.update.Update.{Update}
use Rattle.avr_io.specs.Record.{Bytes}
use Rattle.avr_io.specs.OutputEvents.{OutputEvent, Opens, PrintsLine}
use Rattle.avr_io.specs.Stage.{Stage, Produced, ◌>>=◌, file_stage, output_stage, result_stage}
use Rattle.avr_io.specs.declared.record.Opening.{Opening}
use Rattle.avr_io.specs.declared.record.Opening.TheVariants.{Absent, Found}
use Rattle.avr_part.specs.Mem.{is_writable}
use Rattle.avr_part.specs.Part.{Part, size_of}
use Rattle.avr_part.specs.PartFile.{parts_of}
use Rattle.avr_part.specs.declared.fault.PartFault.{PartFault}
use Rattle.avr_part.specs.declared.fault.PartFault.TheVariants.{NoSuchPart}
use Rattle.avr_part.specs.declared.part.Mem.{Mem}
use Rattle.avr_records.specs.declared.kind.Ending.{Ending}
use Rattle.avr_laws.proofs.Held.Files.{held_file}
use Rattle.avr_laws.proofs.Held.Parts.{held_parts}
use Rattle.avr_laws.proofs.Held.Values.{held_values}
use Rattle.avr_laws.proofs.Plans.Fitted.{Image, was_ok, produced_ok}
use Rattle.avr_laws.specs.HeldImage.{HoldsImageAs}
use Rattle.avr_laws.specs.AskedPlan.{GivesText, HasImage, IsTaskOf, AreTasksOf, ArePartsOf, IsAsked}
use Rattle.avr_plan.specs.ImageFile.{image_within, kind_of, image_of_file}
use Rattle.avr_plan.specs.Plan.{Plan}
use Rattle.avr_plan.specs.Lines.{no_part_pieces}
use Rattle.avr_plan.specs.Planning.{planned, checked_parts, or_line, parts_stage, part_stage, tasks_stage, task_stage, op_stage, update_image, image_stage, file_image_stage, checked_image, warning_events}
use Rattle.avr_laws.proofs.Limits.{LARGEST_IMAGE_FILE, LARGEST_PART_FILE}
use Rattle.avr_plan.specs.declared.planned.Task.{Task}
use Rattle.avr_plan.specs.declared.planned.Task.TheVariants.{Write, Verify}

-- ---- lists of openings

-- if the rest is empty, all openings are the first ones
only_first : (opened first rest : List Opening) → opened ≡ first ++ rest → rest ≡ [] → opened ≡ first
only_first opened first rest is none = is ∙ (ap (λ (os : List Opening). first ++ os) none ∙ append-nil first)

-- if the first part is empty, all openings are the rest
only_rest : (opened first rest : List Opening) → opened ≡ first ++ rest → first ≡ [] → opened ≡ rest
only_rest opened first rest is none = is ∙ ap (λ (os : List Opening). os ++ rest) none

-- ---- what reading took

-- a part, tasks and switches as a plan; below, the stages after the part, and after the part file
abbrev plan_of_tasks : Settings → Part → List Task → Stage Plan
plan_of_tasks s part tasks = result_stage (Ok (record { part = part; tasks = tasks; switches = s.switches }))

abbrev after_part : Settings → Part → Stage Plan
after_part s part = tasks_stage s.switches part [] s.updates >>= plan_of_tasks s part

abbrev after_parts : Settings → List Part → Stage Plan
after_parts s all = part_stage s.part all >>= after_part s

module _ (Gives : GivesText) where
  -- If this opening gave a whole text, reading it takes these openings.
  abbrev pub IsReadBy : Opening → List Opening → Type 0
  IsReadBy (Found reading) opened = reading.ended ≡ true → Gives reading.name reading.bytes opened
  IsReadBy (Absent name) opened = Unit {0}

  -- The openings among these output events take these, in order.
  abbrev pub AreRead : List OutputEvent → List Opening → Type 0
  AreRead [] opened = opened ≡ []
  AreRead (Opens opening ∷ output_events) opened =
      (its : List Opening) × (rest : List Opening) × (opened ≡ its ++ rest) × IsReadBy opening its
      × AreRead output_events rest
  AreRead (event ∷ output_events) opened = AreRead output_events opened

  -- the openings of two outputs, one after the other
  read_apart : (first second : List OutputEvent) (opened : List Opening) → AreRead (first ++ second) opened
      → (its : List Opening) × (rest : List Opening) × (opened ≡ its ++ rest) × AreRead first its
      × AreRead second rest
  read_apart [] second opened are = ([], opened, refl, refl, are)
  read_apart (Opens opening ∷ first) second opened are =
      let more = read_apart first second are.1 are.4 in
      let is : opened ≡ (are.0 ++ more.0) ++ more.1 = search (rules, append_assoc, are.2, more.2) in
      (are.0 ++ more.0, more.1, is, (are.0, more.0, refl, are.3, more.3), more.4)
  read_apart (event ∷ first) second opened are = read_apart first second opened are

  -- ---- what a stage made over openings that took these

  record Saw {A : Type 0} (stage : Stage A) (openings opened : List Opening) (a : A) : Type 0 where
    made : (stage openings).stage_outcome ≡ Produced a
    are : AreRead (stage openings).output_events opened

  -- a stage, and then what goes on from it
  saw_first : {A B : Type 0} (stage : Stage A) (go_on : A → Stage B) (openings opened : List Opening) (b : B)
      → Saw (stage >>= go_on) openings opened b
      → (a : A) × (its : List Opening) × (rest : List Opening) × (opened ≡ its ++ rest) × Saw stage openings its a
      × Saw (go_on a) (stage openings).openings_left rest b
  saw_first stage go_on openings opened b saw = grind (arith, read_apart)

  -- a stage that opens nothing
  none_read : {A : Type 0} (r : Result A Bytes) (openings opened : List Opening) (a : A)
      → Saw (result_stage r) openings opened a → (r ≡ Ok a) × (opened ≡ [])
  none_read r openings opened a saw = search rules

  -- ---- a file

  -- a longer text has no result
  module _ {A : Type 0} (name : Bytes) (limit : ℕ) (judge : Bytes → Result A Bytes)
      (limited : (text : Bytes) (a : A) → judge text ≡ Ok a → length text ≤ limit) where
    -- a stage that reads a file
    file_saw : (openings opened : List Opening) (a : A) → Saw (file_stage name limit judge) openings opened a
        → (text : Bytes) × Gives name text opened × (judge text ≡ Ok a)
    file_saw openings opened a saw = search (rules, nat_tests, limited, append-nil)

  -- a part file within the limit
  limited_parts : (name text : Bytes) (parts : List Part) → checked_parts name text ≡ Ok parts
      → length text ≤ LARGEST_PART_FILE
  limited_parts name text parts is = search (rules, nat_tests)

  -- what an image's file is, within the limit
  abbrev IsWithin : Format → Bytes → ℕ → Image × Ending → Type 0
  IsWithin kind text size made =
      (length text ≤ LARGEST_IMAGE_FILE) × (image_of_file (kind_of kind text) text size ≡ Ok made)

  -- an image that is read from a file within the limit
  within : (kind : Format) (text : Bytes) (size : ℕ) (made : Image × Ending)
      → image_within LARGEST_IMAGE_FILE kind text size ≡ Ok made → IsWithin kind text size made
  within kind text size made is = search (rules, nat_tests)

  -- so is one that was checked
  within_checked : (name : Bytes) (kind : Format) (size : ℕ) (text : Bytes) (made : Image × Ending)
      → checked_image name kind size text ≡ Ok made → IsWithin kind text size made
  within_checked name kind size text made is = search (rules, within, was_ok)

  -- ---- the plan

  -- a warning opens no file
  if_warned : (b : Bool) (line : Bytes) (os : List Opening) → AreRead (if b then PrintsLine line ∷ [] else []) os
      → os ≡ []
  if_warned b line os are = search rules

  -- the image of a file
  file_image_saw : (switches : Switches) (name : Bytes) (kind : Format) (size : ℕ) (openings opened : List Opening)
      (image : Image) → Saw (file_image_stage switches name kind size) openings opened image
      → (text : Bytes) × Gives name text opened × (length text ≤ LARGEST_IMAGE_FILE)
      × HoldsImageAs (kind_of kind text) text size image
  file_image_saw switches name kind size openings opened image saw =
      let judge = checked_image name kind size in
      let first = saw_first (file_stage name LARGEST_IMAGE_FILE judge)
      (λ (g : Image × Ending). output_stage (warning_events switches name g.1) >>= λ ok. result_stage (Ok g.0))
      openings opened image saw in
      let file = file_saw name LARGEST_IMAGE_FILE judge (λ text made is. (within_checked name kind size text made is).0)
      openings first.1 first.0 first.4 in
      let after = saw_first (output_stage (warning_events switches name first.0.1)) (λ ok. result_stage (Ok first.0.0))
      (file_stage name LARGEST_IMAGE_FILE judge openings).openings_left first.2 image first.5 in
      let none : first.2 ≡ [] = search (rules, if_warned) in
      let same : first.0.0 ≡ image = cc after.5.made in
      let is = within_checked name kind size file.0 first.0 file.2 in
      let held = held_file (kind_of kind file.0) file.0 size image first.0.1
      (is.1 ∙ ap (λ (i : Image). Ok (i, first.0.1)) same) in search (rules, only_first)

  -- an image, of a file or of values
  image : (switches : Switches) (memory : Mem) (size : ℕ) (name : Bytes) (kind : Format)
      (openings opened : List Opening) (made : Image)
      → Saw (image_stage switches memory size name kind) openings opened made
      → HasImage Gives name kind size made opened
  image switches memory size name format.Immediate openings opened made saw = search (rules, held_values)
  image switches memory size name kind openings opened made saw = search (rules, file_image_saw)

  module _ (switches : Switches) (part : Part) where
    -- the image of an update, and its task
    update_saw : (u : Update) (make : Image → Task) (openings opened : List Opening) (task : Task)
        → Saw (update_image switches part u >>= λ made. result_stage (Ok (make made))) openings opened task
        → (made : Image) × HasImage Gives u.file u.format (size_of u.memory part) made opened × (task ≡ make made)
    update_saw u make openings opened task saw =
        let first = saw_first (update_image switches part u) (λ made. result_stage (Ok (make made))) openings opened
        task saw in
        search (rules, only_first, none_read, image)

    -- the task of an update, by its operation
    operation_saw : (u : Update) (o : Op) (openings opened : List Opening) (task : Task) → u.op ≡ o
        → Saw (op_stage switches part u o) openings opened task → IsTaskOf Gives part u task opened
    operation_saw u op.Write openings opened task is saw = elim (cases_Bool (is_writable u.memory)) [
      | inl may ↦ search (rules, update_saw u (Write u.memory) openings opened task (rw may at saw))
      | inr never ↦ search rules
    ]
    operation_saw u op.Verify openings opened task is saw =
        search (rules, update_saw u (Verify u.memory) openings opened task saw)
    operation_saw u op.Read openings opened task is saw = search rules

    -- the tasks of these updates, after those before
    tasks : (before : List Task) (updates : List Update) (openings opened : List Opening) (made : List Task)
        → Saw (tasks_stage switches part before updates) openings opened made
        → (later : List Task) × (made ≡ before ++ later) × AreTasksOf Gives part updates later opened
    tasks before [] openings opened made saw = search (rules, append-nil)
    tasks before (u ∷ updates) openings opened made saw =
        let first = saw_first (task_stage switches part u)
        (λ task. tasks_stage switches part (before ++ task ∷ []) updates) openings opened made saw in
        let rest = tasks (before ++ first.0 ∷ []) updates (task_stage switches part u openings).openings_left first.2
        made first.5 in search (rules, append_assoc, operation_saw)

    -- the tasks of all updates
    all_tasks : (updates : List Update) (openings opened : List Opening) (made : List Task)
        → Saw (tasks_stage switches part [] updates) openings opened made → AreTasksOf Gives part updates made opened
    all_tasks updates openings opened made saw = search (rules, tasks [] updates openings opened made saw)

  -- a part that was found
  known : (o : Option Part) (part : Part) → ok_or o NoSuchPart ≡ Ok part → o ≡ Some part
  known o other is = search rules

  -- a part that was made
  part_given : (id : Bytes) (r : Result Part PartFault) (part : Part) → or_line (λ fault. no_part_pieces id) r ≡ Ok part
      → r ≡ Ok part
  part_given id r part is = search rules

  -- parts that were read
  parts_given : (name : Bytes) (text : Bytes) (parts : List Part) → checked_parts name text ≡ Ok parts
      → parts_of text ≡ Ok parts
  parts_given name text parts is = search (rules, nat_tests)

  -- the parts of a part file, or none
  parts_saw : (file : Option Bytes) (openings opened : List Opening) (parts : List Part)
      → Saw (parts_stage file) openings opened parts → ArePartsOf Gives file parts opened
  parts_saw file openings opened parts saw = search (rules, file_saw, limited_parts, held_parts, parts_given)

  -- THE LAW
  pub plan_asked : (s : Settings) (openings opened : List Opening) (plan : Plan)
      → AreRead (planned s openings).output_events opened → (planned s openings).stage_outcome ≡ Produced plan
      → IsAsked s Gives opened plan
  plan_asked s openings opened plan are made =
      let one = saw_first (parts_stage s.parts) (after_parts s) openings opened plan
      (record { made = made; are = are }) in
      search (rules, saw_first, only_first, only_rest, none_read, parts_saw, known, part_given, produced_ok, all_tasks)
