-- A plan that was made fits its part.
use Rattle.std.proofs.Common.{◌≡◌, ◌∙◌, sym, ap, subst, ℕ, ◌+◌, ◌≤◌, ◌⊎◌, inl, inr, All, List, [], ◌∷◌, ◌++◌, length, map, Option, Result, Ok, rules}
use Rattle.std.specs.List.{enumerate_from}
use Rattle.std.proofs.lemmas.Bool.{cases_Bool}
use Rattle.std.proofs.lemmas.List.{length-replicate}
use Rattle.std.proofs.lemmas.List.Elements.{All-append}
use Rattle.avr_plan.specs.declared.settings.Settings.{Settings}
use Rattle.avr_plan.specs.declared.settings.Switches.{Switches}
use Rattle.avr_plan.specs.declared.update.Format.{Format}
use Rattle.avr_plan.specs.declared.update.Op.{Op}
use Rattle.avr_plan.specs.declared.update.Op.TheVariants as op
use Rattle.avr_plan.specs.declared.update.Update.{Update}
use Rattle.avr_image.specs.declared.fault.ImageFault.{ImageFault}
use Rattle.avr_image.specs.Values.{all_ok, onto_ok, fitting, byte_of_value, value_of}
use Rattle.avr_image.proofs.Lemmas.{laid_size, from_zero_is_a_span}
use Rattle.avr_io.specs.Record.{Bytes}
use Rattle.avr_io.specs.Stage.{Stage, Produced, ◌>>=◌, result_stage, open_stage, file_stage, content_stage, output_stage}
use Rattle.avr_io.specs.declared.record.Opening.{Opening}
use Rattle.avr_part.specs.Mem.{is_writable}
use Rattle.avr_part.specs.Part.{Part, size_of}
use Rattle.avr_records.specs.declared.kind.Ending.{Ending}
use Rattle.avr_plan.proofs.Files.Sizes.{image-size}
use Rattle.avr_plan.proofs.Stages.Tasks.{all_one}
use Rattle.avr_plan.specs.ImageFile.{ImageOrBadFile, image_within}
use Rattle.avr_plan.specs.Plan.{Plan, IsFitted}
use Rattle.avr_plan.specs.Lines.{bad_file_pieces}
use Rattle.avr_plan.specs.Planning.{planned, tasks_stage, task_stage, op_stage, write_stage, update_image, file_image_stage, checked_image, or_line, warning_events}
use Rattle.avr_laws.proofs.Limits.{LARGEST_IMAGE_FILE}
use Rattle.avr_plan.specs.declared.planned.Task.{Task}
use Rattle.avr_plan.specs.declared.planned.Task.TheVariants.{Write, Verify, Read}

abbrev pub Image : Type 0
Image = List (Option ℕ)

-- ---- what a stage made, an earlier one made on the way

-- the first stage produced a value, and what goes on from it produced this one
abbrev Earlier : {A B : Type 0} → Stage A → (A → Stage B) → List Opening → B → Type 0
Earlier {A} stage go_on openings b =
    (a : A) × (((stage openings).stage_outcome ≡ Produced a) × ((go_on a (stage openings).openings_left).stage_outcome
    ≡ Produced b))

-- so it is for a stage that produced a value
earlier : {A B : Type 0} (stage : Stage A) (go_on : A → Stage B) (openings : List Opening) (b : B)
    → ((stage >>= go_on) openings).stage_outcome ≡ Produced b → Earlier stage go_on openings b
earlier stage go_on openings b made = search rules

-- a stage that produced a value had this result
pub produced_ok : {A : Type 0} (result : Result A Bytes) (openings : List Opening) (a : A)
    → (result_stage result openings).stage_outcome ≡ Produced a → result ≡ Ok a
produced_ok result openings b made = search rules

-- ---- the image of a file

-- what a file's stage produced comes from some text
content_passes : {A : Type 0} (name : Bytes) (limit : ℕ) (judge : Bytes → Result A Bytes) (opening : Opening)
    (openings : List Opening) (a : A) → (content_stage name limit judge opening openings).stage_outcome ≡ Produced a
    → (bytes : Bytes) × (judge bytes ≡ Ok a)
content_passes name limit judge opening openings a is = search rules

-- a result that became no line was OK
pub was_ok : (file : Bytes) (r : ImageOrBadFile) (p : Image × Ending) → or_line (bad_file_pieces file) r ≡ Ok p
    → r ≡ Ok p
was_ok file r p is = search rules

-- the image of a file has the memory's size
file_size : (switches : Switches) (file : Bytes) (kind : Format) (size : ℕ) (openings : List Opening) (image : Image)
    → (file_image_stage switches file kind size openings).stage_outcome ≡ Produced image → length image ≡ size
file_size switches file kind size openings image is =
    let judge = checked_image file kind size in
    let stage = file_stage file LARGEST_IMAGE_FILE judge in
    let first = earlier stage (λ (g : Image × Ending). output_stage (warning_events switches file g.1)
    >>= λ ok. result_stage (Ok g.0)) openings image is in
    let opened = earlier (open_stage file) (content_stage file LARGEST_IMAGE_FILE judge) openings first.0 first.1.0 in
    let read = content_passes file LARGEST_IMAGE_FILE judge opened.0 _ first.0 opened.1.1 in
    let whole = was_ok file (image_within LARGEST_IMAGE_FILE kind read.0 size) first.0 read.1 in
    let same : first.0.0 ≡ image = cc in
    ap length (sym same) ∙ image-size LARGEST_IMAGE_FILE kind read.0 size first.0.0 first.0.1 (sym whole)

-- ---- the image of values

-- a value in front of others is OK if both are
both_ok : (r : Result ℕ ImageFault) (rs : Result (List ℕ) ImageFault) (bytes : List ℕ) → onto_ok r rs ≡ Ok bytes
    → (byte : ℕ) × (more : List ℕ) × ((r ≡ Ok byte) × ((rs ≡ Ok more) × (bytes ≡ byte ∷ more)))
both_ok r rs bytes is = search rules

-- values end inside the memory
values_inside : (size k : ℕ) (texts : List (List ℕ)) (bytes : List ℕ)
    → all_ok (map (byte_of_value size) (enumerate_from k texts)) ≡ Ok bytes → (bytes ≡ []) ⊎ (k + length bytes ≤ size)
values_inside size k [] bytes is = inl cc
values_inside size k (text ∷ texts) bytes is =
    let rest = all_ok (map (byte_of_value size) (enumerate_from (k + 1) texts)) in
    let one = both_ok (fitting size k (value_of text)) rest bytes is in
    let more = values_inside size (k + 1) texts one.1 one.2.1.0 in search rules

-- ---- the tasks

module _ (switches : Switches) (part : Part) where
  -- an update's image has its memory's size
  image_fits : (u : Update) (make : Image → Task) (openings : List Opening) (task : Task)
      → ((update_image switches part u >>= λ image. result_stage (Ok (make image))) openings).stage_outcome
      ≡ Produced task → (image : Image) × ((length image ≡ size_of u.memory part) × (task ≡ make image))
  image_fits u make openings task is =
      let first = earlier (update_image switches part u) (λ image. result_stage (Ok (make image))) openings task
      is in search (rules, from_zero_is_a_span, laid_size, length-replicate, values_inside, file_size)

  -- a write fits the part
  write_fits : (u : Update) (openings : List Opening) (task : Task)
      → (write_stage switches part u openings).stage_outcome ≡ Produced task → IsFitted part task
  write_fits u openings task is = elim (cases_Bool (is_writable u.memory)) [
    | inl may ↦
        let made = image_fits u (Write u.memory) openings task (rw may at is) in
        subst (IsFitted part) (sym made.1.1) (made.1.0, may)
    | inr never ↦ cc (rw never at is)
  ]

  -- so does each task
  update_fits : (u : Update) (o : Op) (openings : List Opening) (task : Task)
      → (op_stage switches part u o openings).stage_outcome ≡ Produced task → IsFitted part task
  update_fits u op.Write openings task is = write_fits u openings task is
  update_fits u op.Verify openings task is = search (rules, image_fits u (Verify u.memory) openings task is)
  update_fits u op.Read openings task is = search rules

  -- so do all
  tasks_fit : (before : List Task) (updates : List Update) (openings : List Opening) (made : List Task)
      → All (IsFitted part) before → (tasks_stage switches part before updates openings).stage_outcome ≡ Produced made
      → All (IsFitted part) made
  tasks_fit before [] openings made fitted is = let same : before ≡ made = cc in subst (All (IsFitted part)) same fitted
  tasks_fit before (u ∷ updates) openings made fitted is =
      let first = earlier (task_stage switches part u) (λ task. tasks_stage switches part (before ++ task ∷ []) updates)
      openings made is in
      search (
        rules,
        tasks_fit (before ++ first.0 ∷ []) updates
            (task_stage switches part u openings).openings_left made (All-append (IsFitted part) before (first.0
            ∷ []) fitted (all_one (IsFitted part) first.0 (update_fits u u.op openings first.0 first.1.0))) first.1.1,
      )

-- so all tasks of a plan fit its part
pub plan_fitted : (s : Settings) (openings : List Opening) (plan : Plan)
    → (planned s openings).stage_outcome ≡ Produced plan → All (IsFitted plan.part) plan.tasks
plan_fitted s openings plan is = search (rules, tasks_fit, earlier)
