-- What a plan writes, compares and saves, by its actions and by its tasks.
use Rattle.std.proofs.Common.{◌≡◌, ◌∙◌, ap, ap₂, sym, refl, Bool, false, List, [], ◌∷◌, ◌++◌, rules}
use Rattle.std.specs.Prelude.{◌&&◌, not, if◌then◌else◌}
use Rattle.avr_plan.specs.declared.settings.Switches.{Switches}
use Rattle.avr_io.specs.declared.record.Writing.{Writing}
use Rattle.avr_part.specs.Part.{Part}
use Rattle.avr_part.specs.declared.part.Mem.{Mem}
use Rattle.avr_plan.specs.declared.planned.Task.{Task}
use Rattle.avr_plan.specs.declared.planned.Task.TheVariants as task
use Rattle.avr_session.specs.Actions.{Action, CompareImage, EraseChip, SaveMemory, SkipAction, SkippedErase, SkippedWrite, WriteImage, actions, is_erase_due, tasks_actions}
use Rattle.avr_session.specs.FileText.{file_text}
use Rattle.avr_session.specs.Session.{bytes_to_save}
use Rattle.avr_io.specs.Record.{Bytes, Record}
use Rattle.avr_plan.specs.Plan.{Plan}
use Rattle.stk_emu.specs.Effect.{Erase, Image, Item, Memories, Write, effect, effects, memory_in}
use Rattle.stk_emu.specs.StepData.{HoldsImage}
use Rattle.avr_tool.proofs.Plans.Items.{items_by_tasks}
use Rattle.avr_tool.specs.ComparisonsAgree.{ComparisonsAgree, EachComparisonAgrees}
use Rattle.avr_tool.specs.Items.{action_items, asked_items}
use Rattle.avr_tool.specs.Outcome.{IsDone}
use Rattle.avr_laws.proofs.Outcomes.SavedTexts.{text_is_saved}
use Rattle.avr_laws.specs.Kept.{Keeps, PlanAgrees, TasksAgree, after_task, before_tasks, saved_files, tasks_files}

-- ---- the files that are saved, by the actions

-- the file that an action saves
abbrev pub action_files : Part → Switches → Action → Memories → List Writing
action_files part s (SaveMemory mem format file) m =
    record { name = file; bytes = file_text format (bytes_to_save mem s.all (memory_in part mem m)) } ∷ []
action_files part s action m = []

-- the files that actions save, one after the other
abbrev pub actions_files : Part → Switches → List Action → Memories → List Writing
actions_files part s [] m = []
actions_files part s (action ∷ actions) m =
    action_files part s action m ++ actions_files part s actions (effects part (action_items action) m)

-- ---- the actions of a write, by the switches `-n` and `-V`, and those behind an erase

module _ (part : Part) (m : Memories) (later : List Action) where
  module _ (mem : Mem) (image : Image) where
    -- the actions of a write, by the switches `-n` and `-V`
    abbrev write_actions : Bool → Bool → List Action
    write_actions dry off = if dry then SkipAction (SkippedWrite mem image) ∷ []
        else WriteImage mem image ∷ (if off then [] else CompareImage mem image ∷ [])

    -- the memories after a write
    abbrev after_write : Bool → Memories
    after_write dry = if dry then m else effect part (Write mem image) m

    -- unless the write is dry or unverified, the image is there
    abbrev IsThere : Bool → Bool → Type 0
    IsThere dry off = dry ≡ false → off ≡ false → HoldsImage image (memory_in part mem (after_write dry))

    -- comparisons that agree show that the image is there
    image_there : (dry off : Bool) → EachComparisonAgrees part (write_actions dry off ++ later) m
        → IsThere dry off × EachComparisonAgrees part later (after_write dry)
    image_there dry off agree = search rules

    -- and conversely
    agree_with_write : (dry off : Bool) → IsThere dry off → EachComparisonAgrees part later (after_write dry)
        → EachComparisonAgrees part (write_actions dry off ++ later) m
    agree_with_write dry off is rest = search rules

    -- a write saves no file
    none_saved : (s : Switches) (dry off : Bool)
        → actions_files part s (write_actions dry off ++ later) m ≡ actions_files part s later (after_write dry)
    none_saved s dry off = search rules

  -- the actions of an erase, by the switches `-n` and `-e`
  abbrev erase_list : Bool → Bool → Bool → List Action
  erase_list dry asked due =
      if dry then (if asked then SkipAction SkippedErase ∷ [] else []) else if due then EraseChip ∷ [] else []

  -- the memories after an erase
  abbrev after_erase : Bool → Bool → Memories
  after_erase dry due = if not dry && due then effect part Erase m else m

  -- comparisons after an erase
  agree_after_erase : (dry asked due : Bool) → EachComparisonAgrees part (erase_list dry asked due ++ later) m
      → EachComparisonAgrees part later (after_erase dry due)
  agree_after_erase dry asked due agree = search rules

  -- and conversely
  agree_with_erase : (dry asked due : Bool) → EachComparisonAgrees part later (after_erase dry due)
      → EachComparisonAgrees part (erase_list dry asked due ++ later) m
  agree_with_erase dry asked due agree = search rules

  -- an erase saves no file
  no_file : (s : Switches) (dry asked due : Bool)
      → actions_files part s (erase_list dry asked due ++ later) m ≡ actions_files part s later (after_erase dry due)
  no_file s dry asked due = search rules

-- ---- by the tasks

module _ (part : Part) (s : Switches) where
  -- comparisons that agree for the actions do so for the tasks
  agree_by_tasks : (tasks : List Task) (m : Memories) → EachComparisonAgrees part (tasks_actions s tasks) m
      → TasksAgree part s tasks m
  agree_by_tasks [] m agree = tt
  agree_by_tasks (task.Write mem image ∷ tasks) m agree =
      let both = image_there part m (tasks_actions s tasks) mem image s.dry s.no_verify agree in
      (both.0, agree_by_tasks tasks (after_task part s (task.Write mem image) m) both.1)
  agree_by_tasks (task.Verify mem image ∷ tasks) m agree = (agree.0, agree_by_tasks tasks m agree.1)
  agree_by_tasks (task.Read mem format file ∷ tasks) m agree = agree_by_tasks tasks m agree.1

  -- and conversely
  agree_by_actions : (tasks : List Task) (m : Memories) → TasksAgree part s tasks m
      → EachComparisonAgrees part (tasks_actions s tasks) m
  agree_by_actions [] m agree = tt
  agree_by_actions (task.Write mem image ∷ tasks) m agree =
      agree_with_write part m (tasks_actions s tasks) mem image s.dry s.no_verify agree.0
      (agree_by_actions tasks (after_task part s (task.Write mem image) m) agree.1)
  agree_by_actions (task.Verify mem image ∷ tasks) m agree = (agree.0, agree_by_actions tasks m agree.1)
  agree_by_actions (task.Read mem format file ∷ tasks) m agree = (tt, agree_by_actions tasks m agree)

  -- both save the same files
  files_of_tasks : (tasks : List Task) (m : Memories)
      → actions_files part s (tasks_actions s tasks) m ≡ tasks_files part s tasks m
  files_of_tasks [] m = refl
  files_of_tasks (task.Write mem image ∷ tasks) m = search (
    rules,
    none_saved,
    files_of_tasks tasks (after_task part s
        (task.Write mem image) m),
  )
  files_of_tasks (task.Verify mem image ∷ tasks) m = files_of_tasks tasks m
  files_of_tasks (task.Read mem format file ∷ tasks) m =
      ap₂ (λ (text : Bytes) (files : List Writing). record { name = file; bytes = text } ∷ files)
      (text_is_saved format (bytes_to_save mem s.all (memory_in part mem m))) (files_of_tasks tasks m)

module _ (plan : Plan) (m : Memories) where
  abbrev these : List Action
  these = tasks_actions plan.switches plan.tasks

  abbrev due : Bool
  due = is_erase_due plan.switches plan.tasks

  -- so it is for a plan
  pub tasks_agree : ComparisonsAgree plan m → PlanAgrees plan m
  tasks_agree agree = search (rules, agree_by_tasks, agree_after_erase)

  -- and conversely
  pub actions_agree : PlanAgrees plan m → ComparisonsAgree plan m
  actions_agree agree = (
    tt,
    agree_with_erase plan.part m these plan.switches.dry plan.switches.erase due
        (agree_by_actions plan.part plan.switches plan.tasks (before_tasks plan m) agree),
  )

  -- and its files
  pub files_by_tasks : actions_files plan.part plan.switches (actions plan) m ≡ saved_files plan m
  files_by_tasks = search (rules, no_file, files_of_tasks)

-- ---- what was done

-- what was done is what the tasks ask for
pub made_by_tasks : (plan : Plan) (before after : Memories) → IsDone plan before after
    → after ≡ effects plan.part (asked_items plan) before
made_by_tasks plan before after done = search (rules, items_by_tasks)

-- and conversely
pub is_done : (plan : Plan) (before after : Memories) (old now : Record) → Keeps plan before after old now
    → IsDone plan before after
is_done plan before after old now keeps = record {
  memories = keeps.made ∙ ap (λ (items : List Item). effects plan.part items before) (sym (items_by_tasks plan));
  agrees = actions_agree plan before keeps.agrees;
}
