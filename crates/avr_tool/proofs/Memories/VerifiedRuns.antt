-- What a verified run leaves in each memory, and that a further comparison agrees.
use Rattle.std.proofs.Common.{◌≡◌, refl, sym, ap, ◌∙◌, subst, List, [], ◌∷◌, map, Bool, false, rules}
use Rattle.std.proofs.lemmas.Bool.{true≢false}
use Rattle.std.proofs.lemmas.List.{get_or-replicate}
use Rattle.std.specs.List.{list_any}
use Rattle.std.specs.Prelude.{not, All}
use Rattle.avr_plan.specs.declared.settings.Switches.{Switches}
use Rattle.avr_part.specs.Memory.{blank}
use Rattle.avr_part.specs.Part.{Part, IsPart}
use Rattle.avr_part.specs.declared.part.Mem.{Mem}
use Rattle.avr_part.specs.declared.part.Mem.TheVariants.{Flash, Eeprom, Lfuse, Hfuse, Efuse, Lock}
use Rattle.avr_plan.specs.Plan.{Plan, IsFitted}
use Rattle.avr_plan.specs.declared.planned.Task.TheVariants as task
use Rattle.avr_session.specs.Actions.{writes_flash, tasks_actions}
use Rattle.stk_emu.specs.Effect.{Image, Memories, effects, memory_in}
use Rattle.stk_emu.specs.StepData.{HoldsImage}
use Rattle.stk_emu.specs.Settled.{FitsPart}
use Rattle.avr_tool.proofs.WriteOperations.Pages.{effects_on}
use Rattle.avr_tool.specs.ComparisonsAgree.{EachComparisonAgrees}
use Rattle.avr_tool.specs.ExpectedRun.{expected_run}
use Rattle.avr_tool.specs.Items.{items, asked_items, has_erase}
use Rattle.avr_tool.specs.Outcome.{IsDone}
use Rattle.avr_tool.specs.Written.{IsWritten, written_to}
use Rattle.avr_tool.proofs.Plans.Fits.{tasks_fit}
use Rattle.avr_tool.proofs.Plans.Items.{writes, erase_if, items_are, tasks_agree, items_by_tasks}
use Rattle.avr_tool.proofs.Memories.ExpectedAgrees.{expected_status}
use Rattle.avr_tool.proofs.Memories.LaidImages.{Left, tasks_left}
use Rattle.avr_tool.proofs.OverFaultyLink.FirstSteps.{effects_sizes}

-- ---- after the erase

-- ---- the whole run

module _ (plan : Plan) (before after : Memories) (all : All (IsFitted plan.part) plan.tasks)
    (verified : plan.switches.no_verify ≡ false) (run : IsDone plan before after) where
  -- Whether the plan erases.
  abbrev due : Bool
  due = has_erase (items plan)

  -- The memories after the erase, if there is one.
  abbrev erased : Memories
  erased = effects plan.part (erase_if due) before

  -- The writes lead from there to the memories after the run.
  is_after : effects plan.part (writes plan) erased ≡ after
  is_after = search (rules, items_are, effects_on, erase_if, writes)

  -- Each memory is left with the images written to it.
  memory_left : (mem : Mem) → Left plan.part mem (written_to plan.part mem (items plan)) erased after
  memory_left mem =
      subst (λ image. Left plan.part mem image erased after)
      (sym (ap (written_to plan.part mem) (items_are plan) ∙ (search rules)))
      (subst (λ new. Left plan.part mem (written_to plan.part mem (writes plan)) erased new) is_after
      (search (rules, tasks_left, tasks_fit, tasks_agree)))

  -- So `IsWritten` holds for the items of the plan.
  items_written : IsPart plan.part → FitsPart plan.part before → IsWritten plan.part (items plan) before after
  items_written sound fits =
      let part = plan.part in
      let sizes : FitsPart part after = subst (FitsPart part) (sym run.memories)
      (effects_sizes part sound (items plan) before fits) in
      record {
        flash_size = sizes.flash;
        eeprom_size = sizes.eeprom;
        images = λ mem. (memory_left mem).shows;
        rest_of_flash = λ addr l none. (memory_left Flash).rest addr none ∙ (search (rules, get_or-replicate));
        rest_of_eeprom = λ addr l none. (memory_left Eeprom).rest addr none ∙ (search (rules, get_or-replicate));
        lfuse = λ none. (memory_left Lfuse).rest 0 none ∙ (search rules);
        hfuse = λ none. (memory_left Hfuse).rest 0 none ∙ (search rules);
        efuse = λ none. (memory_left Efuse).rest 0 none ∙ (search rules);
        lock = λ none. (memory_left Lock).rest 0 none ∙ (search rules);
      }

  -- So it holds for the asked items.
  pub run_written : IsPart plan.part → FitsPart plan.part before → IsWritten plan.part (asked_items plan) before after
  run_written sound fits = search (rules, items_by_tasks, items_written)

-- a memory that holds an image agrees with it once more
shown_agree : (part : Part) (s : Switches) (image_of : Mem → Image) (m : Memories) (mems : List Mem)
    → ((mem : Mem) → HoldsImage (image_of mem) (memory_in part mem m))
    → EachComparisonAgrees part (tasks_actions s (map (λ mem. task.Verify mem (image_of mem)) mems)) m
shown_agree part s image_of m [] shown = tt
shown_agree part s image_of m (mem ∷ mems) shown = (shown mem, shown_agree part s image_of m mems shown)

-- comparisons alone erase nothing
none_writes : (image_of : Mem → Image) (mems : List Mem)
    → list_any writes_flash (map (λ mem. task.Verify mem (image_of mem)) mems) ≡ false
none_writes image_of [] = refl
none_writes image_of (mem ∷ mems) = none_writes image_of mems

-- so a run that only compares images that the memories hold has status 0
pub shown_succeeds : (part : Part) (s : Switches) (image_of : Mem → Image) (m : Memories) (mems : List Mem)
    → s.erase ≡ false → ((mem : Mem) → HoldsImage (image_of mem) (memory_in part mem m))
    → (expected_run (record { part = part; tasks = map (λ mem. task.Verify mem (image_of mem)) mems; switches = s })
    m).status ≡ 0
shown_succeeds part s image_of m mems kept shown =
    let tasks = map (λ mem. task.Verify mem (image_of mem)) mems in
    let plan : Plan = record { part = part; tasks = tasks; switches = s } in
    (expected_status plan m).1 (search (rules, true≢false, none_writes, shown_agree))
