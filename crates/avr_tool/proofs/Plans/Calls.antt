-- Each action is one call of the host and the output about its outcome. All but the opening are steps and a check of
-- their data.
use Rattle.std.proofs.Common.{◌≡◌, ℕ, List, [], length, refl, sym, ap, ◌∙◌, arith, Ok, Err, Result, rules}
use Rattle.std.proofs.lemmas.Bool.{cond-true}
use Rattle.std.proofs.lemmas.List.{append-nil}
use Rattle.std.specs.Prelude.{⊤, ◌≤◌}
use Rattle.avr_plan.specs.declared.settings.Switches.{Switches}
use Rattle.avr_io.specs.OutputEvents.{OutputEvent}
use Rattle.avr_part.specs.declared.part.Mem.{Mem}
use Rattle.avr_part.specs.Mem.{is_writable}
use Rattle.avr_part.specs.Part.{Part, IsPart, size_of}
use Rattle.avr_session.specs.Actions.{Action, OpenSession, EraseChip, WriteImage, CompareImage, SaveMemory, SkipAction}
use Rattle.avr_session.specs.PlanSteps.{action_steps}
use Rattle.avr_session.specs.Session.{reported, fault_line_or, opening_output, erased_output, written_output, verified_output, read_output, skipped_output, action_dialog}
use Rattle.stk_host.specs.declared.fault.HostFault.{HostFault}
use Rattle.stk_host.specs.declared.fault.HostFault.TheVariants.{ReadOnly}
use Rattle.stk_host.specs.Dialog.{Dialog, Done}
use Rattle.stk_host.specs.Operations.{opening, erasing, writing, reading, verifying, no_result, comparison, operation}
use Rattle.stk_host.specs.ReadSteps.{read_steps}
use Rattle.stk_host.specs.Steps.{play}
use Rattle.stk_host.specs.WriteSteps.{write_steps}
use Rattle.stk_emu.specs.Effect.{Memories, Erase, Write, effects, memory_in}
use Rattle.stk_emu.specs.StepData.{data_of_steps}
use Rattle.stk_emu.specs.WriteOperations.{steps_of_items, AreSteps}
use Rattle.avr_tool.proofs.Leads.{memories_after_steps}
use Rattle.stk_emu.specs.Settled.{FitsPart}
use Rattle.avr_tool.proofs.OverFaultyLink.FirstSteps.{quiet_stays, read_quiet}
use Rattle.avr_tool.proofs.StepData.WholeMemories.{read_gives}
use Rattle.avr_tool.proofs.WriteOperations.Items.{changed_all, item_does, item_are_steps, read_are_steps}
use Rattle.avr_tool.proofs.Plans.Fits.{FitsAction}
use Rattle.avr_tool.specs.ExpectedRun.{Expected, reported_expected, action_expected}
use Rattle.avr_tool.specs.Items.{action_items}

-- The type of what the call of an action returns.
abbrev pub Outcome : Action → Type 0
Outcome OpenSession = List ℕ
Outcome (SaveMemory mem format file) = List ℕ
Outcome action = ⊤

module _ (part : Part) where
  -- What it returns over a perfect link.
  abbrev pub outcome_of : (action : Action) → Memories → Result (Outcome action) HostFault
  outcome_of OpenSession m = Ok part.signature
  outcome_of EraseChip m = Ok tt
  outcome_of (WriteImage mem image) m = Ok tt
  outcome_of (CompareImage mem image) m = comparison mem image (memory_in part mem m)
  outcome_of (SaveMemory mem format file) m = Ok (memory_in part mem m)
  outcome_of (SkipAction what) m = Ok tt

  module _ (s : Switches) where
    -- The call.
    abbrev pub call_of : (action : Action) → Dialog ⊥ (Result (Outcome action) HostFault)
    call_of OpenSession = opening part.signature s.force
    call_of EraseChip = erasing
    call_of (WriteImage mem image) = writing part mem image
    call_of (CompareImage mem image) = verifying part mem image
    call_of (SaveMemory mem format file) = reading part mem
    call_of (SkipAction what) = Done (Ok tt)

    -- The output about what it returned.
    abbrev pub outcome_output : (action : Action) → Result (Outcome action) HostFault → List OutputEvent
    outcome_output OpenSession = opening_output s.quiet part
    outcome_output EraseChip = erased_output s.quiet part
    outcome_output (WriteImage mem image) = written_output s.quiet part mem image
    outcome_output (CompareImage mem image) = verified_output s.quiet part mem image
    outcome_output (SaveMemory mem format file) = fault_line_or part (read_output s mem format file)
    outcome_output (SkipAction what) = fault_line_or part (λ _. skipped_output s.quiet what)

    -- Call and output are the dialog of the action.
    pub dialog_is : (action : Action) → reported (call_of action) (outcome_output action) ≡ action_dialog part s action
    dialog_is OpenSession = refl
    dialog_is action = search rules

    -- The expected run of an action, by its outcome.
    abbrev pub outcome_expected : Action → Memories → Expected
    outcome_expected action m =
        reported_expected (outcome_output action) (outcome_of action m) (effects part (action_items action) m)

    -- That is the expected run of the action.
    pub expected_is : (action : Action) (m : Memories) → action_expected part s action m ≡ outcome_expected action m
    expected_is OpenSession m = refl
    expected_is action m = search rules

    -- the check of a call's data, and what its steps give and leave
    pub record IsOperation (action : Action) (m : Memories) : Type 0 where
      pub judge : List ℕ → Result (Outcome action) HostFault
      pub call_is : operation (action_steps part action) judge ≡ call_of action
      pub are : AreSteps part (action_steps part action)
      pub some : (count : ℕ) → memories_after_steps part count (action_steps part action) m
          ≡ memories_after_steps part count (steps_of_items part (action_items action)) m
      pub all : memories_after_steps part (length (action_steps part action)) (action_steps part action) m
          ≡ effects part (action_items action) m
      pub gives : judge (data_of_steps part (action_steps part action) m) ≡ outcome_of action m

    module _ (sound : IsPart part) (m : Memories) (f : FitsPart part m) where
      -- Reading changes no memory.
      quiet : (mem : Mem) (count : ℕ) → memories_after_steps part count (read_steps part mem) m ≡ m
      quiet mem count = quiet_stays part count (read_steps part mem) m (read_quiet part mem)

      -- Each action but the opening is an operation.
      pub is_operation : (action : Action) → FitsAction part action → IsOperation action m
      unfolding operation play
      is_operation OpenSession fits = absurd fits
      is_operation EraseChip fits =
          let are = item_are_steps part sound Erase tt in
          record { judge = no_result; call_is = refl; are = are; some = λ count. refl; all = refl; gives = refl }
      is_operation (WriteImage mem image) fits =
          let steps = write_steps part mem image in
          let size : length image ≤ size_of mem part = let same = fits.0 in omega (arith, same) in
          record {
            judge = no_result;
            call_is = sym (cond-true (is_writable mem) (operation steps no_result) (Done (Err (ReadOnly mem))) fits.1);
            are = item_are_steps part sound (Write mem image) size;
            some = λ count. ap (λ all. memories_after_steps part count all m) (sym (append-nil steps));
            all = changed_all part steps m ∙ item_does part sound (Write mem image) m size f;
            gives = refl;
          }
      is_operation (CompareImage mem image) fits = record {
        judge = comparison mem image;
        call_is = refl;
        are = read_are_steps part sound mem;
        some = λ count. quiet mem count ∙ sym (quiet_stays part count [] m tt);
        all = quiet mem (length (read_steps part mem));
        gives = ap (comparison mem image) (read_gives part sound m f mem);
      }
      is_operation (SaveMemory mem format file) fits = record {
        judge = Ok;
        call_is = refl;
        are = read_are_steps part sound mem;
        some = λ count. quiet mem count ∙ sym (quiet_stays part count [] m tt);
        all = quiet mem (length (read_steps part mem));
        gives = ap (λ bytes. Ok bytes) (read_gives part sound m f mem);
      }
      is_operation (SkipAction what) fits =
          record { judge = no_result; call_is = refl; are = tt; some = λ count. refl; all = refl; gives = refl }
