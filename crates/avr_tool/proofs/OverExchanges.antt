-- A session that went along exchanges: `OverExchanges` and `EndsOverExchanges` hold of it.
use Rattle.std.proofs.Common.{◌≡◌, ℕ, List, All, length, ap, ◌∙◌, subst, rules}
use Rattle.avr_io.specs.OutputEvents.{OutputEvent}
use Rattle.avr_part.specs.Part.{IsPart}
use Rattle.avr_part.specs.Sound.{IsSoundChip}
use Rattle.avr_plan.specs.Plan.{Plan, IsFitted}
use Rattle.avr_session.specs.Session.{session}
use Rattle.stk_frame.specs.Cut.{frames}
use Rattle.stk_host.specs.Dialog.{Done, played, bytes_sent}
use Rattle.stk_host.specs.Play.{IsBytePrefixOf}
use Rattle.stk_host.specs.Tape.{Tape}
use Rattle.stk_emu.specs.DialogOverExchanges.{state_after, outputs_after, SendsValidBodies}
use Rattle.stk_emu.specs.Device.{device}
use Rattle.stk_emu.specs.Effect.{Memories, memories_of}
use Rattle.stk_emu.specs.Programmer.{Programmer}
use Rattle.stk_emu.specs.Settled.{HasMemories, FitsPart}
use Rattle.stk_emu.specs.Exchange.{Exchange}
use Rattle.avr_tool.specs.OverFaultyLink.{AllArriveRight, OverExchanges, EndsOverExchanges}
use Rattle.avr_tool.specs.Items.{asked_items}
use Rattle.avr_tool.specs.Outcome.{IsDone, IsExpectedRun}
use Rattle.avr_tool.specs.Written.{written_to}
use Rattle.stk_host.specs.ReadSteps.{signature_steps}
use Rattle.avr_tool.proofs.Emulated.{actions_work, all_work, emulated}
use Rattle.avr_tool.proofs.Plans.Fits.{work}
use Rattle.avr_tool.proofs.Real.{ActionsWork, AllWork, Real}
use Rattle.avr_tool.proofs.OverFaultyLink.FrameSizes.{session_asks}
use Rattle.avr_tool.proofs.OverFaultyLink.Outcomes.{session_leaves, session_succeeds}
use Rattle.avr_tool.proofs.OverFaultyLink.WriteOperationOrder.{session_makes}
use Rattle.avr_tool.proofs.Bounds.Weights.{session_weighs}
use Rattle.avr_tool.proofs.Bounds.WireFrames.{prefix_weighs}
use Rattle.avr_tool.proofs.StepData.FirstSteps.{sound_idle, sound_fits}
use Rattle.avr_tool.proofs.Memories.VerifiedRuns.{run_written, shown_succeeds}
use Rattle.avr_tool.proofs.Sure.Good.{good_sure}
use Rattle.avr_tool.proofs.Sure.Sessions.{session_ends}

module _ (plan : Plan) (begun : Programmer) (is_sound : IsSoundChip begun.chip) (part_is : begun.chip.part ≡ plan.part)
    (fitted : All (IsFitted plan.part) plan.tasks) where
  -- the memories before the session
  abbrev before : Memories
  before = memories_of begun.chip

  -- The part of the plan is a part that the proofs know.
  pub its_part : IsPart plan.part
  its_part = subst IsPart part_is is_sound.part

  -- The memories have the sizes of this part.
  pub its_sizes : FitsPart plan.part before
  its_sizes = subst (λ part. FitsPart part before) part_is (sound_fits begun.chip is_sound)

  -- The programmer has these memories.
  pub is_idle : HasMemories plan.part before begun
  is_idle = subst (λ part. HasMemories part before begun) part_is (sound_idle begun is_sound)

  -- The emulated programmer, as the proofs use it.
  abbrev real : Real plan.part
  real = emulated plan.part its_part

  -- The programmer gives its signature.
  signs : AllWork real signature_steps before
  signs = all_work plan.part its_part signature_steps before

  -- The programmer does all steps of the plan.
  works : ActionsWork real (work plan) before
  works = actions_work plan.part its_part (work plan) before

  -- Each body that the session sends fits a frame.
  pub asks : SendsValidBodies (session plan)
  asks = session_asks plan its_part fitted

  -- after the frames of these bytes the programmer is where the exchanges lead it
  module _ (exchanges : List Exchange) (q : Programmer) (bytes : List ℕ)
      (stands : q ≡ (state_after device (length (frames bytes)) (session plan) begun exchanges).programmer) where
    -- the number of frames sent
    abbrev count : ℕ
    count = length (frames bytes)

    -- the memories after the session
    abbrev after : Memories
    after = memories_of q.chip

    -- What holds of the session however it ended.
    pub over_exchanges : (tape : Tape) → IsBytePrefixOf bytes (bytes_sent (played (session plan) 1 tape).events)
        → OverExchanges plan begun q exchanges bytes
    over_exchanges tape prefix =
        let made = session_makes plan its_part fitted before its_sizes begun exchanges is_idle in
        record {
          write_operations = record {
            made = record {
              count = made.count count;
              memories = ap (λ (p : Programmer). memories_of p.chip) stands ∙ made.stands count;
            };
            at_least = made.at_least count;
            at_most = made.at_most count;
            none = λ none. ap made.count none ∙ made.none;
          };
          four = search (rules, prefix_weighs, asks, session_weighs);
        }

    module _ (output_events : List OutputEvent) (status : ℕ)
        (comes : (state_after device (length (frames bytes)) (session plan) begun exchanges).dialog ≡ Done status)
        (output_events_are : output_events
        ≡ outputs_after device (length (frames bytes)) (session plan) begun exchanges) where
      -- The expected run, in terms of what the session left.
      pub has_expected : IsExpectedRun plan before
          (memories_of (state_after device count (session plan) begun exchanges).programmer.chip)
          (outputs_after device count (session plan) begun exchanges) status
          → IsExpectedRun plan before after output_events status
      has_expected c = search rules

      -- With status 0 all was written, and all comparisons agreed.
      is_done : status ≡ 0 → IsDone plan before after
      is_done zero = rw stands ((session_leaves plan its_part real before its_sizes fitted signs works begun exchanges
          is_idle).after count status comes zero)

      -- What also holds of a session with a status.
      pub ends_over_exchanges : EndsOverExchanges plan before after exchanges output_events status
      ends_over_exchanges = record {
        success = λ zero. has_expected (session_succeeds plan its_part real before its_sizes fitted signs works begun
            exchanges is_idle count status comes zero);
        done = is_done;
        images = λ zero verified. run_written plan before after fitted verified (is_done zero) its_part its_sizes;
        further = λ zero verified s mems kept.
            shown_succeeds plan.part s (λ mem. written_to plan.part mem (asked_items plan)) after mems kept
            (run_written plan before after fitted verified (is_done zero) its_part its_sizes).images;
        good = λ right. has_expected (session_ends plan its_part fitted AllArriveRight good_sure before begun exchanges
            its_sizes is_idle right count status comes);
      }
