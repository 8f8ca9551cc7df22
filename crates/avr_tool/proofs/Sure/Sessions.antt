-- A session over exchanges that are sure goes as its expected run.
use Rattle.std.proofs.Common.{◌≡◌, ℕ, List, All, inl, inr}
use Rattle.avr_part.specs.Part.{IsPart}
use Rattle.avr_plan.specs.Plan.{Plan, IsFitted}
use Rattle.avr_session.specs.Session.{session}
use Rattle.stk_host.specs.Dialog.{Done}
use Rattle.stk_emu.specs.Exchange.{Exchange}
use Rattle.stk_emu.specs.DialogOverExchanges.{state_after, outputs_after}
use Rattle.stk_emu.specs.Device.{device}
use Rattle.stk_emu.specs.Programmer.{Programmer}
use Rattle.stk_emu.specs.Effect.{Memories, memories_of}
use Rattle.stk_emu.specs.Settled.{HasMemories, FitsPart}
use Rattle.stk_host.specs.ReadSteps.{signature_steps}
use Rattle.avr_tool.proofs.Emulated.{actions_work, all_work, emulated}
use Rattle.avr_tool.proofs.Plans.Fits.{work}
use Rattle.avr_tool.proofs.OverFaultyLink.Outcomes.{session_passes}
use Rattle.avr_tool.proofs.OverFaultyLink.Sessions.{at_last}
use Rattle.avr_tool.proofs.Hosts.Outputs.{Anything, at_moment}
use Rattle.avr_tool.proofs.Sure.Calls.{AtSure, no_failure, opens_sure}
use Rattle.avr_tool.proofs.Sure.Exchanges.{IsSure}
use Rattle.avr_tool.specs.Outcome.{IsExpectedRun}

module _ (plan : Plan) (sound : IsPart plan.part) (fitted : All (IsFitted plan.part) plan.tasks)
    (Such : List Exchange → Type 0) (sure : IsSure Such) where
  -- With a status the session is its expected run.
  pub session_ends : (m : Memories) (p : Programmer) (exchanges : List Exchange) → FitsPart plan.part m
      → HasMemories plan.part m p → Such exchanges → (k : ℕ) (status : ℕ)
      → (state_after device k (session plan) p exchanges).dialog ≡ Done status
      → IsExpectedRun plan m (memories_of (state_after device k (session plan) p exchanges).programmer.chip)
      (outputs_after device k (session plan) p exchanges) status
  session_ends m p exchanges sizes idle such k status e =
      elim ((at_moment device Anything (at_last plan (emulated plan.part sound) m ⊥) k
      (session_passes plan sound (emulated plan.part sound) m sizes fitted (all_work plan.part sound signature_steps m)
      (actions_work plan.part sound (work plan) m) (AtSure Such sure plan.part) ⊥
      (no_failure Such sure plan.part sound plan.switches) (p, exchanges)
      (opens_sure Such sure plan.part sound plan.switches m (p, exchanges) sizes idle such))).after status e).1 [
        | inl own ↦ own
        | inr broke ↦ absurd broke.0
      ]
