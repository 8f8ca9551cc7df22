-- What a session leaves over any link, and that with status 0 it is its expected run.
use Rattle.std.proofs.Common.{◌≡◌, ℕ, List, [], ◌∷◌, sym, ◌∙◌, arith, inl, inr, Ok}
use Rattle.std.specs.Prelude.{All, ⊤}
use Rattle.avr_part.specs.Part.{IsPart}
use Rattle.avr_plan.specs.Plan.{Plan, IsFitted}
use Rattle.avr_session.specs.Actions.{Action, OpenSession}
use Rattle.avr_session.specs.Session.{closing_output, session}
use Rattle.stk_host.specs.Dialog.{Done}
use Rattle.stk_emu.specs.Exchange.{Exchange}
use Rattle.stk_emu.specs.DialogOverExchanges.{state_after, outputs_after}
use Rattle.stk_emu.specs.Effect.{Memories, effects}
use Rattle.stk_emu.specs.Settled.{FitsPart}
use Rattle.stk_host.specs.ReadSteps.{signature_steps}
use Rattle.avr_tool.proofs.Real.{ActionsWork, AllWork, Real, HasMemories, Settled}
use Rattle.avr_tool.proofs.OverFaultyLink.EachAction.{CallHasOutcome, Passes, ActionsTrue, fault_output, opening_comes}
use Rattle.avr_tool.proofs.OverFaultyLink.Sessions.{AtMoment, AtEnd, at_last, anyhow, session_prints}
use Rattle.avr_tool.proofs.Hosts.OneLink.{Spot, on_link}
use Rattle.avr_tool.proofs.Hosts.Outputs.{Anything, Prints, Printed, any_outputs, at_moment}
use Rattle.avr_tool.proofs.Leads.{Leads}
use Rattle.avr_tool.proofs.Memories.ExpectedAgrees.{expected_status, expected_memories}
use Rattle.avr_tool.proofs.Plans.Fits.{work}
use Rattle.avr_tool.specs.Items.{action_items}
use Rattle.avr_tool.specs.Outcome.{HasFirstOperations, IsDone, IsExpectedRun}

module _ (plan : Plan) (sound : IsPart plan.part) (real : Real plan.part) (before : Memories) (sizes : FitsPart plan.part before)
    (fitted : All (IsFitted plan.part) plan.tasks) (signs : AllWork real signature_steps before)
    (works : ActionsWork real (work plan) before) where
  -- Any output of the actions has the property that any output has.
  anything : (actions : List Action) (m : Memories) → ActionsTrue plan.part real plan.switches Anything actions m
  anything [] m = tt
  anything (action ∷ actions) m =
      (λ q is. any_outputs _ q, anything actions (effects plan.part (action_items action) m))

  -- over any link, or if no step fails
  pub session_passes : (At : Memories → Spot real.P → Type 0) (Fails : Type 0)
      → Passes plan.part real plan.switches At Fails
      → (z : Spot real.P) → CallHasOutcome plan.part real plan.switches At Fails OpenSession before z
      → Prints real.device Anything (AtMoment plan real before) (AtEnd plan real before Fails) (session plan) z
  session_passes At Fails pass z opened =
      session_prints plan sound real fitted Anything (λ fault q. any_outputs (fault_output plan.part fault) q)
      (λ q. any_outputs (closing_output plan.switches.quiet plan.part (Ok tt)) q) At Fails pass before sizes works
      (λ q is. any_outputs _ q) (anything (work plan) before) z opened

  module _ (p : real.P) (exchanges : List Exchange) (idle : HasMemories real before p) where
    -- The session along the exchanges: at each command, and at its end.
    pub session_along : (k : ℕ)
        → Printed real.device (AtMoment plan real before) (AtEnd plan real before ⊤) k (session plan) (p, exchanges)
    session_along k =
        at_moment real.device Anything (at_last plan real before ⊤) k
        (session_passes (λ m z. Settled real m z.0) ⊤ (anyhow plan.part sound real plan.switches) (p, exchanges)
        (on_link real.device (opening_comes plan.part sound real plan.switches before sizes signs p idle)))

    -- with status 0 it is its expected run
    pub session_succeeds : (k status : ℕ) → (state_after real.device k (session plan) p exchanges).dialog ≡ Done status
        → status ≡ 0 → IsExpectedRun plan before
        (real.memories (state_after real.device k (session plan) p exchanges).programmer)
        (outputs_after real.device k (session plan) p exchanges) status
    session_succeeds k status e zero = elim ((session_along k).after status e).1 [
      | inl own ↦ own
      | inr broke ↦ let one = broke.1.1 in absurd (omega (arith, zero, one))
    ]

    -- At each command the first operations were made; with status 0 all were, and all comparisons agreed.
    pub session_leaves : Leads real.device (session plan) p exchanges
        (λ q. HasFirstOperations plan before (real.memories q))
        (λ status q. status ≡ 0 → IsDone plan before (real.memories q))
    session_leaves = record {
      during = λ k. (session_along k).now.0;
      after = λ k status e zero.
          let run = session_succeeds k status e zero in
          let agrees = (expected_status plan before).0 (sym run.status_is ∙ zero) in
          record { memories = run.memories ∙ expected_memories plan before agrees; agrees = agrees };
    }
