-- A session makes the write operations of its plan in order.
use Rattle.std.proofs.Common.{◌≡◌, ℕ, ◌+◌, ◌-◌, List, [], ◌∷◌, take, refl, ap, ◌∙◌, subst, inr, Result, rules}
use Rattle.std.specs.Prelude.{All, ⊤}
use Rattle.avr_plan.specs.declared.settings.Switches.{Switches}
use Rattle.avr_io.specs.OutputEvents.{OutputEvent}
use Rattle.avr_part.specs.Part.{Part, IsPart}
use Rattle.avr_plan.specs.Plan.{Plan, IsFitted}
use Rattle.stk_host.specs.declared.fault.HostFault.{HostFault}
use Rattle.stk_host.specs.Dialog.{Dialog, Done}
use Rattle.stk_host.specs.Operations.{closing}
use Rattle.stk_host.specs.ReadSteps.{signature_steps}
use Rattle.stk_emu.specs.Exchange.{Exchange}
use Rattle.stk_emu.specs.Programmer.{Programmer}
use Rattle.stk_emu.specs.Device.{device}
use Rattle.stk_emu.specs.DialogOverExchanges.{state_after}
use Rattle.stk_emu.specs.Effect.{Memories, Item, effects, memories_of}
use Rattle.stk_emu.specs.Settled.{HasMemories, FitsPart}
use Rattle.stk_emu.proofs.Repeatable.{Settled}
use Rattle.stk_emu.specs.WriteOperations.{steps_of_items, AreSteps}
use Rattle.avr_tool.proofs.WriteOperations.Items.{ItemsFit}
use Rattle.avr_tool.proofs.Leads.{Leads, GoesOn, memories_after_steps}
use Rattle.avr_tool.specs.Tallies.{Count, then_count, Tallies}
use Rattle.avr_tool.proofs.WriteOperations.StepCounts.{items_counted}
use Rattle.avr_tool.proofs.WriteOperations.Counts.{tallies_none, tallies_as, tallies_bind}
use Rattle.avr_session.specs.Standing.{Standing, NoFault, Faulty, Over}
use Rattle.avr_session.specs.Actions.{Action, OpenSession, EraseChip, WriteImage, actions}
use Rattle.avr_session.specs.PlanSteps.{action_steps}
use Rattle.avr_session.specs.Session.{reported, closing_output, action_dialog, actions_dialog, ending, session_dialog, status_of, session}
use Rattle.avr_tool.specs.Items.{action_items, actions_items, items}
use Rattle.avr_tool.specs.Completed.{steps_completed, actions_completed, operations_completed}
use Rattle.avr_tool.specs.Outcome.{write_operations}
use Rattle.avr_tool.proofs.Plans.Fits.{FitsAction, AllFitActions, work, work_fits, action_items_fit}
use Rattle.avr_tool.proofs.Real.{Real}
use Rattle.avr_tool.proofs.Emulated.{all_work, emulated}
use Rattle.avr_tool.proofs.OverFaultyLink.FirstSteps.{Rests, rests_here, effects_sizes}
use Rattle.avr_tool.proofs.OverFaultyLink.Sessions.{anyhow}
use Rattle.avr_tool.proofs.OverFaultyLink.EachAction.{CallHasAnyOutcome, AfterAction, fault_output, action_prints, operation_comes, opening_comes}
use Rattle.avr_tool.proofs.Hosts.Operations.{along_reported, closing_goes}
use Rattle.avr_tool.proofs.Hosts.OneLink.{Spot, on_link}
use Rattle.avr_tool.proofs.Hosts.Outputs.{Anything, Prints, any_outputs, stops, at_moment, prints_reported, prints_then, prints_wider}
use Rattle.avr_tool.proofs.WriteOperations.Steps.{leave_fits}
use Rattle.avr_tool.proofs.Plans.Calls.{outcome_output, dialog_is, is_operation}
use Rattle.stk_emu.proofs.Replies.Commands.{settled_idle}
use Rattle.avr_tool.proofs.OverFaultyLink.WriteOperations.{Changed, Makes, makes_none, makes_items, makes_then}

-- an action makes the write operations of these items, from a programmer in programming mode with these memories
abbrev Strikes : Part → Memories → List Item → Count Programmer → Dialog OutputEvent Standing → Type 0
Strikes part m items made d = (p : Programmer) (exchanges : List Exchange) → Settled part m p
    → Makes part m items d made p exchanges

module _ (part : Part) (sound : IsPart part) (s : Switches) where
  -- The emulated programmer, as the proofs use it.
  abbrev real : Real part
  real = emulated part sound

  -- An action makes some of its steps, and all of them if there is no fault.
  action_leads : (action : Action) (m : Memories) (p : Programmer) (exchanges : List Exchange)
      → ItemsFit part (action_items action) → FitsPart part m → CallHasAnyOutcome part sound real s action m p
      → Leads device (action_dialog part s action) p exchanges (Rests real (steps_of_items part (action_items action))
      m) (λ at q. at ≡ NoFault → Settled part (effects part (action_items action) m) q)
  action_leads action m p exchanges fits f comes = record {
    during = λ k. (at_moment device Anything (λ at emitted z x. x.0) k prints).now;
    after = λ k at e fine.
        let ended = ((at_moment device Anything (λ at emitted z x. x.0) k prints).after at e).1 in search rules;
  }
    where
      -- The action with its output, whatever that is.
      prints : Prints device Anything (λ emitted z. Rests real (steps_of_items part (action_items action)) m z.0)
          (AfterAction part real s (λ m z. Settled part m z.0) ⊤ action [] m) (action_dialog part s action)
          (p, exchanges)
      prints = prints_wider device Anything (λ emitted z x. x.0) (λ at emitted z x. x)
          (action_prints part sound real s Anything (λ fault q. any_outputs (fault_output part fault) q)
          (λ m z. Settled part m z.0) ⊤ (anyhow part sound real s) action [] m fits f (p, exchanges)
          (λ q is. any_outputs _ q) (on_link device comes))

  -- An erase or a write makes its write operations.
  makes_written : (action : Action) (m : Memories) → FitsAction part action → FitsPart part m
      → action_steps part action ≡ steps_of_items part (action_items action)
      → Strikes part m (action_items action) (steps_completed device (steps_of_items part (action_items action)))
      (action_dialog part s action)
  makes_written action m fits f same p exchanges settled =
      let o = is_operation part s sound m f action fits in
      subst (λ d. Makes part m (action_items action) d
      (steps_completed device (steps_of_items part (action_items action))) p exchanges)
      (search (rules, dialog_is))
      (makes_items part sound m (action_items action) o.judge (outcome_output part s action) p exchanges
      (subst (AreSteps part) same o.are) settled)

  -- So does any action but the opening; most make none.
  makes_action : (action : Action) (m : Memories) → FitsAction part action → FitsPart part m
      → Strikes part m (action_items action) (steps_completed device (steps_of_items part (action_items action)))
      (action_dialog part s action)
  makes_action EraseChip m fits f = makes_written EraseChip m fits f refl
  makes_action (WriteImage mem image) m fits f = search (rules, makes_written)
  makes_action action m fits f = λ p exchanges settled.
      makes_none part sound m (action_dialog part s action) p exchanges
      (λ at q. at ≡ NoFault → Settled part (effects part (action_items action) m) q)
      (action_leads action m p exchanges tt f
      (operation_comes part sound real s action m fits f (all_work part sound (action_steps part action) m) p settled))

  -- So do all actions in order.
  makes_each_action : (actions : List Action) (m : Memories) → AllFitActions part actions → FitsPart part m
      → Strikes part m (actions_items actions) (actions_completed part s actions) (actions_dialog part s actions)
  makes_each_action [] m fits f p exchanges settled =
      makes_none part sound m (Done NoFault) p exchanges (λ at q. ⊤)
      (record { during = λ k. rests_here real [] m p (settled_idle part m p settled); after = λ k at e. tt })
  makes_each_action (action ∷ actions) m fits f p exchanges settled =
      let items = action_items action in
      let left = effects part items m in
      makes_then part sound m items _ _ _ _ _ p exchanges (action_items_fit part action fits.0) f
      (action_leads action m p exchanges (action_items_fit part action fits.0) f
      (operation_comes part sound real s action m fits.0 f (all_work part sound (action_steps part action) m) p
      settled))
      (makes_action action m fits.0 f p exchanges settled)
      (λ q fs there. makes_each_action actions left fits.1 (effects_sizes part sound items m f) q fs there)

  -- the end keeps the memories
  module _ (m : Memories) where
    -- The memories stay as they are.
    abbrev Kept : Dialog OutputEvent Standing → Spot Programmer → Type 0
    Kept d z = Prints device Anything (λ emitted y. HasMemories part m y.0) (λ at emitted y. HasMemories part m y.0) d z

    -- The closing keeps them.
    closing_keeps : (outcome_output : Result ⊤ HostFault → List OutputEvent) (z : Spot Programmer)
        → HasMemories part m z.0 → Kept (reported closing outcome_output) z
    closing_keeps outcome_output z i =
        prints_reported device Anything outcome_output
        (on_link device (closing_goes device (HasMemories part m) (leave_fits part m)
        z.0 i)) (λ y i. i) (λ r y x. (any_outputs (outcome_output r) y.0, x.0))

    -- So does the end of a session.
    ending_keeps : (at : Standing) (z : Spot Programmer) → HasMemories part m z.0 → Kept (ending part s at) z
    ending_keeps NoFault z i = closing_keeps (closing_output s.quiet part) z i
    ending_keeps Faulty z i = prints_then device Anything (λ x y i. i) (closing_keeps (λ _. []) z i)
        (λ at x y i. stops device Anything (λ at emitted y. HasMemories part m y.0) Over x y i)
    ending_keeps Over z i = record { holds = i }

module _ (plan : Plan) (sound : IsPart plan.part) (fitted : All (IsFitted plan.part) plan.tasks) (m : Memories)
    (f : FitsPart plan.part m) (p : Programmer) (exchanges : List Exchange)
    (idle : HasMemories plan.part m p) where
  -- The actions of the plan.
  abbrev all_actions : Dialog OutputEvent Standing
  all_actions = actions_dialog plan.part plan.switches (actions plan)

  -- They make the write operations of the plan.
  makes_actions : Makes plan.part m (items plan) all_actions (operations_completed plan) p exchanges
  makes_actions =
      let part = plan.part in
      let s = plan.switches in
      let opened = action_dialog part s OpenSession in
      let opens = action_leads part sound s OpenSession m p exchanges tt f
      (opening_comes part sound (emulated part sound) s m f (all_work part sound signature_steps m) p idle) in
      makes_then part sound m [] (actions_items (work plan)) opened (actions_dialog part s (work plan)) (λ k q fs. 0)
      (actions_completed part s (work plan)) p exchanges tt f
      opens (makes_none part sound m opened p exchanges (λ at q. at ≡ NoFault → Settled part m q) opens)
      (λ q fs there. makes_each_action part sound s (work plan) m (work_fits plan fitted) f q fs there)

  -- Some first steps of the plan were made.
  abbrev At : ℕ → Programmer → Type 0
  At = Changed plan.part (items plan) m

  -- The end makes no more.
  ends : (k : ℕ) (s : Standing) → (state_after device k all_actions p exchanges).dialog ≡ Done s
      → GoesOn device At (state_after device k all_actions p exchanges) (makes_actions.tally.count k)
      (operations_completed plan (k - 1) p exchanges) (ending plan.part plan.switches s) (λ l q fs. 0)
  ends k s e =
      let part = plan.part in
      let z = state_after device k all_actions p exchanges in
      let made = makes_actions.tally.count k in
      let changed = makes_actions.tally.stands k in
      let before = memories_after_steps part made (steps_of_items part (items plan)) m in
      let keeps = ending_keeps part sound plan.switches before s (z.programmer, z.exchanges) changed.stands in
      record {
        rest = tallies_none device (ending part plan.switches s) (λ j. At (made + j)) z.programmer z.exchanges
            (λ l. let now = (at_moment device Anything (λ at emitted y i. i) l keeps).now in search rules);
        sharp = inr (λ l. refl);
      }

  -- the first write operations of the plan, in order, counted
  pub session_makes : Tallies device (session plan) (operations_completed plan)
      (λ j q. memories_of q.chip ≡ effects plan.part (take j (write_operations plan)) m) p exchanges
  unfolding session
  session_makes =
      tallies_as device (session_dialog plan) _
      (then_count device all_actions (operations_completed plan) (λ t l q fs. 0)) _ At _ p exchanges
      (λ k. (search rules))
      (λ k j changed. ap (λ z. memories_of z.programmer.chip) (along_reported device k (session_dialog plan) status_of p
      exchanges) ∙ (changed.stands.memories ∙ items_counted plan.part (items plan) j m))
      (tallies_bind device all_actions (ending plan.part plan.switches) (operations_completed plan)
      (λ t l q fs. 0) At p exchanges makes_actions.tally (λ k s e. ends k s e))
