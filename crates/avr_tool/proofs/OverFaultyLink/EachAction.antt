-- The actions of a session over one link, on which steps may fail or none does: their output, and what they leave.
use Rattle.std.proofs.Common.{◌≡◌, ℕ, List, [], ◌∷◌, ◌++◌, append_assoc, refl, sym, ap, ap₂, ◌∙◌, subst, inl, inr, ◌⊎◌, Ok, Err, Result, rules}
use Rattle.std.specs.Prelude.{⊤}
use Rattle.avr_plan.specs.declared.settings.Switches.{Switches}
use Rattle.avr_io.specs.OutputEvents.{OutputEvent, PrintsLine}
use Rattle.avr_part.specs.Part.{Part, IsPart}
use Rattle.avr_session.specs.Actions.{Action, OpenSession}
use Rattle.avr_session.specs.Lines.{fault_line}
use Rattle.avr_session.specs.PlanSteps.{action_steps}
use Rattle.avr_session.specs.Session.{standing, status_of, unless_fault, action_dialog, actions_dialog}
use Rattle.avr_session.specs.Standing.{Standing, NoFault}
use Rattle.stk_host.proofs.Dialogs.Logic.{outcome_mapped, wider}
use Rattle.stk_host.specs.declared.fault.HostFault.{HostFault}
use Rattle.stk_host.specs.declared.fault.StepFault.{StepFault}
use Rattle.stk_host.specs.declared.fault.StepFault.TheVariants as of_step
use Rattle.stk_host.specs.Operations.{opening, closing, host_fault, checked_by, signature_checked}
use Rattle.stk_host.specs.Steps.{StepOutcome}
use Rattle.avr_tool.proofs.Real.{ActionsWork, AfterBeginning, AllWork, HasMemories, Reached, Real, Settled, settled_idle}
use Rattle.stk_emu.specs.Effect.{Memories, Item, effects}
use Rattle.stk_emu.specs.WriteOperations.{steps_of_items}
use Rattle.avr_tool.proofs.WriteOperations.Items.{ItemsFit}
use Rattle.stk_emu.specs.Settled.{FitsPart}
use Rattle.avr_tool.proofs.OverFaultyLink.FirstSteps.{Rests, rests_here, rests_before, rests_all, rests_behind, effects_sizes}
use Rattle.avr_tool.proofs.StepData.Comparisons.{signature_taken}
use Rattle.avr_tool.proofs.Hosts.AnyExchange.{Keeps}
use Rattle.avr_tool.proofs.Hosts.Operations.{AfterCall, operation_goes, beginning_goes}
use Rattle.avr_tool.proofs.Hosts.OneLink.{Spot, Runs}
use Rattle.avr_tool.proofs.Hosts.Outputs.{AllTrue, Prints, stops, prints_reported, prints_then, prints_wider}
use Rattle.stk_host.specs.ReadSteps.{signature_steps}
use Rattle.avr_tool.proofs.Plans.Calls.{Outcome, outcome_of, call_of, outcome_output, outcome_expected, dialog_is, expected_is, IsOperation, is_operation}
use Rattle.avr_tool.proofs.Plans.Fits.{FitsAction, AllFitActions, action_items_fit}
use Rattle.avr_tool.proofs.Plans.Standings.{after_fault, faulty_fine, over_fine}
use Rattle.avr_tool.specs.ExpectedRun.{Expected, next_unless_fault, action_expected, actions_expected}
use Rattle.avr_tool.specs.ExpectedOutput.{FirstActionsOutput, OutputToFault}
use Rattle.avr_tool.specs.Items.{action_items, actions_items}

-- ---- the calls

-- The first steps of these items were made.
abbrev pub RestsIn : {part : Part} → (real : Real part) → List Item → Memories → Spot real.P → Type 0
RestsIn {part = part} real items m z = Rests real (steps_of_items part items) m z.0

module _ (part : Part) (real : Real part) (s : Switches) (At : Memories → Spot real.P → Type 0) (Fails : Type 0) where
  -- After the call of an action: its own outcome and the memories of its items. If steps may fail, also a step's fault.
  abbrev pub HasOutcome : (action : Action) → Memories → Result (Outcome action) HostFault → Spot real.P → Type 0
  HasOutcome action m got z =
      ((got ≡ outcome_of part action m) × At (effects part (action_items action) m) z)
      ⊎ (Fails × ((fault : StepFault) × (got ≡ Err (host_fault fault))
      × RestsIn real (action_items action) m z))

  -- The call of an action goes so.
  abbrev pub CallHasOutcome : Action → Memories → Spot real.P → Type 0
  CallHasOutcome action m z = Runs real.device (λ y. RestsIn real (action_items action) m y) (HasOutcome action m)
      (call_of part s action) z

  -- as the expected run: its status, its output and its memories
  pub record IsAsExpected (c : Expected) (at : Standing) (emitted : List OutputEvent) (z : Spot real.P) : Type 0 where
    pub status_is : c.status ≡ status_of at
    pub output_events_are : emitted ≡ c.output_events
    pub left : At c.memories z

  -- a step failed, and its line was printed last
  pub record EndsInFault (actions : List Action) (m : Memories) (at : Standing) (emitted : List OutputEvent) : Type 0
    where
      pub fails : Fails
      pub faulty : at ≡ NoFault → ⊥
      pub line : OutputToFault part s actions m emitted

  -- at each command of these actions; then after them
  abbrev pub AtCommand : List Action → Memories → List OutputEvent → Spot real.P → Type 0
  AtCommand actions m emitted z = RestsIn real (actions_items actions) m z × FirstActionsOutput part s actions m emitted

  -- As the expected run, or after the line of a failed step.
  abbrev pub AfterActions : List Action → Memories → Standing → List OutputEvent → Spot real.P → Type 0
  AfterActions actions m at emitted z = RestsIn real (actions_items actions) m z
      × (IsAsExpected (actions_expected part s actions m) at emitted z ⊎ EndsInFault actions m at emitted)

  -- after the first of them
  abbrev pub AfterAction : Action → List Action → Memories → Standing → List OutputEvent → Spot real.P → Type 0
  AfterAction action rest m at emitted z = RestsIn real (action_items action) m z
      × (IsAsExpected (outcome_expected part s action m) at emitted z ⊎ EndsInFault (action ∷ rest) m at emitted)

  -- What the calls do between such conditions. Each action has its outcome, and the closing keeps the memories. A fault
  -- comes only if steps may fail.
  pub record Passes : Type 0 where
    pub idle : (m : Memories) (z : Spot real.P) → At m z → HasMemories real m z.0
    pub calls : (action : Action) (m : Memories) (z : Spot real.P) → FitsAction part action → FitsPart part m
        → AllWork real (action_steps part action) m → At m z → CallHasOutcome action m z
    pub closes : (m : Memories) (z : Spot real.P) → At m z → Runs real.device (λ y. HasMemories real m y.0)
        (λ r y. HasMemories real m y.0 × ((r ≡ Ok tt) ⊎ (Fails × ((fault : StepFault) × (r ≡ Err (host_fault fault))))))
        closing z

module _ (part : Part) (sound : IsPart part) (real : Real part) (s : Switches) where
  -- the outcomes of a call over any link
  abbrev AnyOutcome : (action : Action) → Memories → Result (Outcome action) HostFault → real.P → Type 0
  AnyOutcome action m got q = HasOutcome part real s (λ m z. Settled real m z.0) ⊤ action m got (q, [])

  -- The call goes so over any link.
  abbrev pub CallHasAnyOutcome : Action → Memories → real.P → Type 0
  CallHasAnyOutcome action m p = Keeps real.device (Rests real (steps_of_items part (action_items action)) m)
      (AnyOutcome action m)
      (call_of part s action) p

  -- an action that is a run of steps and the check of their data
  pub operation_comes : (action : Action) (m : Memories) → FitsAction part action → FitsPart part m
      → AllWork real (action_steps part action) m → (p : real.P) → Settled real m p → CallHasAnyOutcome action m p
  operation_comes action m fits f w p settled =
      rw (← o.call_is) (wider (λ bytes q r. rests q r) (λ e q x. x) came
      (operation_goes part sound real (action_steps part action) m o.judge p o.are f w settled))
    where
      -- The action as an operation.
      o : IsOperation part s action m
      o = is_operation part s sound m f action fits

      -- The steps of the call are those of its items.
      rests : (q : real.P) → Reached real (action_steps part action) m q
          → Rests real (steps_of_items part (action_items action)) m q
      rests q r = record { count = r.count; stands = rw (← o.some r.count) (settled_idle real _ q r.stands) }

      -- After the call its outcome holds, or a fault.
      came : (got : Result (Outcome action) HostFault) (q : real.P)
          → AfterCall part sound real (action_steps part action) m o.judge got q → AnyOutcome action m got q
      came got q (inl made) = inl (made.1 ∙ o.gives, subst (λ z. Settled real z q) o.all made.0)
      came got q (inr broke) = inr (tt, (broke.0, broke.1, rests q broke.2))

  -- the opening, with the part's own signature
  pub opening_comes : (m : Memories) → FitsPart part m → AllWork real signature_steps m → (p : real.P)
      → HasMemories real m p → CallHasAnyOutcome OpenSession m p
  unfolding opening
  opening_comes m f w p idle =
      outcome_mapped (checked_by (signature_checked part.signature s.force))
      (wider (λ bytes q i. rests_here real [] m q i) (λ e q x. x) (λ o q x. x)
      (beginning_goes part sound real m p f w idle)) came
    where
      -- After the opening the signature is known, or a step failed.
      came : (o : StepOutcome) (q : real.P) → AfterBeginning real m o q
          → AnyOutcome OpenSession m (checked_by (signature_checked part.signature s.force) o) q
      came (Ok found) q a = inl (rw a.1 (signature_taken part.signature s.force), a.0)
      came (Err fault) q i = inr (tt, (fault, refl, rests_here real [] m q i))

-- ---- their output

-- The line of a failed step.
abbrev pub fault_output : Part → StepFault → List OutputEvent
fault_output part fault = PrintsLine (fault_line part (host_fault fault)) ∷ []

module _ (part : Part) (real : Real part) (s : Switches) where
  -- Each action prints it after a fault.
  fault_prints : (action : Action) (fault : StepFault)
      → outcome_output part s action (Err (host_fault fault)) ≡ fault_output part fault
  fault_prints OpenSession of_step.NoAnswer = refl
  fault_prints action fault = search rules

  -- the output of an action is true
  module _ (True : OutputEvent → real.P → Type 0) where
    -- What an action outputs is true of the memories that it leaves.
    abbrev pub ActionTrue : Action → Memories → Type 0
    ActionTrue action m = (q : real.P) → real.memories q ≡ effects part (action_items action) m
        → AllTrue True (outcome_output part s action (outcome_of part action m)) q

    -- So is the output of all actions.
    abbrev pub ActionsTrue : List Action → Memories → Type 0
    ActionsTrue [] m = ⊤
    ActionsTrue (action ∷ actions) m = ActionTrue action m × ActionsTrue actions (effects part (action_items action) m)

module _ (part : Part) (sound : IsPart part) (real : Real part) (s : Switches) (True : OutputEvent → real.P → Type 0)
    (fault_true : (fault : StepFault) (q : real.P) → AllTrue True (fault_output part fault) q)
    (At : Memories → Spot real.P → Type 0) (Fails : Type 0) (pass : Passes part real s At Fails) where
  -- No action is done at first.
  none_done : (actions : List Action) (m : Memories) → FirstActionsOutput part s actions m []
  none_done actions m = record { done = []; more = actions; actions_are = refl; fine = refl; output_events_are = refl }

  -- These actions go so.
  abbrev pub PrintsActions : List Action → Memories → Spot real.P → Type 0
  PrintsActions actions m z =
      Prints real.device True (AtCommand part real s At Fails actions m) (AfterActions part real s At Fails actions m)
      (actions_dialog part s actions) z

  module _ (action : Action) (rest : List Action) (m : Memories) (fits : ItemsFit part (action_items action))
      (f : FitsPart part m) where
    -- The items of the first action.
    abbrev items : List Item
    items = action_items action

    -- Its expected run.
    abbrev c : Expected
    c = outcome_expected part s action m

    -- The first action: its output, and then its outcome.
    pub action_prints : (z : Spot real.P) → ActionTrue part real s True action m
        → CallHasOutcome part real s At Fails action m z → Prints real.device True (λ emitted y. RestsIn real items m y
        × FirstActionsOutput part s (action ∷ rest) m emitted)
        (AfterAction part real s At Fails action rest m) (action_dialog part s action) z
    action_prints z holds comes =
        rw (← dialog_is part s action) (prints_reported real.device True (outcome_output part s action) comes
        (λ y r. (r, none_done (action ∷ rest) m)) each)
      where
        -- The outcome of the call, or the line of a fault, ends the action.
        each : (got : Result (Outcome action) HostFault) (y : Spot real.P)
            → HasOutcome part real s At Fails action m got y → AllTrue True (outcome_output part s action got) y.0
            × AfterAction part real s At Fails action rest m (standing got) (outcome_output part s action got) y
        each got y (inl made) =
            let idle = pass.idle _ y made.1 in
            rw made.0 (search (rules, holds y.0 (real.has _ y.0 idle), rests_all real sound items m y.0 fits f idle))
        each got y (inr broke) =
            let fault = broke.1.0 in
            let line : outcome_output part s action got ≡ fault_output part fault =
            ap (outcome_output part s action) broke.1.1 ∙ fault_prints part real s action fault in (
              subst (λ x. AllTrue True x y.0) (sym line) (fault_true fault y.0),
              (
                broke.1.2,
                inr (search (rules, after_fault, faulty_fine, over_fine, none_done (action ∷ rest) m)),
              ),
            )

    -- ---- an action, then the next ones unless there was a fault

    -- The expected run goes on from the expected run of this action.
    expected_by_outcome : (next : Memories → Expected) (status : ℕ) → c.status ≡ status → next_unless_fault
        (action_expected part s action m) (action_expected part s action m).status next
        ≡ next_unless_fault c status next
    expected_by_outcome next status e = ap (λ x. next_unless_fault x x.status next) (expected_is part s action m)
        ∙ ap (λ x. next_unless_fault c x next) e

    module _ (emitted : List OutputEvent) (is : emitted ≡ c.output_events) (fine : c.status ≡ 0) where
      -- Some first actions of the others are some first ones of all.
      first_behind : (x : List OutputEvent) → FirstActionsOutput part s rest c.memories x
          → FirstActionsOutput part s (action ∷ rest) m (emitted ++ x)
      first_behind x first =
          let on = expected_by_outcome (actions_expected part s first.done) 0 fine in
          record {
            done = action ∷ first.done;
            more = first.more;
            actions_are = ap (λ xs. action ∷ xs) first.actions_are;
            fine = ap (λ y. y.status) on ∙ first.fine;
            output_events_are = ap₂ ◌++◌ is first.output_events_are ∙ sym (ap (λ y. y.output_events) on);
          }

      -- All steps of the first action and some of the others are some of all.
      rests_later : (y : Spot real.P) → RestsIn real (actions_items rest) c.memories y
          → RestsIn real (actions_items (action ∷ rest)) m y
      rests_later y r = rests_behind real sound items (actions_items rest) m y.0 fits f r

      -- What holds after the others holds after all.
      after_behind : (at : Standing) (x : List OutputEvent) (y : Spot real.P)
          → AfterActions part real s At Fails rest c.memories at x y
          → AfterActions part real s At Fails (action ∷ rest) m at (emitted ++ x) y
      after_behind at x y (rests, inl own) =
          search (rules, rests_later y rests, expected_by_outcome (actions_expected part s rest) 0 fine)
      after_behind at x y (rests, inr broken) =
          let line = broken.line in (
            rests_later y rests,
            inr (record {
              fails = broken.fails;
              faulty = broken.faulty;
              line = search (rules, first_behind line.before_fault line.first, append_assoc);
            }),
          )

    -- Some steps of the first action are some of all.
    before : (y : Spot real.P) → RestsIn real items m y → RestsIn real (actions_items (action ∷ rest)) m y
    before y r = rests_before real items (actions_items rest) m y.0 r

    -- The first action and then the others print what all actions print.
    pub prints_first_action : (z : Spot real.P) → ActionTrue part real s True action m
        → CallHasOutcome part real s At Fails action m z
        → ((y : Spot real.P) → At c.memories y → PrintsActions rest c.memories y) → PrintsActions (action ∷ rest) m z
    prints_first_action z holds comes more =
        prints_then real.device True (λ emitted y x. (before y x.0, x.1)) (action_prints z holds comes) on
      where
        -- The others follow unless there was a fault.
        on : (at : Standing) (emitted : List OutputEvent) (y : Spot real.P)
            → AfterAction part real s At Fails action rest m at emitted
            y → Prints real.device True (λ x. AtCommand part real s At Fails (action ∷ rest) m (emitted ++ x))
            (λ b x. AfterActions part real s At Fails (action ∷ rest) m b (emitted ++ x))
            (unless_fault (actions_dialog part s rest) at) y
        on NoFault emitted y (r, inl own) =
            prints_wider real.device True
            (λ x v now. search (rules, rests_later, first_behind))
            (after_behind emitted own.output_events_are own.status_is) (more y own.left)
        on NoFault emitted y (r, inr broken) = absurd (broken.faulty refl)
        on at emitted y (r, inl own) =
            stops real.device True (AfterActions part real s At Fails (action ∷ rest) m) at emitted y
            (before y r, inl (rw (expected_by_outcome (actions_expected part s rest) (status_of at) own.status_is) own))
        on at emitted y (r, inr broken) =
            stops real.device True (AfterActions part real s At Fails (action ∷ rest) m) at emitted y (before y r, inr broken)

  -- the actions after the opening
  pub actions_print : (actions : List Action) (m : Memories) (z : Spot real.P) → AllFitActions part actions
      → FitsPart part m → ActionsWork real actions m
      → ActionsTrue part real s True actions m → At m z → PrintsActions actions m z
  actions_print [] m z fits f w holds at = search rules
  actions_print (action ∷ rest) m z fits f w holds at =
      prints_first_action action rest m (action_items_fit part action fits.0) f z holds.0
      (pass.calls action m z fits.0 f w.0 at)
      (λ y there. actions_print rest (effects part (action_items action) m) y fits.1
      (effects_sizes part sound (action_items action) m f) w.1 holds.1 there)
