-- A session over one link, from its opening to its end: its output, its status, and what it leaves.
use Rattle.std.proofs.Common.{◌≡◌, ℕ, List, [], ◌++◌, refl, sym, ◌∙◌, subst, inl, inr, ◌⊎◌, Ok, Err, Result, All, rules}
use Rattle.std.proofs.lemmas.List.{append-nil}
use Rattle.std.specs.Prelude.{⊤}
use Rattle.avr_plan.specs.declared.settings.Switches.{Switches}
use Rattle.avr_io.specs.OutputEvents.{OutputEvent}
use Rattle.avr_part.specs.Part.{Part, IsPart}
use Rattle.avr_plan.specs.Plan.{Plan, IsFitted}
use Rattle.avr_session.specs.Actions.{OpenSession, actions}
use Rattle.avr_session.specs.Session.{standing, closing_output, ending, status_of, session}
use Rattle.avr_session.specs.Standing.{Standing, NoFault, Faulty, Over}
use Rattle.stk_host.proofs.Dialogs.Logic.{wider}
use Rattle.stk_host.specs.declared.fault.HostFault.{HostFault}
use Rattle.stk_host.specs.declared.fault.StepFault.{StepFault}
use Rattle.stk_host.specs.Operations.{host_fault}
use Rattle.avr_tool.proofs.Real.{ActionsWork, HasMemories, Real, Settled, settled_idle}
use Rattle.stk_emu.specs.Effect.{Memories}
use Rattle.stk_emu.specs.WriteOperations.{steps_of_items}
use Rattle.avr_tool.proofs.Leads.{memories_after_steps}
use Rattle.stk_emu.specs.Settled.{FitsPart}
use Rattle.avr_tool.proofs.OverFaultyLink.EachAction.{RestsIn, CallHasOutcome, IsAsExpected, AfterActions, Passes, ActionTrue, ActionsTrue, fault_output, operation_comes, prints_first_action, actions_print}
use Rattle.avr_tool.proofs.Hosts.Operations.{closing_goes}
use Rattle.avr_tool.proofs.Hosts.OneLink.{Spot, on_link}
use Rattle.avr_tool.proofs.Hosts.Outputs.{AllTrue, Prints, stops, prints_reported, prints_then}
use Rattle.avr_tool.proofs.WriteOperations.StepCounts.{items_counted}
use Rattle.avr_tool.proofs.Plans.Fits.{work, work_fits}
use Rattle.avr_tool.specs.ExpectedRun.{Expected, actions_expected, ending_output}
use Rattle.avr_tool.specs.ExpectedOutput.{FirstActionsOutput, OutputToFault, IsExpectedOutput}
use Rattle.avr_tool.specs.Items.{items}
use Rattle.avr_tool.specs.Outcome.{HasFirstOperations, IsExpectedRun}

-- over any link, where each step may fail
pub anyhow : (part : Part) → IsPart part → (real : Real part) → (s : Switches)
    → Passes part real s (λ m z. Settled real m z.0) ⊤
anyhow part sound real s = record {
  idle = λ m z t. settled_idle real m z.0 t;
  calls = λ action m z fits f w t. on_link real.device (operation_comes part sound real s action m fits f w z.0 t);
  closes = λ m z t.
      wider (λ bytes y i. i) (λ e y x. x) (λ r y x. search rules) (on_link real.device
      (closing_goes real.device (HasMemories real m) (real.leaves m) z.0 (settled_idle real m z.0 t)));
}

module _ (plan : Plan) (real : Real plan.part) (m : Memories) where
  -- At each command: the first operations were made, and the output is expected.
  abbrev pub AtMoment : List OutputEvent → Spot real.P → Type 0
  AtMoment emitted y = HasFirstOperations plan m (real.memories y.0) × IsExpectedOutput plan m emitted

  -- with a status: as the expected run, or status 1 after the line of a failed step
  abbrev pub AtEnd : Type 0 → ℕ → List OutputEvent → Spot real.P → Type 0
  AtEnd Fails status emitted y = HasFirstOperations plan m (real.memories y.0)
      × (IsExpectedRun plan m (real.memories y.0) emitted status
      ⊎ (Fails × (OutputToFault plan.part plan.switches (actions plan) m emitted × (status ≡ 1))))

  -- What holds at the end holds as at any command.
  pub at_last : (Fails : Type 0) (status : ℕ) (emitted : List OutputEvent) (y : Spot real.P)
      → AtEnd Fails status emitted y → AtMoment emitted y
  at_last Fails status emitted y ended = search rules

module _ (plan : Plan) (sound : IsPart plan.part) (real : Real plan.part) (fitted : All (IsFitted plan.part) plan.tasks)
    (True : OutputEvent → real.P → Type 0)
    (fault_true : (fault : StepFault) (q : real.P) → AllTrue True (fault_output plan.part fault) q)
    (done_true : (q : real.P) → AllTrue True (closing_output plan.switches.quiet plan.part (Ok tt)) q)
    (At : Memories → Spot real.P
    → Type 0) (Fails : Type 0) (pass : Passes plan.part real plan.switches At Fails) (m : Memories)
    (f : FitsPart plan.part m) (works : ActionsWork real (work plan) m) where
  abbrev part : Part
  part = plan.part

  abbrev s : Switches
  s = plan.switches

  -- The expected run of the actions.
  abbrev w : Expected
  w = actions_expected part s (actions plan) m

  -- All actions are done.
  all_done : (emitted : List OutputEvent) → emitted ≡ w.output_events → w.status ≡ 0
      → FirstActionsOutput part s (actions plan) m emitted
  all_done emitted is fine = record {
    done = actions plan;
    more = [];
    actions_are = sym (append-nil (actions plan));
    fine = fine;
    output_events_are = is;
  }

  -- The first operations were made.
  first_done : (y : Spot real.P) → RestsIn real (items plan) m y → HasFirstOperations plan m (real.memories y.0)
  first_done y rests = search (rules, memories_after_steps, items_counted)

  module _ (emitted : List OutputEvent) (y : Spot real.P) (rests : RestsIn real (items plan) m y)
      (own : IsAsExpected part real s At Fails w NoFault emitted y) where
    -- The closing leaves the memories.
    left : (z : Spot real.P) → HasMemories real w.memories z.0 → HasFirstOperations plan m (real.memories z.0)
    left z i =
        let first = first_done y rests in
        record {
          count = first.count;
          memories = real.has w.memories z.0 i
              ∙ (sym (real.has w.memories y.0 (pass.idle w.memories y own.left)) ∙ first.memories);
        }

    -- The end of the session, after the closing.
    abbrev ReportedAs : Result ⊤ HostFault → Spot real.P → Type 0
    ReportedAs r z = AllTrue True (closing_output s.quiet part r) z.0
        × AtEnd plan real m Fails (status_of (standing r)) (emitted ++ closing_output s.quiet part r) z

    -- The closing succeeds, or fails and is reported.
    closed : (r : Result ⊤ HostFault) (z : Spot real.P) → HasMemories real w.memories z.0
        × ((r ≡ Ok tt) ⊎ (Fails × ((fault : StepFault) × (r ≡ Err (host_fault fault))))) → ReportedAs r z
    closed r z (i, inl ok) = rw ok (done_true z.0, (left z i, inl (search (rules, real.has w.memories z.0 i))))
    closed r z (i, inr broke) =
        let done = all_done emitted own.output_events_are own.status_is in
        rw broke.1.1 (fault_true broke.1.0 z.0, (left z i, inr (broke.0, search (rules, done))))

  -- After a fault no second one is reported.
  with_fault : (at : Standing) (emitted : List OutputEvent) (y z : Spot real.P) → ending_output plan (status_of at) ≡ []
      → status_of at ≡ 1
      → AfterActions part real s At Fails (actions plan) m at emitted y → real.memories z.0 ≡ real.memories y.0
      → AtEnd plan real m Fails 1 emitted z
  with_fault at emitted y z none one (rests, inl own) kept =
      let first = first_done y rests in
      let is = real.has w.memories y.0 (pass.idle w.memories y own.left) in search rules
  with_fault at emitted y z none one (rests, inr broken) kept = let first = first_done y rests in search rules

  -- The end of a session, by whether there was a fault.
  ending_prints : (at : Standing) (emitted : List OutputEvent) (y : Spot real.P)
      → AfterActions part real s At Fails (actions plan) m at emitted y
      → Prints real.device True (λ x. AtMoment plan real m (emitted ++ x))
      (λ b x. AtEnd plan real m Fails (status_of b) (emitted ++ x))
      (ending part s at) y
  ending_prints NoFault emitted y (rests, inl own) =
      prints_reported real.device True (closing_output s.quiet part) (pass.closes w.memories y own.left)
      (λ z i. (
        left emitted y rests own z i,
        inr (inl (all_done (emitted ++ []) (append-nil emitted ∙ own.output_events_are) own.status_is)),
      ))
      (closed emitted y rests own)
  ending_prints NoFault emitted y (rests, inr broken) = absurd (broken.faulty refl)
  ending_prints Faulty emitted y after =
      let before = memories_after_steps part after.0.count (steps_of_items part (items plan)) m in
      let left : (z : Spot real.P) → HasMemories real before z.0 → AtEnd plan real m Fails 1 (emitted ++ []) z =
      λ z i. subst (λ x. AtEnd plan real m Fails 1 x z) (sym (append-nil emitted))
      (with_fault Faulty emitted y z refl refl after (real.has before z.0 i
      ∙ sym (real.has before y.0 after.0.stands))) in
      prints_then real.device True (λ x z now. now)
      (prints_reported real.device True {Then = λ at x z. AtEnd plan real m Fails 1 (emitted ++ x) z} (λ _. [])
      (on_link real.device (closing_goes real.device (HasMemories real before) (real.leaves before) y.0 after.0.stands))
      (λ z i. at_last plan real m Fails 1 (emitted ++ []) z (left z i)) (λ r z x. (tt, left z x.0)))
      (λ closed x z a. stops real.device True (λ b v. AtEnd plan real m Fails (status_of b) (emitted ++ v)) Over x z a)
  ending_prints Over emitted y after = search (rules, with_fault Over emitted y y refl refl after refl)

  -- The whole session: its output, its status and the memories.
  pub session_prints : ActionTrue part real s True OpenSession m → ActionsTrue part real s True (work plan) m
      → (z : Spot real.P) → CallHasOutcome part real s At Fails OpenSession m z
      → Prints real.device True (AtMoment plan real m) (AtEnd plan real m Fails) (session plan) z
  unfolding session
  session_prints opening_true work_true z opened =
      prints_then real.device True (λ x y now. now)
      (prints_then real.device True (λ x y now. (first_done y now.0, inr (inl now.1)))
      (prints_first_action part sound real s True fault_true At Fails pass OpenSession (work plan) m tt f z opening_true
      opened (search (rules, actions_print, work_fits))) ending_prints)
      (λ at emitted y a. stops real.device True (AtEnd plan real m Fails) (status_of at) emitted y a)
