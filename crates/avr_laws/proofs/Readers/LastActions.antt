-- A session over a device of which only reading is believed: after status 0 the actions at its end, which only read,
-- found what they compared.
use Rattle.std.proofs.Common.{◌≡◌, ◌∙◌, ℕ, List, [], ◌∷◌, ◌++◌, ap, refl, sym, subst, arith, inl, inr, rules}
use Rattle.std.specs.Prelude.{⊤}
use Rattle.avr_io.specs.OutputEvents.{OutputEvent}
use Rattle.avr_part.specs.Part.{Part, IsPart}
use Rattle.avr_part.specs.declared.part.Mem.{Mem}
use Rattle.avr_plan.specs.Plan.{Plan}
use Rattle.avr_plan.specs.declared.settings.Switches.{Switches}
use Rattle.avr_session.specs.Actions.{Action, OpenSession, EraseChip, WriteImage, CompareImage, SaveMemory, SkipAction}
use Rattle.avr_session.specs.PlanSteps.{action_steps}
use Rattle.avr_session.specs.Session.{reported, unless_fault, action_dialog, actions_dialog, closing_output, ending, session, session_dialog, status_of}
use Rattle.avr_session.specs.Standing.{Standing, NoFault, Faulty, Over}
use Rattle.stk_emu.specs.Device.{Device}
use Rattle.stk_emu.specs.DialogOverExchanges.{state_after}
use Rattle.stk_emu.specs.Effect.{Memories, effects}
use Rattle.stk_emu.specs.Exchange.{Exchange, Execution, NotExecuted, Executed, ThenRestarted, AsIntended, Disturbed, ThenRestarts, after_exchange, after_execution, first_exchange}
use Rattle.stk_emu.specs.Settled.{FitsPart}
use Rattle.stk_host.specs.Dialog.{Dialog, Done, Emit, Ask}
use Rattle.stk_host.specs.Operations.{closing}
use Rattle.avr_tool.proofs.Each.{Each}
use Rattle.avr_tool.proofs.Hosts.OneLink.{Spot, on_link}
use Rattle.avr_tool.proofs.Hosts.Operations.{closing_goes}
use Rattle.avr_tool.proofs.Hosts.Outputs.{Anything, Prints, PrintsFrom, any_outputs, at_moment, prints_reported, prints_then, prints_wider}
use Rattle.avr_tool.proofs.Memories.ExpectedAgrees.{agrees_for_actions}
use Rattle.avr_tool.proofs.OverFaultyLink.EachAction.{ActionsTrue, AfterActions, fault_output, actions_print}
use Rattle.avr_tool.proofs.OverFaultyLink.Sessions.{anyhow}
use Rattle.avr_tool.proofs.Plans.Calls.{outcome_of, outcome_output}
use Rattle.avr_tool.proofs.Plans.Fits.{AllFitActions, work}
use Rattle.avr_tool.proofs.Plans.Standings.{faulty_fine, over_fine}
use Rattle.avr_tool.proofs.Real.{ActionsWork, HasMemories, Real, Settled}
use Rattle.avr_tool.specs.ComparisonsAgree.{EachComparisonAgrees}
use Rattle.avr_tool.specs.Items.{action_items, actions_items}
use Rattle.avr_laws.proofs.Table.RealOf.{ActionsWorkBy, StepsWork, actions_work, real_of}
use Rattle.avr_laws.proofs.Readers.ReadRows.{reading_works}
use Rattle.avr_laws.specs.Reader.{IsReader, ReadsOneOf}

-- the action writes nothing, and reads only such a memory
abbrev pub ReadsAction : (Mem → Type 0) → Action → Type 0
ReadsAction Reads (CompareImage mem image) = Reads mem
ReadsAction Reads (SaveMemory mem format file) = Reads mem
ReadsAction Reads (SkipAction what) = Unit {0}
ReadsAction Reads action = ⊥

-- actions that write nothing leave the memories
reads_leave : (Reads : Mem → Type 0) (part : Part) (actions : List Action) (x : Memories)
    → Each (ReadsAction Reads) actions → effects part (actions_items actions) x ≡ x
reads_leave Reads part [] x each = refl
reads_leave Reads part (CompareImage mem image ∷ actions) x each = reads_leave Reads part actions x each.1
reads_leave Reads part (SaveMemory mem format file ∷ actions) x each = reads_leave Reads part actions x each.1
reads_leave Reads part (SkipAction what ∷ actions) x each = reads_leave Reads part actions x each.1
reads_leave Reads part (OpenSession ∷ actions) x each = absurd each.0
reads_leave Reads part (EraseChip ∷ actions) x each = absurd each.0
reads_leave Reads part (WriteImage mem image ∷ actions) x each = absurd each.0

-- status 0 means no fault
succeeded : (at : Standing) → status_of at ≡ 0 → at ≡ NoFault
succeeded at e = grind arith

-- what is used of a reader
record ReadsTruly {part : Part} (real : Real part) (IsIn : real.P → Type 0) (Reads : Mem → Type 0) : Type 0 where
  settled : (p : real.P) → IsIn p → Settled real (real.memories p) p
  is_in : (x : Memories) (p : real.P) → HasMemories real x p → IsIn p
  executed : (bytes : List ℕ) (p : real.P) → IsIn p → IsIn (real.device.after bytes p)
  restarted : (p : real.P) → IsIn p → IsIn (real.device.reset p)
  sizes : (p : real.P) → IsIn p → FitsPart part (real.memories p)
  works : (actions : List Action) (x : Memories) → Each (ReadsAction Reads) actions → ActionsWork real actions x

module _ {part : Part} (sound : IsPart part) (real : Real part) (IsIn : real.P → Type 0) (Reads : Mem → Type 0)
    (t : ReadsTruly real IsIn Reads) where
  abbrev m : Device real.P
  m = real.device

  -- ---- no dialog leaves its states

  executed : (execution : Execution) (bytes : List ℕ) (p : real.P) → IsIn p
      → IsIn (after_execution execution (m.after bytes p) p m.reset)
  executed NotExecuted bytes p i = i
  executed Executed bytes p i = t.executed bytes p i
  executed (ThenRestarted execution) bytes p i = t.restarted _ (executed execution bytes p i)

  -- by an exchange
  exchanged : (one : Exchange) (bytes : List ℕ) (p : real.P) → IsIn p
      → IsIn (after_exchange one (m.after bytes p) p m.reset)
  exchanged AsIntended bytes p i = t.executed bytes p i
  exchanged (Disturbed execution instead) bytes p i = executed execution bytes p i
  exchanged (ThenRestarts one) bytes p i = t.restarted _ (exchanged one bytes p i)

  -- what holds at the end of a dialog, whatever it emitted
  abbrev Goes : {R : Type 0} → (R → Spot real.P → Type 0) → Dialog OutputEvent R → Spot real.P → Type 0
  Goes AfterActions d z = Prints m Anything (λ emitted y. ⊤) (λ r emitted y. AfterActions r y) d z

  -- each dialog leaves the programmer in these states
  stays_in : {R : Type 0} (d : Dialog OutputEvent R) (z : Spot real.P) → IsIn z.0
      → PrintsFrom m Anything (λ emitted y. ⊤) (λ r emitted y. IsIn y.0) d z
  stays_in (Done r) z i = i
  stays_in (Emit event d) z i = (tt, stays_in d z i)
  stays_in (Ask bytes go_on) z i = (tt, stays_in (go_on _) _ (exchanged (first_exchange z.1) bytes z.0 i))

  module _ (s : Switches) where
    -- what holds after actions, if there was no fault
    abbrev Then : (Memories → Type 0) → Standing → Spot real.P → Type 0
    Then Claim at y = IsIn y.0 × (at ≡ NoFault → Claim (real.memories y.0))

    -- ---- actions that only read

    -- whatever actions put out
    anything : (actions : List Action) (x : Memories) → ActionsTrue part real s Anything actions x
    anything [] x = tt
    anything (action ∷ actions) x = (
      λ q is. any_outputs (outcome_output part s action (outcome_of part action x)) q,
      anything actions (effects part (action_items action) x),
    )

    module _ (rest : List Action) (fits : AllFitActions part rest) (reads : Each (ReadsAction Reads) rest) where
      abbrev RestAgrees : Memories → Type 0
      RestAgrees x = EachComparisonAgrees part rest x

      -- after actions that only read, without a fault, their comparisons agree
      rest_found : (x : Memories) (at : Standing) (emitted : List OutputEvent) (y : Spot real.P)
          → AfterActions part real s (λ x z. Settled real x z.0) ⊤ rest x at emitted y → Then RestAgrees at y
      rest_found x at emitted y (rests, inl own) = (
        t.is_in _ y.0 rests.stands,
        λ fine.
            let agreement = agrees_for_actions part s rest x in
            let no_fault = own.status_is ∙ ap status_of fine in
            let has = real.has _ y.0 (real.idle _ y.0 own.left) in
            subst RestAgrees (sym (has ∙ (agreement.memories no_fault ∙ reads_leave Reads part rest x reads)))
            (agreement.if_fine no_fault),
      )
      rest_found x at emitted y (rests, inr broken) = (t.is_in _ y.0 rests.stands, λ fine. absurd (broken.faulty fine))

      -- so it is with their dialog
      rest_goes : (y : Spot real.P) → IsIn y.0 → Goes (Then RestAgrees) (actions_dialog part s rest) y
      rest_goes y i = prints_wider m Anything (λ emitted z now. tt) (rest_found (real.memories y.0))
          (actions_print part sound real s Anything (λ fault q. any_outputs (fault_output part fault) q)
          (λ x z. Settled real x z.0) ⊤ (anyhow part sound real s) rest (real.memories y.0) y fits (t.sizes y.0 i)
          (t.works rest (real.memories y.0) reads) (anything rest (real.memories y.0)) (t.settled y.0 i))

    -- ---- after any actions

    module _ (Claim : Memories → Type 0) where
      -- a dialog that a fault leaves out
      unless_goes : (next : Dialog OutputEvent Standing) → ((z : Spot real.P) → IsIn z.0 → Goes (Then Claim) next z)
          → (at : Standing) (emitted : List OutputEvent) (z : Spot real.P) → IsIn z.0
          → Goes (Then Claim) (unless_fault next at) z
      unless_goes next goes at emitted z i = grind (arith, faulty_fine, over_fine)

      -- so it is after any other actions
      after_others : (done rest : List Action)
          → ((y : Spot real.P) → IsIn y.0 → Goes (Then Claim) (actions_dialog part s rest) y) → (y : Spot real.P)
          → IsIn y.0 → Goes (Then Claim) (actions_dialog part s (done ++ rest)) y
      after_others [] rest goes y i = goes y i
      after_others (action ∷ done) rest goes y i =
          prints_then m Anything (λ emitted z now. now) (record { holds = stays_in (action_dialog part s action) y i })
          (unless_goes (actions_dialog part s (done ++ rest)) (λ z i. after_others done rest goes z i))

      abbrev AtEnd : Standing → Spot real.P → Type 0
      AtEnd at y = at ≡ NoFault → Claim (real.memories y.0)

      -- leaving programming mode keeps the memories
      ending_goes : (at : Standing) (y : Spot real.P) → Then Claim at y → Goes AtEnd (ending part s at) y
      ending_goes NoFault y (i, claim) = prints_reported m Anything (closing_output s.quiet part)
          (on_link m (closing_goes m (λ q. HasMemories real (real.memories y.0) q) (real.leaves (real.memories y.0)) y.0
          (real.idle (real.memories y.0) y.0 (t.settled y.0 i))))
          (λ z now. tt)
          (λ r z x. (
            any_outputs (closing_output s.quiet part r) z.0,
            λ fine. subst Claim (sym (real.has (real.memories y.0) z.0 x.0)) (claim refl),
          ))
      ending_goes Faulty y (i, claim) = prints_then m Anything (λ emitted z now. now)
          (record { holds = stays_in (reported closing (λ r. [])) y i }) over
        where
          over : (closed : Standing) (emitted : List OutputEvent) (z : Spot real.P) → IsIn z.0
              → Goes AtEnd (Done Over) z
          over closed emitted z i = record { holds = λ fine. over_fine fine }
      ending_goes Over y (i, claim) = record { holds = λ fine. over_fine fine }

-- ---- a whole session

module _ (plan : Plan) (sound : IsPart plan.part) (real : Real plan.part) (IsIn : real.P → Type 0)
    (Reads : Mem → Type 0) (t : ReadsTruly real IsIn Reads) (done rest : List Action) (are : work plan ≡ done ++ rest)
    (fits : AllFitActions plan.part rest) (reads : Each (ReadsAction Reads) rest) where
  abbrev s : Switches
  s = plan.switches

  abbrev Agrees : Memories → Type 0
  Agrees x = EachComparisonAgrees plan.part rest x

  abbrev Fine : Standing → Spot real.P → Type 0
  Fine at y = at ≡ NoFault → Agrees (real.memories y.0)

  -- so it is with a session's actions
  dialog_goes : (z : Spot real.P) → IsIn z.0 → Goes sound real IsIn Reads t Fine (session_dialog plan) z
  dialog_goes z i = prints_then real.device Anything (λ emitted y now. now)
      (subst (λ (all : List Action). Goes sound real IsIn Reads t (Then sound real IsIn Reads t s Agrees)
      (actions_dialog plan.part s (OpenSession ∷ all)) z) (sym are)
      (after_others sound real IsIn Reads t s Agrees (OpenSession ∷ done) rest
      (rest_goes sound real IsIn Reads t s rest fits reads) z i))
      (λ at emitted y held. ending_goes sound real IsIn Reads t s Agrees at y held)

  -- and with the session
  session_goes : (z : Spot real.P) → IsIn z.0
      → Goes sound real IsIn Reads t (λ status y. status ≡ 0 → Agrees (real.memories y.0)) (session plan) z
  unfolding session
  session_goes z i = search (rules, prints_then, dialog_goes, succeeded)

  -- at its end
  after_session : (p : real.P) → IsIn p → (exchanges : List Exchange) (k : ℕ)
      → (state_after real.device k (session plan) p exchanges).dialog ≡ Done 0
      → Agrees (real.memories (state_after real.device k (session plan) p exchanges).programmer)
  after_session p i exchanges k ended =
      (at_moment real.device Anything (λ status emitted y at. tt) k (session_goes (p, exchanges) i)).after 0 ended refl

-- ---- over a reader

module _ {P : Type 0} (part : Part) (sound : IsPart part) (m : Device P) (view : P → Memories) (IsIn : P → Type 0)
    (Reads : Mem → Type 0) (t : IsReader part m view IsIn Reads) where
  -- a reader does what an action reads
  action_works : (action : Action) (x : Memories) → ReadsAction Reads action
      → StepsWork part (ReadsOneOf Reads part) (action_steps part action) x
  action_works action x reads = grind (arith, reading_works)

  -- so it does for all actions
  each_works : (actions : List Action) (x : Memories) → Each (ReadsAction Reads) actions
      → ActionsWorkBy part (ReadsOneOf Reads part) actions x
  each_works [] x each = tt
  each_works (action ∷ actions) x (reads, others) =
      (action_works action x reads, each_works actions (effects part (action_items action) x) others)

-- so after status 0 the last comparisons agree
pub session_agrees : {P : Type 0} (plan : Plan) → IsPart plan.part → (m : Device P) (view : P → Memories)
    (IsIn : P → Type 0) (Reads : Mem → Type 0) → IsReader plan.part m view IsIn Reads → (done rest : List Action)
    → work plan ≡ done ++ rest → AllFitActions plan.part rest → Each (ReadsAction Reads) rest → (p : P) → IsIn p
    → (exchanges : List Exchange) (k : ℕ) → (state_after m k (session plan) p exchanges).dialog ≡ Done 0
    → EachComparisonAgrees plan.part rest (view (state_after m k (session plan) p exchanges).programmer)
unfolding real_of
session_agrees plan sound m view IsIn Reads t done rest are fits reads p i exchanges k ended =
    after_session plan sound (real_of plan.part sound m view IsIn IsIn (ReadsOneOf Reads plan.part) t.keeps) IsIn Reads
    (record {
      settled = λ q i. record { memories = refl; is = i };
      is_in = λ x q s. s.is;
      executed = t.stays;
      restarted = λ q i. (t.keeps.restarts q i).is;
      sizes = t.sizes;
      works = search (rules, actions_work, each_works);
    })
    done rest are fits reads p i exchanges k ended
