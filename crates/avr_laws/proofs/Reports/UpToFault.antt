-- The output of a session is that of its expected run, up to the first action that doesn't complete.
use Rattle.std.proofs.Common.{◌≡◌, ℕ, zero, suc, List, [], ◌∷◌, ◌++◌, append_assoc, refl, sym, ap, ◌∙◌, All, Option, Some, None, rules}
use Rattle.std.specs.Prelude.{⊤}
use Rattle.avr_plan.specs.declared.settings.Switches.{Switches}
use Rattle.avr_io.specs.OutputEvents.{OutputEvent}
use Rattle.avr_part.specs.Part.{Part, IsPart}
use Rattle.avr_plan.specs.Plan.{Plan, IsFitted}
use Rattle.avr_session.specs.Actions.{Action, actions}
use Rattle.avr_session.specs.Session.{session}
use Rattle.stk_host.specs.Dialog.{Done, played, outputs}
use Rattle.stk_host.specs.Tape.{Tape}
use Rattle.stk_emu.specs.DialogOverExchanges.{state_after, outputs_after}
use Rattle.stk_emu.specs.Device.{device}
use Rattle.stk_emu.specs.Effect.{Memories}
use Rattle.stk_emu.specs.Programmer.{Programmer}
use Rattle.stk_emu.specs.Settled.{HasMemories, FitsPart}
use Rattle.stk_emu.specs.Exchange.{Exchange, Execution}
use Rattle.avr_tool.proofs.OverFaultyLink.FrameSizes.{session_asks}
use Rattle.avr_laws.proofs.Lines.AnyTape.{goes_as}
use Rattle.stk_host.specs.ReadSteps.{signature_steps}
use Rattle.avr_tool.proofs.Emulated.{actions_work, all_work, emulated}
use Rattle.avr_tool.proofs.Hosts.Outputs.{Printed}
use Rattle.avr_tool.proofs.OverFaultyLink.Outcomes.{session_along}
use Rattle.avr_tool.proofs.OverFaultyLink.Sessions.{AtEnd, AtMoment}
use Rattle.avr_tool.proofs.Plans.Fits.{work}
use Rattle.avr_laws.specs.AnyTape.{GoesAlongExchanges}
use Rattle.avr_tool.specs.Authentic.{RepliesAreAuthentic}
use Rattle.avr_tool.specs.ExpectedRun.{Expected, next_unless_fault, action_expected, actions_expected, ending_output, expected_run}
use Rattle.avr_laws.specs.AnyLink.{EndsAsExpected}
use Rattle.avr_tool.specs.ExpectedOutput.{FirstActionsOutput, IsExpectedOutput}

module _ (plan : Plan) (sound : IsPart plan.part) (fitted : All (IsFitted plan.part) plan.tasks) (m : Memories)
    (f : FitsPart plan.part m) where
  -- what a session puts out is what its plan lets it put out
  along : (k : ℕ) (p : Programmer) (exchanges : List Exchange) → HasMemories plan.part m p
      → Printed device (AtMoment plan (emulated plan.part sound) m) (AtEnd plan (emulated plan.part sound) m ⊤) k
      (session plan) (p, exchanges)
  along k p exchanges idle = session_along plan sound (emulated plan.part sound) m f fitted
      (all_work plan.part sound signature_steps m) (actions_work plan.part sound (work plan) m) p exchanges idle k

  -- AT EACH MOMENT, and at its end
  pub expected_now : (k : ℕ) (p : Programmer) (exchanges : List Exchange) → HasMemories plan.part m p
      → IsExpectedOutput plan m (outputs_after device k (session plan) p exchanges)
  expected_now k p exchanges idle = (along k p exchanges idle).now.1

  pub expected_end : (k status : ℕ) (p : Programmer) (exchanges : List Exchange) → HasMemories plan.part m p
      → (state_after device k (session plan) p exchanges).dialog ≡ Done status
      → EndsAsExpected plan m (outputs_after device k (session plan) p exchanges) status
  expected_end k status p exchanges idle e = search (rules, along k p exchanges idle)

  -- and in a play over any tape that is authentic
  pub expected_on_tape : (p : Programmer) (tape : Tape) (executions : List Execution) → HasMemories plan.part m p
      → RepliesAreAuthentic device (session plan) 1 tape p executions
      → IsExpectedOutput plan m (outputs (played (session plan) 1 tape).events)
  expected_on_tape p tape executions idle is_authentic = by_outcome (played (session plan) 1 tape).outcome refl
    where
      goes : GoesAlongExchanges device (session plan) 1 tape p executions
      goes = goes_as device (session plan) 1 tape p executions (session_asks plan sound fitted) is_authentic

      by_outcome : (o : Option (ℕ × ℕ × Tape)) → (played (session plan) 1 tape).outcome ≡ o
          → IsExpectedOutput plan m (outputs (played (session plan) 1 tape).events)
      by_outcome None e =
          let w = goes.waits e in
          search (rules, expected_now)
      by_outcome (Some (status, seq, left)) e =
          let got = goes.outcome status seq left e in
          search (rules, expected_now)

-- ---- the output of first actions is a prefix of the expected run's

then_at : (first : Expected) (next : Memories → Expected) (status : ℕ) → first.status ≡ status
    → next_unless_fault first first.status next ≡ next_unless_fault first status next
then_at first next status e = ap (λ x. next_unless_fault first x next) e

-- if there was no fault after both, there was none after the first
was_fine : (first : Expected) (next : Memories → Expected) (status : ℕ) → first.status ≡ status
    → (next_unless_fault first first.status next).status ≡ 0 → first.status ≡ 0
was_fine first next zero is fine = is
was_fine first next (suc fault) is fine = ap (λ x. x.status) (sym (then_at first next (suc fault) is)) ∙ fine

-- the output of the first actions begins the output of all
actions_prefix : (part : Part) (s : Switches) (done more : List Action) (m : Memories)
    → (actions_expected part s done m).status ≡ 0
    → (later : List OutputEvent) × ((actions_expected part s (done ++ more) m).output_events
    ≡ (actions_expected part s done m).output_events ++ later)
actions_prefix part s [] more m fine = ((actions_expected part s more m).output_events, refl)
actions_prefix part s (action ∷ done) more m fine =
    let c = action_expected part s action m in
    let stands = was_fine c (actions_expected part s done) c.status refl fine in
    let on = then_at c (actions_expected part s done) 0 stands in
    let rest = actions_prefix part s done more c.memories (sym (ap (λ x. x.status) on) ∙ fine) in
    search (rules, then_at, append_assoc)

pub first_prefix : (plan : Plan) (m : Memories) (output_events : List OutputEvent)
    → FirstActionsOutput plan.part plan.switches (actions plan) m output_events
    → (later : List OutputEvent) × ((expected_run plan m).output_events ≡ output_events ++ later)
first_prefix plan m output_events first =
    let prefix = actions_prefix plan.part plan.switches first.done first.more m first.fine in
    let ending = ending_output plan (actions_expected plan.part plan.switches (actions plan) m).status in (
      prefix.0 ++ ending,
      ap (λ xs. xs ++ ending) (search rules) ∙ append_assoc output_events prefix.0 ending,
    )
