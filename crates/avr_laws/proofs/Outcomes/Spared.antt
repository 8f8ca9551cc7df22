-- Without -F a chip of another signature is left as it was, whatever the status.
use Rattle.std.proofs.Common.{◌≡◌, ◌∙◌, ℕ, All, false, List, [], ◌++◌, length, refl, sym, subst, Ok, Err, Result, rules}
use Rattle.avr_io.specs.OutputEvents.{OutputEvent}
use Rattle.avr_io.specs.Record.{Bytes}
use Rattle.avr_part.specs.Part.{Part, IsPart}
use Rattle.avr_plan.specs.Plan.{Plan, IsFitted}
use Rattle.avr_session.specs.Session.{ending, opening_output, reported, session, standing, status_of, unless_fault}
use Rattle.avr_session.specs.Standing.{Standing, NoFault, Faulty, Over}
use Rattle.avr_tool.proofs.Hosts.AnyExchange.{Keeps}
use Rattle.avr_tool.proofs.Hosts.OneLink.{Spot, on_link}
use Rattle.avr_tool.proofs.Hosts.Operations.{beginning_goes, closing_goes}
use Rattle.avr_tool.proofs.Hosts.Outputs.{Anything, Prints, any_outputs, at_moment, prints_reported, prints_then, stops}
use Rattle.avr_tool.proofs.OverFaultyLink.FrameSizes.{session_asks}
use Rattle.avr_tool.proofs.Real.{AfterBeginning, AllWork, HasMemories, Real, settled_idle}
use Rattle.stk_emu.specs.DialogOverExchanges.{state_after}
use Rattle.stk_emu.specs.Effect.{Memories}
use Rattle.stk_emu.specs.Exchange.{Exchange, Execution}
use Rattle.stk_emu.specs.Settled.{FitsPart}
use Rattle.stk_frame.specs.Cut.{frames}
use Rattle.stk_host.proofs.Dialogs.Logic.{outcome_mapped}
use Rattle.stk_host.specs.declared.fault.HostFault.{HostFault}
use Rattle.stk_host.specs.Dialog.{Dialog, Done, ◌>>=◌, bytes_sent, played}
use Rattle.stk_host.specs.Operations.{checked_by, handshake, signature_checked}
use Rattle.stk_host.specs.Play.{IsBytePrefixOf}
use Rattle.stk_host.specs.ReadSteps.{signature_steps}
use Rattle.stk_host.specs.Steps.{StepOutcome}
use Rattle.stk_host.specs.Transcript.{Transcript, heard, sent}
use Rattle.avr_laws.specs.AnyTape.{after_sent_frames}
use Rattle.avr_laws.specs.Kept.{NoneForged}
use Rattle.avr_laws.proofs.Outcomes.Begun.{left_along}
use Rattle.avr_laws.proofs.Outcomes.OwnSignature.{accepted, later_actions, no_host_fault, session_is}

module _ (plan : Plan) (part : Part) (sound : IsPart part) (real : Real part) (unforced : plan.switches.force ≡ false)
    (other : part.signature ≡ plan.part.signature → ⊥) (m : Memories) (f : FitsPart part m)
    (signs : AllWork real signature_steps m) where
  abbrev Kept : List OutputEvent → Spot real.P → Type 0
  Kept emitted y = HasMemories real m y.0

  -- the memories are kept, and there was a fault
  abbrev Refused : Standing → List OutputEvent → Spot real.P → Type 0
  Refused at emitted y = (at ≡ NoFault → ⊥) × HasMemories real m y.0

  -- what is made of the signature that was found
  abbrev judged : StepOutcome → Result Bytes HostFault
  judged outcome = checked_by (signature_checked plan.part.signature plan.switches.force) outcome

  -- a handshake over this chip gives its signature, which is refused
  refused_there : (o : StepOutcome) (q : real.P) → AfterBeginning real m o q
      → (standing (judged o) ≡ NoFault → ⊥) × HasMemories real m q
  refused_there (Ok found) q a = (
    λ fine.
        let a' = accepted plan (Ok found) fine in
        let same : found ≡ a'.0 = cc a'.1 in
        other (sym a.1 ∙ (same ∙ a'.2 unforced)),
    settled_idle real m q a.0,
  )
  refused_there (Err fault) q i = (no_host_fault plan fault, i)

  -- so opening the session ends in a fault
  began : (q : real.P) → HasMemories real m q → Keeps real.device (HasMemories real m)
      (λ (r : Result Bytes HostFault) q. (standing r ≡ NoFault → ⊥) × HasMemories real m q)
      (handshake >>= λ outcome. Done (judged outcome)) q
  began q idle = outcome_mapped judged (beginning_goes part sound real m q f signs idle) refused_there

  -- opening the session keeps the memories
  opening_spares : (z : Spot real.P) → HasMemories real m z.0 → Prints real.device Anything Kept Refused
      (reported (handshake >>= λ outcome. Done (judged outcome)) (opening_output plan.switches.quiet plan.part)) z
  opening_spares z idle = search (rules, prints_reported, on_link, began, any_outputs)

  -- after a fault no action comes
  no_more : (next : Dialog OutputEvent Standing) (at : Standing) (emitted : List OutputEvent) (y : Spot real.P)
      → Refused at emitted y → Prints real.device Anything (λ x. Kept (emitted ++ x))
      (λ b x. Refused b (emitted ++ x)) (unless_fault next at) y
  no_more next at emitted y r = search (rules, stops)

  -- the end of the session keeps them, too
  ends : (at : Standing) (emitted : List OutputEvent) (y : Spot real.P) → Refused at emitted y
      → Prints real.device Anything (λ x. Kept (emitted ++ x)) (λ (b : Standing) x. Kept (emitted ++ x))
      (ending plan.part plan.switches at) y
  ends NoFault emitted y r = absurd (r.0 refl)
  ends Faulty emitted y r =
      prints_then real.device Anything (λ x z now. now)
      (prints_reported real.device Anything {Then = λ (at : Standing) x z. Kept x z} (λ _. [])
      (on_link real.device (closing_goes real.device (HasMemories real m) (real.leaves m) y.0 r.1)) (λ z i. i)
      (λ b z x. (tt, x.0)))
      (λ closed x z i. stops real.device Anything (λ (at : Standing) x z. Kept x z) Over x z i)
  ends Over emitted y r = stops real.device Anything (λ (at : Standing) x z. Kept x z) Over emitted y r.1

  -- so does the session
  session_prints : (z : Spot real.P) → HasMemories real m z.0
      → Prints real.device Anything Kept (λ (status : ℕ) x y. Kept x y) (session plan) z
  session_prints z idle =
      subst (λ (d : Dialog OutputEvent ℕ). Prints real.device Anything Kept (λ (status : ℕ) x y. Kept x y) d z)
      (sym (session_is plan))
      (prints_then real.device Anything (λ x y i. i)
      (prints_then real.device Anything (λ x y i. i)
      (prints_then real.device Anything (λ x y i. i) (opening_spares z idle) (no_more (later_actions plan))) ends)
      (λ at emitted y i. stops real.device Anything (λ (status : ℕ) x y. Kept x y) (status_of at) emitted y i))

  -- at each moment
  session_spares : (k : ℕ) (p : real.P) (exchanges : List Exchange) → HasMemories real m p
      → HasMemories real m (state_after real.device k (session plan) p exchanges).programmer
  session_spares k p exchanges idle =
      (at_moment real.device Anything (λ status x y i. i) k (session_prints (p, exchanges) idle)).now

-- so does a run, whole or not
pub spared : (plan : Plan) → All (IsFitted plan.part) plan.tasks → IsPart plan.part → (passed : Transcript)
    → IsBytePrefixOf (sent passed) (bytes_sent (played (session plan) 1 (heard passed)).events)
    → (part : Part) (sound : IsPart part) (real : Real part) → plan.switches.force ≡ false
    → (part.signature ≡ plan.part.signature → ⊥) → (p : real.P) → FitsPart part (real.memories p)
    → HasMemories real (real.memories p) p → AllWork real signature_steps (real.memories p)
    → (executions : List Execution)
    → NoneForged real.device (frames (sent passed)) (heard passed) p executions []
    → real.memories (after_sent_frames real.device (frames (sent passed)) executions p) ≡ real.memories p
spared plan fitted here passed prefix part sound real unforced other p sizes idle signs executions none =
    let count = length (frames (sent passed)) in
    let along = left_along (session plan) (session_asks plan here fitted) (heard passed) (sent passed) prefix
    real.device p executions none in
    subst (λ (q : real.P). real.memories q ≡ real.memories p) along.1
    (real.has (real.memories p) (state_after real.device count (session plan) p along.0).programmer
    (session_spares plan part sound real unforced other (real.memories p) sizes signs count p along.0 idle))
