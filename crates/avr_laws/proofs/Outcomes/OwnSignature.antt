-- Status 0 without -F means that the chip has the signature of the plan's part.
use Rattle.std.proofs.Common.{◌≡◌, ◌∙◌, arith, inl, inr, sym, ap, subst, refl, ℕ, false, List, [], ◌∷◌, ◌++◌, Option, Some, None, Ok, Err, rules}
use Rattle.std.proofs.lemmas.Bool.{and_parts, cases_Bool, cond-true}
use Rattle.std.proofs.lemmas.Slice.Eq.{bytes_eq-Decides}
use Rattle.std.specs.Prelude.{⊤, Result}
use Rattle.std.specs.Str.{bytes_eq}
use Rattle.avr_plan.specs.declared.settings.Switches.{Switches}
use Rattle.avr_io.specs.OutputEvents.{OutputEvent}
use Rattle.avr_io.specs.Record.{Bytes}
use Rattle.avr_part.specs.Part.{Part}
use Rattle.avr_plan.specs.Plan.{Plan}
use Rattle.avr_session.specs.Actions.{Action, erase_actions, tasks_actions}
use Rattle.avr_session.specs.Session.{emits, standing, reported, unless_fault, opening_output, actions_dialog, ending, session, status_of}
use Rattle.avr_session.specs.Standing.{Standing, NoFault, Faulty, Over}
use Rattle.stk_emu.specs.DialogOverExchanges.{SendsValidBodies}
use Rattle.stk_emu.specs.Effect.{Memories}
use Rattle.stk_emu.specs.Exchange.{Execution, after_exchange, after_execution, IsAuthentic}
use Rattle.stk_emu.specs.Lawful.{IsFrameBody}
use Rattle.stk_frame.proofs.Laws.{cut_first, frame_is_good, frame_is_piece}
use Rattle.stk_frame.specs.Cut.{frames}
use Rattle.stk_frame.specs.Frame.{frame}
use Rattle.stk_host.proofs.Dialogs.Logic.{HoldsFrom, NoOutput}
use Rattle.stk_host.specs.declared.fault.HostFault.{HostFault}
use Rattle.stk_host.specs.declared.fault.StepFault.{StepFault}
use Rattle.stk_host.specs.Dialog.{Dialog, Done, Emit, Ask, ◌>>=◌, Played, played, continue_with_reading, next, bytes_sent, frames_in}
use Rattle.stk_host.specs.Operations.{handshake, host_fault, checked_by, signature_checked, opening, closing}
use Rattle.stk_host.specs.Steps.{StepOutcome}
use Rattle.stk_host.specs.Tape.{Tape, Reading, answer}
use Rattle.avr_tool.proofs.Hosts.AnyExchange.{over_any_exchange}
use Rattle.avr_tool.proofs.Real.{Real, HasMemories, AfterBeginning}
use Rattle.avr_tool.proofs.Lines.InTurn.{IsWhole}
use Rattle.avr_tool.specs.Authentic.{first_execution, later_executions, on_reading, RepliesAreAuthentic}
use Rattle.avr_laws.specs.AnyTape.{exchange_by}
use Rattle.avr_laws.proofs.Lines.AnyTape.{authentic_exchange}

-- ---- runs

abbrev status_in : Option (ℕ × ℕ × Tape) → ℕ
status_in None = 0
status_in (Some result) = result.0

-- a run with status 1 isn't one with status 0
not_zero : (n seq : ℕ) (tape left : Tape)
    → ◌≡◌ {A = Option (ℕ × ℕ × Tape)} (Some (1, n, tape)) (Some (0, seq, left)) → ⊥
not_zero n seq tape left is = let clash : 1 ≡ 0 = ap status_in is in omega (arith, clash)

-- a run that ends went on from a reading
succeeds_by : {R : Type 0} (r : R) (seq : ℕ) (left : Tape) (Claim : Type 0)
    (go_on : Reading → Tape → Played OutputEvent R) (o : Option (Reading × Tape))
    → ((reading : Reading) (rest : Tape) → o ≡ Some (reading, rest) → (go_on reading rest).outcome ≡ Some (r, seq, left)
    → Claim) → (continue_with_reading go_on o).outcome ≡ Some (r, seq, left) → Claim
succeeds_by r seq left Claim go_on o each is = search rules

-- the frames of bytes that begin with one
cut_frame : (f bytes : List ℕ) → IsWhole f → frames (f ++ bytes) ≡ f ∷ frames bytes
cut_frame f bytes whole = search (rules, cut_first, cond-true)

-- a frame is whole and good
frame_is_whole : (n : ℕ) (body : List ℕ) → IsFrameBody body → IsWhole (frame n body)
frame_is_whole n body valid = search (rules, frame_is_piece, and_parts, frame_is_good)

-- the frames of the one run are the first ones of the other
abbrev pub IsFirstPart : {A : Type 0} → Played ⊥ A → Played OutputEvent ℕ → Type 0
IsFirstPart first whole = (more : List (List ℕ)) × (frames (bytes_sent whole.events) ≡ frames_in first.events ++ more)

-- by what is read
first_part_on : {A : Type 0} (first : Reading → Tape → Played ⊥ A) (whole : Reading → Tape → Played OutputEvent ℕ)
    (o : Option (Reading × Tape))
    → ((reading : Reading) (left : Tape) → IsFirstPart (first reading left) (whole reading left))
    → IsFirstPart (continue_with_reading first o) (continue_with_reading whole o)
first_part_on first whole None each = ([], refl)
first_part_on first whole (Some (reading, left)) each = each reading left

module _ (plan : Plan) where
  abbrev s : Switches
  s = plan.switches

  abbrev later : List Action
  later = erase_actions s plan.tasks ++ tasks_actions s plan.tasks

  abbrev pub later_actions : Dialog OutputEvent Standing
  later_actions = actions_dialog plan.part s later

  -- what a session does after an operation at its beginning; and all of it, from the handshake on
  abbrev after : Dialog OutputEvent Standing → Dialog OutputEvent ℕ
  after d = d >>= unless_fault later_actions >>= ending plan.part s >>= λ standing. Done (status_of standing)

  abbrev pub from_handshake : Dialog ⊥ StepOutcome → Dialog OutputEvent ℕ
  from_handshake d = after (reported (d
      >>= λ outcome. Done (checked_by (signature_checked plan.part.signature s.force) outcome))
      (opening_output s.quiet plan.part))

  -- a session is its handshake and what comes after it
  pub session_is : session plan ≡ from_handshake handshake
  unfolding session opening
  session_is = refl

  -- if the session sends valid bodies, its handshake does
  pub sends_valid : (d : Dialog ⊥ StepOutcome) → SendsValidBodies (from_handshake d) → SendsValidBodies d
  sends_valid (Done outcome) valid = tt
  sends_valid (Emit e d) valid = absurd e
  sends_valid (Ask body go_on) valid = (valid.0, λ reading. sends_valid (go_on reading) (valid.1 reading))

  -- the first frames of the session are those of its handshake
  pub first_frames : (dialog : Dialog ⊥ StepOutcome) (n : ℕ) (tape : Tape) → SendsValidBodies dialog
      → IsFirstPart (played dialog n tape) (played (from_handshake dialog) n tape)
  first_frames (Done outcome) n tape valid = (_, refl)
  first_frames (Emit e dialog) n tape valid = absurd e
  first_frames (Ask body go_on) n tape valid =
      let rest = first_part_on (λ reading. played (go_on reading) (next n))
      (λ reading. played (from_handshake (go_on reading)) (next n)) (answer n tape)
      (λ reading left. first_frames (go_on reading) (next n) left (valid.1 reading)) in (
        rest.0,
        search (rules, cut_frame, frame_is_whole),
      )

  -- ---- a session with status 0 took the signature that it found

  -- after a fault no session ends with status 0
  never_fine : (d : Dialog ⊥ (Result ⊤ HostFault)) (n : ℕ) (tape : Tape) (seq : ℕ) (left : Tape)
      → (played (reported d (λ outcome. []) >>= (λ closed. Done Over) >>= λ standing. Done (status_of standing)) n
      tape).outcome ≡ Some (0, seq, left) → ⊥
  never_fine (Done outcome) n tape seq left is = not_zero n seq tape left is
  never_fine (Emit e d) n tape seq left is = absurd e
  never_fine (Ask body go_on) n tape seq left is =
      succeeds_by 0 seq left ⊥ (λ reading. played (reported (go_on reading) (λ outcome. []) >>= (λ closed. Done Over)
      >>= λ standing. Done (status_of standing)) (next n)) (answer n tape)
      (λ reading rest is_read so. never_fine (go_on reading) (next n) rest seq left so) is

  -- so one that does had no fault when it was opened
  no_fault : (outputs : List OutputEvent) (standing : Standing) (n : ℕ) (tape : Tape) (seq : ℕ) (left : Tape)
      → (played (after (emits outputs (Done standing))) n tape).outcome ≡ Some (0, seq, left) → standing ≡ NoFault
  no_fault [] NoFault n tape seq left is = refl
  no_fault [] Faulty n tape seq left is = absurd (never_fine closing n tape seq left is)
  no_fault [] Over n tape seq left is = absurd (not_zero n seq tape left is)
  no_fault (event ∷ outputs) standing n tape seq left is = no_fault outputs standing n tape seq left is

  -- the signature that a chip gave, if it was accepted
  abbrev pub HasAccepted : StepOutcome → Type 0
  HasAccepted outcome = (found : Bytes) × (outcome ≡ Ok found) × (s.force ≡ false → found ≡ plan.part.signature)

  -- a fault is no success
  pub no_host_fault : (fault : StepFault) → standing {A = Bytes} (Err (host_fault fault)) ≡ NoFault → ⊥
  no_host_fault fault is = search rules

  -- a signature that was accepted is the part's, or `-F` was given
  pub accepted : (outcome : StepOutcome)
      → standing (checked_by (signature_checked plan.part.signature s.force) outcome) ≡ NoFault → HasAccepted outcome
  accepted (Ok found) fine = (
    found,
    refl,
    λ unforced. elim (cases_Bool (bytes_eq found plan.part.signature)) [
      | inl same ↦ search (rules, bytes_eq-Decides)
      | inr differs ↦ absurd (cc (rw (unforced, differs) at fine))
    ],
  )
  accepted (Err fault) fine = absurd (no_host_fault fault fine)

  -- ---- over a link that forges no frame it is the chip's

  module _ (part : Part) (real : Real part) (m : Memories) where
    abbrev Begins : Dialog ⊥ StepOutcome → real.P → Type 0
    Begins d p = HoldsFrom (over_any_exchange real.device) (λ body q. HasMemories real m q) NoOutput
        (AfterBeginning real m) d p

    -- so the chip's signature is the part's
    pub own_signature : (d : Dialog ⊥ StepOutcome) (n : ℕ) (tape : Tape) (p : real.P) (executions : List Execution)
        (seq : ℕ) (left : Tape) → Begins d p → RepliesAreAuthentic real.device d n tape p executions
        → (played (from_handshake d) n tape).outcome ≡ Some (0, seq, left)
        → s.force ≡ false → part.signature ≡ plan.part.signature
    own_signature (Done outcome) n tape p executions seq left begins authentic is unforced =
        let a = accepted outcome (no_fault (opening_output s.quiet plan.part
        (checked_by (signature_checked plan.part.signature s.force) outcome))
        (standing (checked_by (signature_checked plan.part.signature s.force) outcome)) n tape seq left is) in
        let found : a.0 ≡ part.signature =
        (subst (λ (o : StepOutcome). AfterBeginning real m o p) a.1 begins).1 in
        sym found ∙ a.2 unforced
    own_signature (Emit e d) n tape p executions seq left begins authentic is unforced = absurd e
    own_signature (Ask body go_on) n tape p executions seq left begins authentic is unforced =
        succeeds_by 0 seq left (part.signature ≡ plan.part.signature)
        (λ reading. played (from_handshake (go_on reading)) (next n)) (answer n tape)
        (λ reading rest e so.
        let read = subst (on_reading
        (λ reading rest. IsAuthentic real.device body p (first_execution executions) reading
        × RepliesAreAuthentic real.device (go_on reading) (next n) rest
        (after_execution (first_execution executions) (real.device.after body p) p real.device.reset)
        (later_executions executions))) e authentic in
        let exchange = authentic_exchange real.device body p (first_execution executions) reading read.0 in
        own_signature (go_on reading) (next n) rest
        (after_execution (first_execution executions) (real.device.after body p) p real.device.reset)
        (later_executions executions) seq left
        (subst (λ (q : real.P). Begins (go_on reading) q) exchange.1
        (subst (λ (r : Reading). Begins (go_on r) (after_exchange (exchange_by (first_execution executions) reading)
        (real.device.after body p) p real.device.reset)) exchange.0
        (begins.1 (exchange_by (first_execution executions) reading)))) read.1 so unforced) is
