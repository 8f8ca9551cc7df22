-- Status 0 means the plan, by what was sent and received alone.
use Rattle.std.proofs.Common.{◌≡◌, ◌⊎◌, ℕ, All, List, [], ◌∷◌, ◌++◌, take, sym, ap, arith, ◌∙◌, append-nil, inl, inr, subst, Option, Some, None, rules}
use Rattle.std.specs.Prelude.{false}
use Rattle.avr_plan.specs.declared.settings.Settings.{Settings}
use Rattle.avr_io.specs.OutputEvents.{OutputEvent}
use Rattle.avr_io.specs.Stage.{Produced}
use Rattle.avr_part.specs.Part.{Part, IsPart}
use Rattle.avr_plan.specs.Plan.{Plan, IsFitted}
use Rattle.avr_plan.specs.Planning.{planned}
use Rattle.avr_session.specs.Runs.{Devices}
use Rattle.avr_session.specs.Session.{session}
use Rattle.stk_emu.specs.DialogOverExchanges.{SendsValidBodies}
use Rattle.stk_emu.specs.Device.{Device}
use Rattle.stk_emu.specs.Effect.{Memories, memories_of}
use Rattle.stk_emu.specs.Exchange.{Execution, after_execution}
use Rattle.stk_emu.specs.Settled.{FitsPart}
use Rattle.stk_frame.specs.Cut.{cut, frames}
use Rattle.stk_frame.proofs.Laws.{body_of_frame}
use Rattle.stk_host.proofs.Dialogs.Logic.{Upholds, NoOutput}
use Rattle.stk_host.specs.Dialog.{Dialog, Done, Emit, Ask, Played, bytes_sent, continue_with_reading, frames_in, next, played}
use Rattle.stk_host.specs.Operations.{handshake}
use Rattle.stk_host.specs.ReadSteps.{signature_steps}
use Rattle.stk_host.specs.Tape.{Tape, Reading, answer, leading_bytes, reply_byte_limit}
use Rattle.stk_host.specs.Transcript.{Transcript, heard, sent}
use Rattle.avr_tool.specs.Headline.{IsRun, IsStopped}
use Rattle.avr_tool.specs.Authentic.{first_execution, on_reading, later_executions}
use Rattle.avr_tool.proofs.Hosts.AnyExchange.{over_any_exchange}
use Rattle.avr_tool.proofs.Hosts.Operations.{beginning_goes}
use Rattle.avr_tool.proofs.Emulated.{actions_work, all_work, emulated}
use Rattle.avr_tool.proofs.StepData.FirstSteps.{sound_fits, sound_idle}
use Rattle.avr_tool.proofs.Lines.InTurn.{frames_sent, sends_whole}
use Rattle.avr_tool.proofs.OverFaultyLink.FrameSizes.{session_asks}
use Rattle.avr_tool.proofs.Plans.Fits.{work}
use Rattle.avr_tool.proofs.Real.{ActionsWork, AfterBeginning, AllWork, HasMemories, Real}
use Rattle.avr_laws.specs.AnyTape.{after_sent_frames}
use Rattle.avr_laws.specs.Kept.{HasGeometryOf, IsKept, Keeps, KeepsOnPart, NoneForged, on_part}
use Rattle.avr_laws.specs.KeptByPort.{KeepsPlan}
use Rattle.avr_laws.specs.NoForgedFrame.{ForgesNoFrame, AreNotForged, frame_of_reply}
use Rattle.avr_laws.proofs.Lines.NoForgedFrame.{no_forged_frame_authentic}
use Rattle.avr_laws.proofs.Outcomes.Alike.{AreAlike, same_frames}
use Rattle.avr_laws.proofs.Outcomes.OtherPart.{session_alike, tasks_fit}
use Rattle.avr_laws.proofs.Outcomes.OwnSignature.{IsFirstPart, first_frames, from_handshake, own_signature, sends_valid, session_is}
use Rattle.avr_laws.proofs.Outcomes.Promise.{keeps_plan, left_over, made, other_sent, played_is, promise_for, same, sent_is, tape as over_tape}
use Rattle.avr_laws.proofs.Plans.Fitted.{plan_fitted}

-- ---- no frame was forged, by the dialog or by the frames that it sent first, over the tape that it received

-- if the reply hasn't come, there is nothing to show
pub on_each_reading : (A B : Option (Reading × Tape) → Reading → Tape → Type 0) (o : Option (Reading × Tape))
    → ((reading : Reading) (left : Tape) → A (Some (reading, left)) reading left
    → B (Some (reading, left)) reading left) → on_reading (A o) o → on_reading (B o) o
on_each_reading A B None each read = tt
on_each_reading A B (Some (reading, left)) each read = each reading left read

-- the frames sent after a reading, and these
abbrev sent_then : {E R : Type 0} → (Reading → Dialog E R) → ℕ → List (List ℕ) → Option (Reading × Tape) → List (List ℕ)
sent_then go_on n more o =
    frames_in (continue_with_reading (λ reading. played (go_on reading) (next n)) o).events ++ more

module _ {P : Type 0} (m : Device P) where
  -- none is forged up to the reply to a command, and then this holds
  abbrev pub NotForgedThen : ℕ → List ℕ → Tape → P → List Execution → List (List ℕ)
      → (Reading → Tape → P → List Execution → List (List ℕ) → Type 0) → Reading → Tape → Type 0
  NotForgedThen n bytes tape p executions before Claim reading left =
      AreNotForged n (frame_of_reply m n bytes p (first_execution executions)
      ∷ before) (cut (take reply_byte_limit (leading_bytes tape)))
      × Claim reading left (after_execution (first_execution executions) (m.after bytes p) p m.reset)
      (later_executions executions) (frame_of_reply m n bytes p (first_execution executions) ∷ before)

  pub none_forged : {E R : Type 0} (d : Dialog E R) (n : ℕ) (tape : Tape) (p : P) (executions : List Execution)
      (before more : List (List ℕ)) → NoneForged m (frames_in (played d n tape).events ++ more) tape p executions before
      → ForgesNoFrame m d n tape p executions before
  none_forged (Done r) n tape p executions before more forged = tt
  none_forged (Emit e d) n tape p executions before more forged = none_forged d n tape p executions before more forged
  none_forged (Ask bytes go_on) n tape p executions before more forged =
      on_each_reading
      (λ o. NotForgedThen n bytes tape p executions before (λ reading. NoneForged m (sent_then go_on n more o)))
      (λ o. NotForgedThen n bytes tape p executions before (λ reading. ForgesNoFrame m (go_on reading) (next n)))
      (answer n tape) (λ reading left both. (both.0, none_forged (go_on reading) (next n) left _ _ _ more both.1))
      (subst (λ (b : List ℕ). on_reading (NotForgedThen n b tape p executions before
      (λ reading. NoneForged m (sent_then go_on n more (answer n tape)))) (answer n tape)) (body_of_frame n bytes)
      forged)

  -- and conversely, of its own frames alone
  pub its_none_forged : {E R : Type 0} (d : Dialog E R) (n : ℕ) (tape : Tape) (p : P) (executions : List Execution)
      (before : List (List ℕ)) → ForgesNoFrame m d n tape p executions before
      → NoneForged m (frames_in (played d n tape).events ++ []) tape p executions before
  its_none_forged (Done r) n tape p executions before none = tt
  its_none_forged (Emit e d) n tape p executions before none = its_none_forged d n tape p executions before none
  its_none_forged (Ask bytes go_on) n tape p executions before none =
      subst (λ (b : List ℕ). on_reading (NotForgedThen n b tape p executions before
      (λ reading. NoneForged m (sent_then go_on n [] (answer n tape)))) (answer n tape)) (sym (body_of_frame n bytes))
      (on_each_reading
      (λ o. NotForgedThen n bytes tape p executions before (λ reading. ForgesNoFrame m (go_on reading) (next n)))
      (λ o. NotForgedThen n bytes tape p executions before (λ reading. NoneForged m (sent_then go_on n [] o)))
      (answer n tape) (λ reading left both. (both.0, its_none_forged (go_on reading) (next n) left _ _ _ both.1))
      none)

  -- over dialogs that differ in printed lines alone
  pub alike_forges_none : {R : Type 0} (a b : Dialog OutputEvent R) (n : ℕ) (tape : Tape) (p : P)
      (executions : List Execution) (before : List (List ℕ)) → AreAlike a b
      → ForgesNoFrame m a n tape p executions before → ForgesNoFrame m b n tape p executions before
  alike_forges_none a b n tape p executions before are none =
      none_forged b n tape p executions before []
      (subst (λ (fs : List (List ℕ)). NoneForged m (fs ++ []) tape p executions before) (same_frames are n tape)
      (its_none_forged a n tape p executions before none))

-- ---- so with status 0 the plan is kept, on a chip of its part's geometry

module _ (s : Settings) (plan : Plan) (x y : Devices) (r : IsRun s x y 0)
    (made_is : (planned s r.openings).stage_outcome ≡ Produced plan) (silent : x.link.transcript ≡ []) where
  abbrev passed : Transcript
  passed = y.link.transcript

  abbrev tape : Tape
  tape = over_tape s x y r

  -- all that passed, passed during the run
  these : passed ≡ r.during
  these = same s x y r plan made_is silent

  -- a plan whose session differs in printed lines alone sends the same frames
  pub frames_alike : (other : Plan) → AreAlike (session plan) (session other) → SendsValidBodies (session other)
      → frames (sent passed) ≡ frames_in (played (session other) 1 tape).events
  frames_alike other are_alike bodies =
      ap (λ (t : Transcript). frames (sent t)) these
      ∙ (ap frames (sym (other_sent s x y r plan made_is silent other are_alike))
      ∙ frames_sent (played (session other) 1 tape).events (sends_whole (session other) 1 tape bodies))

  module _ (part : Part) (sound : IsPart part) (fits : HasGeometryOf plan.part part) where
    -- the plan on the chip's own part
    abbrev its_plan : Plan
    its_plan = on_part part plan

    -- its tasks fit the chip's own part
    its_tasks : All (IsFitted part) plan.tasks
    its_tasks = tasks_fit plan part fits (plan_fitted s r.openings plan made_is)

    -- so its session sends valid bodies
    pub its_bodies : SendsValidBodies (session its_plan)
    its_bodies = session_asks its_plan sound its_tasks

    module _ (real : Real part) (p : real.P) (executions : List Execution) (sizes : FitsPart part (real.memories p))
        (idle : HasMemories real (real.memories p) p) (signs : AllWork real signature_steps (real.memories p))
        (works : ActionsWork real (work its_plan) (real.memories p)) where
      abbrev before : Memories
      before = real.memories p

      -- ---- without -F it has the signature of the plan's part

      -- the handshake gives the signature, or a fault
      beginning : Upholds (over_any_exchange real.device) (λ body q. HasMemories real before q) NoOutput
          (AfterBeginning real before) handshake p
      beginning = beginning_goes part sound real before p sizes signs idle

      -- a dialog over what was received
      abbrev run : Dialog OutputEvent ℕ → Played OutputEvent ℕ
      run d = played d 1 tape

      -- the session ended with status 0
      ended : (run (from_handshake plan handshake)).outcome ≡ Some (0, r.next, left_over s x y r)
      ended = sym (ap (λ (d : Dialog OutputEvent ℕ). (run d).outcome) (session_is plan))
          ∙ ap (λ (q : Played OutputEvent ℕ). q.outcome) (played_is s x y r plan made_is silent)

      module _ (first : ForgesNoFrame real.device handshake 1 tape p executions []) where
        -- the chip has the signature of the plan's part, or `-F` was given
        pub own : plan.switches.force ≡ false → part.signature ≡ plan.part.signature
        own unforced =
            own_signature plan part real before handshake 1 tape p executions r.next (left_over s x y r) beginning.holds
            (no_forged_frame_authentic real.device handshake 1 tape p executions [] tt first) ended unforced

        -- so its session differs in printed lines alone
        pub are_alike : AreAlike (session plan) (session its_plan)
        are_alike = session_alike plan part fits own

      -- ---- none of the frames was forged

      module _ (none : NoneForged real.device (frames (sent passed)) (heard passed) p executions []) where
        -- none of these, as a reply to those of a dialog that were sent first
        none_of : {E R : Type 0} (d : Dialog E R) (more : List (List ℕ))
            → frames (sent passed) ≡ frames_in (played d 1 tape).events ++ more
            → ForgesNoFrame real.device d 1 tape p executions []
        none_of d more are = search (rules, none_forged, these)

        -- the session's first frames are those of its handshake
        sent_first : IsFirstPart (played handshake 1 tape) (run (from_handshake plan handshake))
        sent_first = first_frames plan handshake 1 tape (sends_valid its_plan handshake
            (subst (λ (d : Dialog OutputEvent ℕ). SendsValidBodies d) (session_is its_plan) its_bodies))

        -- so are the first frames that passed
        first_are : frames (sent passed) ≡ frames_in (played handshake 1 tape).events ++ sent_first.0
        first_are = ap (λ (t : Transcript). frames (sent t)) these
            ∙ (ap frames (sym (sent_is s x y r plan made_is silent))
            ∙ (ap (λ (d : Dialog OutputEvent ℕ). frames (bytes_sent (run d).events)) (session_is plan) ∙ sent_first.1))

        -- so none of the handshake's frames is forged
        first_forged : ForgesNoFrame real.device handshake 1 tape p executions []
        first_forged = none_of handshake sent_first.0 first_are

        -- so the plan is kept on the chip's own part
        pub kept_on_part : KeepsOnPart part plan before
            (real.memories (after_sent_frames real.device (frames (sent passed)) executions p)) x.desk.kept y.desk.kept
        kept_on_part = record {
          keeps = subst (λ (t : Transcript). Keeps its_plan before
              (real.memories (after_sent_frames real.device (frames (sent t)) executions p)) x.desk.kept y.desk.kept)
              (sym these)
              (promise_for s x y r plan made_is silent its_plan (are_alike first_forged) its_tasks real sound p sizes
              idle signs works executions
              (none_of (session its_plan) [] (frames_alike its_plan (are_alike first_forged) its_bodies
              ∙ sym (append-nil (frames_in (run (session its_plan)).events)))));
          signature = own first_forged;
        }

  -- ---- so it is on the emulated chip

  pub kept : IsKept plan passed x.desk.kept y.desk.kept
  kept p executions sound fits none =
      let part = p.chip.part in
      kept_on_part part sound.part fits (emulated part sound.part) p executions (sound_fits p.chip sound)
      (sound_idle p sound) (all_work part sound.part signature_steps (memories_of p.chip))
      (actions_work part sound.part (work (on_part part plan)) (memories_of p.chip)) none

-- ---- whatever a call over a link and a desk came to, as avr_tool's `run` states it

pub promised : (s : Settings) (x y : Devices) (status : ℕ) → (IsRun s x y status ⊎ IsStopped s x y status)
    → status ≡ 0 → x.link.transcript ≡ [] → KeepsPlan s x.desk.kept y.desk.kept []
    (λ plan. IsKept plan y.link.transcript x.desk.kept y.desk.kept)
promised s x y status (inl ran) zero silent =
    let r : IsRun s x y 0 = subst (λ (k : ℕ). IsRun s x y k) zero ran in
    let plan : Plan = (made s x y r).0 in
    let made_is : (planned s r.openings).stage_outcome ≡ Produced plan = (made s x y r).1 in
    keeps_plan s x y r plan made_is silent (λ plan. IsKept plan y.link.transcript x.desk.kept y.desk.kept)
    (kept s plan x y r made_is silent)
promised s x y status (inr stopped) zero silent = absurd (let one = stopped.1 in omega (arith, one, zero))
