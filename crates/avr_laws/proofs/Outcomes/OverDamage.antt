-- Status 0 means the images, over a link that loses, delays and damages frames.
use Rattle.std.proofs.Common.{◌≡◌, append-nil, ℕ, true, Bool, List, [], ◌∷◌, ◌++◌, Option, sym, subst, rules}
use Rattle.std.proofs.lemmas.List.Elements.{All-nil, All-cons}
use Rattle.std.specs.Prelude.{All}
use Rattle.avr_plan.specs.declared.settings.Settings.{Settings}
use Rattle.avr_io.specs.OutputEvents.{OutputEvent}
use Rattle.avr_io.specs.Stage.{Produced}
use Rattle.avr_part.specs.Sound.{IsSoundChip}
use Rattle.avr_plan.specs.Plan.{Plan}
use Rattle.avr_plan.specs.Planning.{planned}
use Rattle.avr_session.specs.Runs.{Devices}
use Rattle.avr_session.specs.Session.{session}
use Rattle.stk_frame.specs.Cut.{IsPiece, frames, is_good}
use Rattle.stk_frame.proofs.Laws.{frame_is_good}
use Rattle.stk_host.specs.Dialog.{Dialog, Done, Emit, Ask, Played, played, continue_with_reading, next, frames_in}
use Rattle.stk_host.specs.Operations.{handshake}
use Rattle.stk_host.specs.Steps.{StepOutcome}
use Rattle.stk_host.specs.Tape.{Tape, Reading, answer}
use Rattle.stk_host.specs.Transcript.{Transcript, heard, sent}
use Rattle.stk_emu.specs.DialogOverExchanges.{SendsValidBodies}
use Rattle.stk_emu.specs.Device.{Device, device, after_frames}
use Rattle.stk_emu.specs.Effect.{memories_of}
use Rattle.stk_emu.specs.Exchange.{Execution}
use Rattle.stk_emu.specs.Programmer.{Programmer}
use Rattle.stk_emu.proofs.Replies.BodySizes.{reply_fits_frame}
use Rattle.avr_tool.specs.Headline.{IsRun}
use Rattle.avr_tool.proofs.Lines.InTurn.{AreWhole, sends_whole}
use Rattle.avr_laws.specs.AnyTape.{executions_by_arrival}
use Rattle.avr_laws.specs.Kept.{HasGeometryOf, KeepsOnPart, NoneForged, on_part}
use Rattle.avr_laws.specs.Damaged.{Arrived, Arrival, BringsReplies, tape_of_arrivals}
use Rattle.avr_laws.specs.NoForgedFrame.{ForgesNoFrame}
use Rattle.avr_laws.proofs.Lines.AnyTape.{through_after}
use Rattle.avr_laws.proofs.Lines.Damaged.{arrived_came, brings_no_frame}
use Rattle.avr_laws.proofs.Outcomes.Alike.{AreAlike, same_frames}
use Rattle.stk_host.specs.ReadSteps.{signature_steps}
use Rattle.avr_tool.proofs.Emulated.{actions_work, all_work, emulated}
use Rattle.avr_tool.proofs.StepData.FirstSteps.{sound_fits, sound_idle}
use Rattle.avr_tool.proofs.Plans.Fits.{work}
use Rattle.avr_laws.proofs.Outcomes.Kept.{NotForgedThen, are_alike, frames_alike, its_bodies, its_none_forged, kept, on_each_reading}
use Rattle.avr_laws.proofs.Outcomes.OwnSignature.{from_handshake, session_is}
use Rattle.avr_laws.proofs.Outcomes.Promise.{same, tape}

abbrev IsGood : List ℕ → Type 0
IsGood piece = is_good piece ≡ true

-- whole frames are pieces
all_pieces : (fs : List (List ℕ)) → AreWhole fs → All IsPiece fs
all_pieces [] whole = All-nil IsPiece
all_pieces (f ∷ fs) whole = All-cons IsPiece f fs whole.0.piece (all_pieces fs whole.1)

-- a run sends good frames
good_by : {E R : Type 0} (go_on : Reading → Tape → Played E R) (o : Option (Reading × Tape))
    → ((reading : Reading) (left : Tape) → All IsGood (frames_in (go_on reading left).events))
    → All IsGood (frames_in (continue_with_reading go_on o).events)
good_by go_on o each = search rules

sends_good : {E R : Type 0} (d : Dialog E R) (n : ℕ) (t : Tape) → SendsValidBodies d
    → All IsGood (frames_in (played d n t).events)
sends_good (Done r) n t sound = All-nil IsGood
sends_good (Emit e d) n t sound = sends_good d n t sound
sends_good (Ask bytes go_on) n t sound = All-cons IsGood _ _ (frame_is_good n bytes sound.0.some)
    (good_by (λ reading. played (go_on reading) (next n)) (answer n t)
    (λ reading left. sends_good (go_on reading) (next n) left (sound.1 reading)))

-- if a link forges no frame for a session, it forges none for its handshake
module _ {P : Type 0} (m : Device P) (plan : Plan) where
  -- by what is read for the first command
  handshake_forges_none : (d : Dialog ⊥ StepOutcome) (n : ℕ) (tape : Tape) (p : P) (executions : List Execution)
      (before : List (List ℕ)) → ForgesNoFrame m (from_handshake plan d) n tape p executions before
      → ForgesNoFrame m d n tape p executions before
  handshake_forges_none (Done outcome) n t p executions before none = tt
  handshake_forges_none (Emit e d) n t p executions before none = absurd e
  handshake_forges_none (Ask bytes go_on) n t p executions before none =
      on_each_reading
      (λ o. NotForgedThen m n bytes t p executions before
      (λ reading. ForgesNoFrame m (from_handshake plan (go_on reading)) (next n)))
      (λ o. NotForgedThen m n bytes t p executions before (λ reading. ForgesNoFrame m (go_on reading) (next n)))
      (answer n t) (λ reading left both. (both.0, handshake_forges_none (go_on reading) (next n) left _ _ _ both.1))
      none

module _ (s : Settings) (plan : Plan) (x y : Devices) (r : IsRun s x y 0)
    (made_is : (planned s r.openings).stage_outcome ≡ Produced plan) (silent : x.link.transcript ≡ [])
    (p : Programmer) (got : List ℕ) (through : List Bool) (come : List Arrival) (sound : IsSoundChip p.chip)
    (fits : HasGeometryOf plan.part p.chip.part) (arrived : Arrived (frames (sent y.link.transcript)) through got)
    (is : heard y.link.transcript ≡ tape_of_arrivals come)
    (brings : BringsReplies device (session plan) 1 come p (executions_by_arrival through) []) where
  abbrev executions : List Execution
  executions = executions_by_arrival through

  -- the link forges no frame for the session
  forges_none : ForgesNoFrame device (session plan) 1 (tape s x y r) p executions []
  forges_none = search (rules, same, brings_no_frame, reply_fits_frame)

  -- the session of the plan for the chip's own part
  abbrev its : Dialog OutputEvent ℕ
  its = session (on_part p.chip.part plan)

  -- this session differs in printed lines alone
  are : AreAlike (session plan) its
  are = are_alike s plan x y r made_is silent p.chip.part sound.part fits (emulated p.chip.part sound.part) p executions
      (sound_fits p.chip sound) (sound_idle p sound)
      (all_work p.chip.part sound.part signature_steps (memories_of p.chip))
      (actions_work p.chip.part sound.part (work (on_part p.chip.part plan)) (memories_of p.chip))
      (handshake_forges_none device plan handshake 1 (tape s x y r) p executions []
      (subst (λ (d : Dialog OutputEvent ℕ). ForgesNoFrame device d 1 (tape s x y r) p executions []) (session_is plan)
      forges_none))

  -- it sends valid bodies
  bodies : SendsValidBodies its
  bodies = its_bodies s plan x y r made_is silent p.chip.part sound.part fits

  -- it sends the frames that passed
  these : frames (sent y.link.transcript) ≡ frames_in (played its 1 (tape s x y r)).events
  these = frames_alike s plan x y r made_is silent (on_part p.chip.part plan) are bodies

  -- the plan's own session sends the same frames
  own : frames_in (played (session plan) 1 (tape s x y r)).events ++ [] ≡ frames (sent y.link.transcript)
  own = search (rules, append-nil, tape, same_frames, are, these)

  -- so the plan is kept on the chip's own part
  pub over_damage : KeepsOnPart p.chip.part plan (memories_of p.chip)
      (memories_of (after_frames device (frames got) p).chip) x.desk.kept y.desk.kept
  over_damage =
      subst (λ (q : Programmer). KeepsOnPart p.chip.part plan (memories_of p.chip) (memories_of q.chip) x.desk.kept
      y.desk.kept)
      (sym (through_after device got [] (frames (sent y.link.transcript)) executions p
      (arrived_came (frames (sent y.link.transcript)) through got
      (subst (All IsPiece) (sym these) (all_pieces _ (sends_whole its 1 (tape s x y r) bodies)))
      (subst (All IsGood) (sym these) (sends_good its 1 (tape s x y r) bodies)) arrived)))
      (kept s plan x y r made_is silent p executions sound fits
      (subst (λ (fs : List (List ℕ)). NoneForged device fs (heard y.link.transcript) p executions []) own
      (subst (λ (t : Transcript). NoneForged device (frames_in (played (session plan) 1 (tape s x y r)).events ++ [])
      (heard t) p executions []) (sym (same s x y r plan made_is silent))
      (its_none_forged device (session plan) 1 (tape s x y r) p executions [] forges_none))))
