-- Whatever the status, some of the plan's first write operations were made, in order, and no others.
use Rattle.std.proofs.Common.{◌≡◌, ◌∙◌, ◌⊎◌, ◌≤◌, ℕ, All, false, List, [], ◌++◌, map, length, take, arith, rules, append-nil, length-append, inl, inr, refl, sym, ap, subst, Some, None}
use Rattle.std.proofs.lemmas.List.{take-append-le, take_all}
use Rattle.avr_plan.specs.declared.settings.Port.{Port}
use Rattle.avr_plan.specs.declared.settings.Port.TheVariants.{Stdio, Emulated, Network, Served}
use Rattle.avr_plan.specs.declared.settings.Settings.{Settings}
use Rattle.avr_io.specs.Record.{Bytes, DeskState}
use Rattle.avr_io.specs.OutputEvents.{OutputEvent}
use Rattle.avr_io.specs.Stage.{Produced, Refused, NotReadToEnd, StageOutcome, StageResult}
use Rattle.avr_io.specs.declared.record.Opening.{Opening}
use Rattle.avr_plan.specs.Plan.{Plan, IsFitted}
use Rattle.avr_plan.specs.Planning.{planned}
use Rattle.avr_session.specs.Run.{RunsSession, WithPlan}
use Rattle.avr_session.specs.Runs.{Devices, devices}
use Rattle.avr_session.specs.Session.{session}
use Rattle.avr_tool.proofs.Runs.Joined.{emitted_bytes, emitted_outputs}
use Rattle.avr_tool.specs.Headline.{run_after_planning, IsRun, IsStopped}
use Rattle.avr_tool.specs.OverNet.{RunsOverNet, new_link}
use Rattle.avr_tool.specs.Program.{ActsAtPort, StartsProgram}
use Rattle.avr_tool.specs.Sockets.{Peers}
use Rattle.avr_tool.specs.declared.command_line.CommandLine.{Ghosts as CommandLine}
use Rattle.stk_host.specs.Dialog.{Dialog, Event, Emitted, prepend_events, bytes_sent, frames_in, outputs, played}
use Rattle.stk_host.specs.Play.{IsBytePrefixOf}
use Rattle.stk_host.specs.Tape.{Tape, on_tape}
use Rattle.stk_host.specs.Transcript.{LinkState, Transcript, heard, sent}
use Rattle.avr_laws.proofs.Lines.FirstFrames.{first_go_along}
use Rattle.avr_laws.specs.AnyTape.{after_sent_frames}
use Rattle.avr_laws.specs.Kept.{HasGeometryOf, NoneForged, on_part}
use Rattle.avr_part.specs.Part.{Part, IsPart}
use Rattle.avr_tool.proofs.Lines.InTurn.{frames_prefix, sends_whole}
use Rattle.avr_tool.proofs.Emulated.{actions_work, all_work, emulated}
use Rattle.avr_tool.proofs.StepData.FirstSteps.{sound_fits, sound_idle}
use Rattle.avr_tool.proofs.OverFaultyLink.FrameSizes.{session_asks}
use Rattle.avr_tool.proofs.OverFaultyLink.Outcomes.{session_leaves}
use Rattle.avr_tool.proofs.Plans.Fits.{work}
use Rattle.avr_tool.proofs.Real.{ActionsWork, AllWork, HasMemories, Real}
use Rattle.avr_tool.proofs.WirePlays.{sent_first}
use Rattle.avr_tool.specs.Outcome.{HasFirstOperations}
use Rattle.stk_emu.specs.Device.{Device, device}
use Rattle.stk_emu.specs.DialogOverExchanges.{SendsValidBodies, state_after}
use Rattle.stk_emu.specs.Effect.{memories_of}
use Rattle.stk_emu.specs.Exchange.{Exchange, Execution}
use Rattle.stk_emu.specs.Settled.{FitsPart}
use Rattle.stk_frame.specs.Cut.{frames}
use Rattle.stk_host.specs.ReadSteps.{signature_steps}
use Rattle.avr_laws.proofs.Outcomes.Alike.{same_bytes}
use Rattle.avr_laws.proofs.Outcomes.OtherPart.{same_geometry, session_alike, tasks_fit}
use Rattle.avr_laws.proofs.Plans.Fitted.{plan_fitted}
use Rattle.avr_laws.proofs.Outcomes.Openings.{run_keeps, session_keeps}
use Rattle.avr_laws.proofs.Asked.Settings.{serves_or_asks}
use Rattle.avr_laws.specs.AskedSettings.{NamesPort}
use Rattle.avr_laws.specs.BegunByPort.{IsBegun, BeginsPlanAt, BeginsCommandLine}
use Rattle.avr_laws.specs.KeptByPort.{KeepsPlan}

-- ---- after any prefix of the bytes that a dialog sends over what was received

module _ (d : Dialog OutputEvent ℕ) (bodies : SendsValidBodies d) (tape : Tape) (bytes : List ℕ)
    (prefix : IsBytePrefixOf bytes (bytes_sent (played d 1 tape).events)) where
  abbrev all : List (List ℕ)
  all = frames_in (played d 1 tape).events

  abbrev count : ℕ
  count = length (frames bytes)

  -- the bytes hold the first frames that the dialog sends
  more_frames : (others : List (List ℕ)) × (all ≡ frames bytes ++ others)
  more_frames = frames_prefix (played d 1 tape).events bytes prefix.0 (sends_whole d 1 tape bodies) prefix.1

  -- they are at most all frames
  within : count ≤ length all
  within = let whole = ap length more_frames.1 in omega (arith, whole, length-append (frames bytes) more_frames.0)

  -- so they are its first frames
  first_frames : take count all ≡ frames bytes
  first_frames = search (rules, more_frames, take-append-le, take_all)

  -- the exchanges that lead to the programmer after these frames
  pub left_along : {P : Type 0} (m : Device P) (p : P) (executions : List Execution)
      → NoneForged m (frames bytes) tape p executions [] → (exchanges : List Exchange)
      × ((state_after m count d p exchanges).programmer ≡ after_sent_frames m (frames bytes) executions p)
  left_along m p executions none = search (rules, first_go_along, within, first_frames, none)

-- the plan's first write operations, if the chip has the plan's geometry and, without -F, its signature
pub first_made : (plan : Plan) (part : Part) (sound : IsPart part) → HasGeometryOf plan.part part
    → (plan.switches.force ≡ false → part.signature ≡ plan.part.signature) → (real : Real part)
    → All (IsFitted plan.part) plan.tasks → (tape : Tape) (bytes : List ℕ)
    → IsBytePrefixOf bytes (bytes_sent (played (session plan) 1 tape).events) → (p : real.P)
    → FitsPart part (real.memories p) → HasMemories real (real.memories p) p
    → AllWork real signature_steps (real.memories p) → ActionsWork real (work (on_part part plan)) (real.memories p)
    → (executions : List Execution)
    → NoneForged real.device (frames bytes) tape p executions []
    → HasFirstOperations (on_part part plan) (real.memories p)
    (real.memories (after_sent_frames real.device (frames bytes) executions p))
first_made plan part sound fits own real fitted tape bytes prefix p sizes idle signs works executions none =
    let its_plan = on_part part plan in
    let its_tasks = tasks_fit plan part fits fitted in
    let along = left_along (session its_plan) (session_asks its_plan sound its_tasks) tape bytes
    (prefix.0, prefix.1 ∙ same_bytes (session_alike plan part fits own) 1 tape) real.device p executions none in
    subst (λ (q : real.P). HasFirstOperations its_plan (real.memories p) (real.memories q)) along.1
    ((session_leaves its_plan sound real (real.memories p) sizes its_tasks signs works p along.0 idle).during
    (length (frames bytes)))

-- so on the emulated chip
pub emulated_begun : (plan : Plan) → All (IsFitted plan.part) plan.tasks → (passed : Transcript)
    → IsBytePrefixOf (sent passed) (bytes_sent (played (session plan) 1 (heard passed)).events) → IsBegun plan passed
emulated_begun plan fitted passed prefix p executions is_sound part_is none =
    let part = p.chip.part in
    let sound = is_sound.part in
    let m0 = memories_of p.chip in
    subst (λ (part : Part). HasFirstOperations (on_part part plan) m0
    (memories_of (after_sent_frames device (frames (sent passed)) executions p).chip)) part_is
    (first_made plan part sound (same_geometry plan.part part part_is)
    (λ unforced. ap (λ (part : Part). part.signature) part_is) (emulated part sound) fitted (heard passed) (sent passed)
    prefix p (sound_fits p.chip is_sound) (sound_idle p is_sound) (all_work part sound signature_steps m0)
    (actions_work part sound (work (on_part part plan)) m0) executions none)

-- ---- what is begun so, by what passed over a link

module _ (Begun : Plan → Transcript → Type 0)
    (begun_by : (plan : Plan) → All (IsFitted plan.part) plan.tasks → (passed : Transcript) → IsBytePrefixOf
    (sent passed) (bytes_sent (played (session plan) 1 (heard passed)).events) → Begun plan passed) where
  -- ---- a whole run

  module _ (s : Settings) (x y : Devices) (status : ℕ) (r : IsRun s x y status) (silent : x.link.transcript ≡ []) where
    abbrev tape : Tape
    tape = heard r.during

    abbrev before : List (Event OutputEvent)
    before = map Emitted (planned s r.openings).output_events

    -- the run over what it opened and received
    over : prepend_events before (run_after_planning (planned s r.openings).stage_outcome tape)
        ≡ record { events = r.events; outcome = Some (status, r.next, on_tape r.left ++ []) }
    over =
        sym (ap (λ (os : List Opening). prepend_events (map Emitted (planned s os).output_events)
        (run_after_planning (planned s os).stage_outcome (tape ++ []))) (append-nil r.openings)
        ∙ ap (λ (t : Tape). prepend_events before (run_after_planning (planned s r.openings).stage_outcome t))
        (append-nil tape)) ∙ r.is [] []

    -- all that passed, passed during the run
    same : y.link.transcript ≡ r.during
    same = r.grows ∙ ap (λ (t : Transcript). t ++ r.during) silent

    abbrev Claim : Type 0
    Claim = (sent y.link.transcript ≡ [])
        ⊎ KeepsPlan s x.desk.kept y.desk.kept [] (λ plan. Begun plan y.link.transcript)

    -- without a plan nothing was sent
    none_sent : (outcome : StageOutcome Plan) → (planned s r.openings).stage_outcome ≡ outcome
        → bytes_sent (run_after_planning outcome tape).events ≡ [] → sent y.link.transcript ≡ []
    none_sent outcome is none = search (rules, same, over, emitted_bytes, none)

    module _ (plan : Plan) (made : (planned s r.openings).stage_outcome ≡ Produced plan) where
      -- the session's part of the run
      over_plan : prepend_events before (played (session plan) 1 tape)
          ≡ record { events = r.events; outcome = Some (status, r.next, on_tape r.left ++ []) }
      over_plan = search (rules, over)

      -- it sent what the session sends
      sent_is : bytes_sent (played (session plan) 1 tape).events ≡ sent r.during
      sent_is = search (rules, emitted_bytes, over_plan)

      -- it put out what planning and the session put out
      outputs_are : outputs r.events
          ≡ (planned s r.openings).output_events ++ outputs (played (session plan) 1 tape).events
      outputs_are = search (rules, over_plan, emitted_outputs)

      -- what passed is a session's
      prefix : IsBytePrefixOf (sent y.link.transcript)
          (bytes_sent (played (session plan) 1 (heard y.link.transcript)).events)
      prefix = search (rules, same, append-nil, sent_is)

      -- so it began the plan that was asked for
      begun : KeepsPlan s x.desk.kept y.desk.kept [] (λ plan. Begun plan y.link.transcript)
      begun = search (rules, run_keeps, outputs_are, plan_fitted, prefix)

    -- by what planning came to
    by_outcome : (outcome : StageOutcome Plan) → (planned s r.openings).stage_outcome ≡ outcome → Claim
    by_outcome (Produced plan) is = inr (begun plan is)
    by_outcome (Refused line) is = inl (none_sent (Refused line) is refl)
    by_outcome NotReadToEnd is = inl (none_sent NotReadToEnd is refl)

    -- so it is for each whole run
    pub run_begun : Claim
    run_begun = by_outcome (planned s r.openings).stage_outcome refl

  -- ---- a session, whole or not

  module _ (s : Settings) (x : Devices) (y : Devices) (status : ℕ) (silent : x.link.transcript ≡ [])
      (with : WithPlan s x.desk (λ plan desk. RunsSession plan (devices x.link desk) y status)) where
    -- so it is with a session that broke off
    pub session_begun : KeepsPlan s x.desk.kept y.desk.kept [] (λ plan. Begun plan y.link.transcript)
    session_begun =
        session_keeps s x y status (λ plan. Begun plan y.link.transcript) with
        (begun_by with.plan
        (plan_fitted s (with.made.passed ++ []) with.plan
        (ap (λ (q : StageResult Plan). q.stage_outcome) (with.made.comes []))) y.link.transcript
        (sent_first with.plan (devices x.link with.between) y status silent with.then_is).1)

  -- ---- each port

  -- over standard streams
  streams_begun : (s : Settings) (x y : Devices) (status : ℕ) → x.link.transcript ≡ []
      → IsRun s x y status ⊎ IsStopped s x y status → (sent y.link.transcript ≡ [])
      ⊎ KeepsPlan s x.desk.kept y.desk.kept [] (λ plan. Begun plan y.link.transcript)
  streams_begun s x y status silent (inl r) = run_begun s x y status r silent
  streams_begun s x y status silent (inr (inl stopped, one)) =
      inr (session_begun s x y 1 silent
      (record {
        plan = stopped.plan;
        between = stopped.between;
        made = stopped.made;
        then_is = inr (stopped.then_is, refl);
      }))
  streams_begun s x y status silent (inr (inr stopped, one)) = search rules

  -- over the network
  over_net : (peers : Peers) (s : Settings) (address : Bytes) (old new : DeskState) (status : ℕ)
      → RunsOverNet peers.unused (peers.at_address address) s address old new status
      → (peers.unused ⊎ peers.at_address address None)
      ⊎ ((link : LinkState) × peers.at_address address (Some link)
      × KeepsPlan s old.kept new.kept [] (λ plan. Begun plan link.transcript))
  over_net peers s address old new status (inl (link, over, with)) =
      inr (link, over, session_begun s (devices new_link old) (devices link new) status refl with)
  over_net peers s address old new status (inr (inl (over, with, one))) = inl (inr over)
  over_net peers s address old new status (inr (inr (lacks, unused))) = inl (inl unused)

  -- nothing passed over standard streams
  none : (old new : Devices) → new.link ≡ old.link → old.link.transcript ≡ [] → new.link.transcript ≡ []
  none old new same silent = ap (λ (l : LinkState). l.transcript) same ∙ silent

  -- at each port but a service's
  at_port : (peers : Peers) (text : Bytes) (port : Port) (s : Settings) (old new : Devices) (status : ℕ)
      → NamesPort text port → old.link.transcript ≡ [] → ActsAtPort peers port s old new status
      → BeginsPlanAt Begun peers.at_address peers.unused port s new.link.transcript old.desk.kept new.desk.kept
  at_port peers text Stdio s old new status names silent (runs, unused) = search (rules, streams_begun)
  at_port peers text (Emulated file) s old new status names silent (runs, same, unused) = search (rules, none, same)
  at_port peers text (Network address) s old new status names silent (runs, same) = search (rules, none, same, over_net)
  at_port peers text (Served port file) s old new status names silent acts = absurd names

  -- a service passes nothing over standard streams
  service_passes : (peers : Peers) (port file : Bytes) (s : Settings) (old new : Devices) (status : ℕ)
      → old.link.transcript ≡ [] → ActsAtPort peers (Served port file) s old new status → new.link.transcript ≡ []
  service_passes peers port file s old new status silent (serves, same) = none old new same silent

  -- so it is with the program
  pub words_begun : {C : Type 0} (line : CommandLine C) (peers : Peers) (old new : Devices) (status : ℕ)
      → StartsProgram line peers old new status → old.link.transcript ≡ []
      → BeginsCommandLine Begun line.is_words peers.at_address peers.unused new.link.transcript old.desk.kept
      new.desk.kept
  words_begun line peers old new status (inl (words, are, inl (inl took))) silent =
      let s = took.settings in
      inr (
        words,
        are,
        elim (serves_or_asks words s took.asked) [
          | inl (serves, (port, file, is)) ↦
              search (rules, service_passes)
          | inr asks ↦ inr (s, asks, at_port peers asks.port.0 s.port s old new status asks.port.2 silent took.then_is)
        ],
      )
  words_begun line peers old new status (inl (words, are, inl (inr refuses))) silent =
      inl (none old new refuses.untouched silent, refuses.unused)
  words_begun line peers old new status (inl (words, are, inr usage)) silent =
      inl (none old new usage.untouched silent, usage.unused)
  words_begun line peers old new status (inr (unread, one, notice, same_link, unused)) silent =
      inl (none old new same_link silent, unused)
