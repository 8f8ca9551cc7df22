-- Status 0 over a reader: what was compared after the last write is there.
use Rattle.std.proofs.Common.{◌≡◌, ◌∙◌, ◌⊎◌, ℕ, All, Bool, true, false, List, [], ◌∷◌, ◌++◌, append_assoc, append-nil, length, arith, inl, inr, refl, sym, ap, subst}
use Rattle.std.proofs.lemmas.List.{take_all}
use Rattle.std.specs.Prelude.{if◌then◌else◌}
use Rattle.avr_io.specs.OutputEvents.{OutputEvent}
use Rattle.avr_io.specs.Stage.{Produced}
use Rattle.avr_part.specs.Part.{IsPart}
use Rattle.avr_part.specs.declared.part.Mem.{Mem}
use Rattle.avr_plan.specs.Plan.{Plan, IsFitted}
use Rattle.avr_plan.specs.Planning.{planned}
use Rattle.avr_plan.specs.declared.planned.Task.{Task}
use Rattle.avr_plan.specs.declared.planned.Task.TheVariants as task
use Rattle.avr_plan.specs.declared.settings.Settings.{Settings}
use Rattle.avr_plan.specs.declared.settings.Switches.{Switches}
use Rattle.avr_session.specs.Actions.{Action, CompareImage, SkipAction, SkippedWrite, WriteImage, erase_actions, task_actions, tasks_actions}
use Rattle.avr_session.specs.Runs.{Devices}
use Rattle.avr_session.specs.Session.{session}
use Rattle.stk_emu.specs.Device.{Device}
use Rattle.stk_emu.specs.DialogOverExchanges.{SendsValidBodies, state_after}
use Rattle.stk_emu.specs.Effect.{Image, Memories, memory_in}
use Rattle.stk_emu.specs.Exchange.{Exchange, Execution}
use Rattle.stk_emu.specs.StepData.{HoldsImage}
use Rattle.stk_frame.specs.Cut.{frames}
use Rattle.stk_host.specs.Dialog.{Event, Done, Played, frames_in, played}
use Rattle.stk_host.specs.Transcript.{Transcript, heard, sent}
use Rattle.avr_tool.proofs.Each.{Each}
use Rattle.avr_tool.proofs.Lines.InTurn.{frames_sent, sends_whole}
use Rattle.avr_tool.proofs.OverFaultyLink.FrameSizes.{session_asks}
use Rattle.avr_tool.proofs.Plans.Fits.{AllFitActions, FitsAction, work, work_fits}
use Rattle.avr_tool.specs.Headline.{IsRun, IsStopped}
use Rattle.avr_laws.proofs.Lines.AnyTape.{goes_as}
use Rattle.avr_laws.proofs.Lines.NoForgedFrame.{no_forged_frame_authentic}
use Rattle.avr_laws.proofs.Outcomes.Kept.{none_forged}
use Rattle.avr_laws.proofs.Outcomes.Promise.{keeps_plan, left_over, made, played_is, same, sent_is, tape as over_tape}
use Rattle.avr_laws.proofs.Plans.Fitted.{plan_fitted}
use Rattle.avr_laws.specs.AnyTape.{GoesAlongExchanges, after_sent_frames, exchanges_on_tape}
use Rattle.avr_laws.specs.Kept.{NoneForged}
use Rattle.avr_laws.specs.KeptByPort.{KeepsPlan}
use Rattle.avr_laws.specs.NoForgedFrame.{ForgesNoFrame}
use Rattle.avr_laws.proofs.Readers.LastActions.{ReadsAction, session_agrees}
use Rattle.avr_laws.specs.Reader.{IsReader, LastAgree, LastIsThere, OnlyRead}

-- what holds for each of a list holds for its last part
each_behind : {A : Type 0} (Q : A → Type 0) (xs ys : List A) → Each Q (xs ++ ys) → Each Q ys
each_behind Q [] ys each = each
each_behind Q (x ∷ xs) ys each = each_behind Q xs ys each.1

-- ---- by the tasks

module _ (plan : Plan) (Reads : Mem → Type 0) (x : Memories)
    (there : (done rest : List Action) (mem : Mem) (image : Image) → work plan ≡ done ++ (CompareImage mem image ∷ rest)
    → Reads mem → Each (ReadsAction Reads) rest → HoldsImage image (memory_in plan.part mem x)) where
  abbrev s : Switches
  s = plan.switches

  abbrev HoldsThere : Mem → Image → Type 0
  HoldsThere mem image = HoldsImage image (memory_in plan.part mem x)

  -- tasks that only read have actions that only read
  tasks_read : (tasks : List Task) → OnlyRead Reads tasks → Each (ReadsAction Reads) (tasks_actions s tasks)
  tasks_read [] reads = tt
  tasks_read (task.Write mem image ∷ tasks) reads = absurd reads
  tasks_read (task.Verify mem image ∷ tasks) reads = (reads.0, tasks_read tasks reads.1)
  tasks_read (task.Read mem format file ∷ tasks) reads = (reads.0, tasks_read tasks reads.1)

  -- a write that is compared, by the switches `-n` and `-V`
  compared : (dry off : Bool) (done : List Action) (mem : Mem) (image : Image) (later : List Action)
      → work plan ≡ done ++ ((if dry then SkipAction (SkippedWrite mem image) ∷ []
      else WriteImage mem image ∷ (if off then [] else CompareImage mem image ∷ [])) ++ later)
      → dry ≡ false → off ≡ false → Reads mem → Each (ReadsAction Reads) later → HoldsThere mem image
  compared true off done mem image later are wet on reads others = absurd (cc wet)
  compared false true done mem image later are wet on reads others = absurd (cc on)
  compared false false done mem image later are wet on reads others =
      there (done ++ (WriteImage mem image ∷ [])) later mem image
      (are ∙ sym (append_assoc done (WriteImage mem image ∷ []) (CompareImage mem image ∷ later))) reads others

  -- the tasks after these actions
  agree_from : (done : List Action) (tasks : List Task) → work plan ≡ done ++ tasks_actions s tasks
      → LastAgree plan.part s Reads tasks x
  agree_from done [] are = tt
  agree_from done (task.Write mem image ∷ tasks) are = (
    λ wet on reads others.
        compared s.dry s.no_verify done mem image (tasks_actions s tasks) are wet on reads (tasks_read tasks others),
    agree_from (done ++ task_actions s (task.Write mem image)) tasks
        (are ∙ sym (append_assoc done (task_actions s (task.Write mem image)) (tasks_actions s tasks))),
  )
  agree_from done (task.Verify mem image ∷ tasks) are = (
    λ reads others. there done (tasks_actions s tasks) mem image are reads (tasks_read tasks others),
    agree_from (done ++ (CompareImage mem image ∷ [])) tasks
        (are ∙ sym (append_assoc done (CompareImage mem image ∷ []) (tasks_actions s tasks))),
  )
  agree_from done (task.Read mem format file ∷ tasks) are =
      agree_from (done ++ task_actions s (task.Read mem format file)) tasks
      (are ∙ sym (append_assoc done (task_actions s (task.Read mem format file)) (tasks_actions s tasks)))

  -- so it is for all tasks
  pub last_agree : LastAgree plan.part s Reads plan.tasks x
  last_agree = agree_from (erase_actions s plan.tasks) plan.tasks refl

-- ---- by what passed over the link

module _ (s : Settings) (x y : Devices) (r : IsRun s x y 0) (plan : Plan)
    (made_is : (planned s r.openings).stage_outcome ≡ Produced plan) (silent : x.link.transcript ≡ [])
    {P : Type 0} (sound : IsPart plan.part) (m : Device P) (view : P → Memories) (IsIn : P → Type 0)
    (Reads : Mem → Type 0) (t : IsReader plan.part m view IsIn Reads) (p : P) (executions : List Execution)
    (i : IsIn p)
    (none : NoneForged m (frames (sent y.link.transcript)) (heard y.link.transcript) p executions []) where
  abbrev events : List (Event OutputEvent)
  events = (played (session plan) 1 (over_tape s x y r)).events

  abbrev exchanges : List Exchange
  exchanges = exchanges_on_tape (session plan) 1 (over_tape s x y r) executions

  abbrev count : ℕ
  count = length (frames_in events)

  -- the plan fits its part
  fitted : All (IsFitted plan.part) plan.tasks
  fitted = plan_fitted s r.openings plan made_is

  -- so its session sends valid bodies
  bodies : SendsValidBodies (session plan)
  bodies = session_asks plan sound fitted

  -- all that passed, passed during the run
  these : y.link.transcript ≡ r.during
  these = same s x y r plan made_is silent

  -- the session's frames are those that were sent
  frames_are : frames_in events ≡ frames (sent r.during)
  frames_are =
      sym (frames_sent events (sends_whole (session plan) 1 (over_tape s x y r) bodies))
      ∙ ap frames (sent_is s x y r plan made_is silent)

  -- the link forges no frame for the session
  forges_none : ForgesNoFrame m (session plan) 1 (over_tape s x y r) p executions []
  forges_none =
      none_forged m (session plan) 1 (over_tape s x y r) p executions [] []
      (subst (λ (fs : List (List ℕ)). NoneForged m fs (over_tape s x y r) p executions [])
      (sym (append-nil (frames_in events) ∙ frames_are))
      (subst (λ (passed : Transcript). NoneForged m (frames (sent passed)) (heard passed) p executions []) these none))

  -- so the session goes along the exchanges of its tape
  goes : GoesAlongExchanges m (session plan) 1 (over_tape s x y r) p executions
  goes = grind (arith, goes_as, over_tape, bodies, no_forged_frame_authentic, forges_none)

  -- its frames leave this programmer
  stands : (state_after m count (session plan) p exchanges).programmer
      ≡ after_sent_frames m (frames (sent y.link.transcript)) executions p
  stands =
      goes.programmer count (omega arith)
      ∙ ap (λ (fs : List (List ℕ)). after_sent_frames m fs executions p)
      (take_all count (frames_in events) (omega arith)
      ∙ (frames_are ∙ sym (ap (λ (passed : Transcript). frames (sent passed)) these)))

  -- the session ended with status 0
  ended : (state_after m count (session plan) p exchanges).dialog ≡ Done 0
  ended = (goes.outcome 0 r.next (left_over s x y r)
      (ap (λ (o : Played OutputEvent ℕ). o.outcome) (played_is s x y r plan made_is silent))).0

  -- an image that was compared after the last write is there
  seen : (done rest : List Action) (mem : Mem) (image : Image) → work plan
      ≡ done ++ (CompareImage mem image ∷ rest) → Reads mem → Each (ReadsAction Reads) rest
      → HoldsImage image (memory_in plan.part mem
      (view (after_sent_frames m (frames (sent y.link.transcript)) executions p)))
  seen done rest mem image are reads others =
      subst (λ (q : P). HoldsImage image (memory_in plan.part mem (view q))) stands
      (session_agrees plan sound m view IsIn Reads t done (CompareImage mem image ∷ rest) are
      (each_behind (FitsAction plan.part) done (CompareImage mem image ∷ rest)
      (subst (λ (all : List Action). AllFitActions plan.part all) are (work_fits plan fitted)))
      (reads, others) p i exchanges count ended).0

  -- so it is for the tasks
  pub last_there : LastAgree plan.part plan.switches Reads plan.tasks
      (view (after_sent_frames m (frames (sent y.link.transcript)) executions p))
  last_there = last_agree plan Reads (view (after_sent_frames m (frames (sent y.link.transcript)) executions p)) seen

-- ---- whatever a call over a link and a desk came to

pub promised_last : {P : Type 0} (m : Device P) (view : P → Memories) (IsIn : P → Type 0) (Reads : Mem → Type 0)
    (s : Settings) (x y : Devices) (status : ℕ) → (IsRun s x y status ⊎ IsStopped s x y status) → status ≡ 0
    → x.link.transcript ≡ []
    → KeepsPlan s x.desk.kept y.desk.kept [] (λ plan. LastIsThere m view IsIn Reads plan y.link.transcript)
promised_last m view IsIn Reads s x y status (inl ran) zero silent =
    let r : IsRun s x y 0 = subst (λ (k : ℕ). IsRun s x y k) zero ran in
    let plan : Plan = (made s x y r).0 in
    let made_is : (planned s r.openings).stage_outcome ≡ Produced plan = (made s x y r).1 in
    keeps_plan s x y r plan made_is silent (λ plan. LastIsThere m view IsIn Reads plan y.link.transcript)
    (λ sound t p executions i none.
    last_there s x y r plan made_is silent sound m view IsIn Reads t p executions i none)
promised_last m view IsIn Reads s x y status (inr stopped) zero silent =
    absurd (let one = stopped.1 in omega (arith, one, zero))
