-- A session over a wire: its reports, and its end.
use Rattle.std.proofs.Common.{◌≡◌, ◌≤◌, ℕ, [], List, All, length, sym, ap, ◌∙◌, subst, arith, inl, inr, length-append, rules}
use Rattle.std.proofs.lemmas.List.{append-nil}
use Rattle.ghosts.specs.Preserves.{Preserves}
use Rattle.avr_plan.specs.declared.settings.Settings.{Settings}
use Rattle.avr_io.specs.Record.{Bytes, DeskState, ChangesRecord}
use Rattle.avr_io.specs.OutputEvents.{OutputEvent, after_events}
use Rattle.avr_part.specs.Sound.{IsSoundChip}
use Rattle.avr_plan.specs.Plan.{Plan, IsFitted}
use Rattle.avr_session.specs.Run.{RunsSession, StopsSession}
use Rattle.avr_session.specs.Runs.{devices}
use Rattle.avr_session.specs.Session.{session}
use Rattle.avr_session.specs.Stopping.{RanToStatus}
use Rattle.stk_frame.specs.Cut.{frames}
use Rattle.stk_host.specs.Dialog.{Dialog, Event, bytes_sent, played, outputs, frames_in}
use Rattle.stk_host.specs.Play.{InTurn, IsBytePrefixOf, progress_at}
use Rattle.stk_host.specs.Tape.{Tape}
use Rattle.stk_host.specs.Transcript.{sent, heard}
use Rattle.stk_emu.specs.DialogOverExchanges.{SendsValidBodies}
use Rattle.stk_emu.specs.Device.{device}
use Rattle.stk_emu.specs.Programmer.{Programmer, fresh_programmer}
use Rattle.stk_emu.specs.Exchange.{Exchange}
use Rattle.stk_emu.specs.Wire.{AreLawful, exchanges_of_fates, executions_of_fates}
use Rattle.stk_emu.specs.Wired.{WiredState, FollowsFates, ComesOf, IsFresh, wired_link}
use Rattle.stk_emu.specs.declared.fate.Fate.{Fate}
use Rattle.avr_tool.specs.OverFaultyLink.{EndsOverExchanges, SessionOverWire, events_over, memories}
use Rattle.avr_tool.specs.Emulated.{RunsOverEmulator, new_wire}
use Rattle.avr_tool.proofs.Lines.InTurn.{frames_prefix, goes_along, never_idle, sends_whole}
use Rattle.avr_tool.proofs.WirePlays.{asks_bodies, sent_in_turn, follows_fates, programmer_is_there, whole_comes}
use Rattle.avr_laws.specs.AnyLink.{OverAnyWire, ReportsOverExchanges, ReportsWereTrue}
use Rattle.avr_tool.specs.Authentic.{RepliesAreAuthentic}
use Rattle.avr_laws.proofs.Lines.AnyTape.{authentic_prefix}
use Rattle.avr_laws.proofs.ReportsOverExchanges.{ends_and_reports_over_exchanges, reports_over_exchanges}
use Rattle.avr_laws.proofs.Reports.OverTape.{by_fates, results_prefix}

-- what was received is authentic, by the fates of all frames that the run over it sends
pub authentic_received : {E R : Type 0} (d : Dialog E R) (n : ℕ) (p : Programmer) (fates : List Fate) (w : WiredState)
    → SendsValidBodies d → AreLawful fates → FollowsFates p fates w → InTurn d (progress_at n []) w.transcript
    → IsBytePrefixOf (sent w.transcript) (bytes_sent (played d n (heard w.transcript)).events)
    → RepliesAreAuthentic device d n (heard w.transcript) p
    (executions_of_fates (length (frames_in (played d n (heard w.transcript)).events)) fates)
authentic_received d n p fates w asks lawful follows_fates exchanges prefix =
    let events = (played d n (heard w.transcript)).events in
    let executions = executions_of_fates (length (frames_in events)) fates in
    let rest = frames_prefix events (sent w.transcript) prefix.0 (sends_whole d n (heard w.transcript) asks) prefix.1 in
    let within : length (frames (sent w.transcript)) ≤ length (frames_in events) =
    let all = ap length rest.1 in omega (arith, all, length-append (frames (sent w.transcript)) rest.0) in
    let brings = follows_fates.brings (never_idle d n p fates w.transcript asks lawful exchanges) in
    authentic_prefix device d n (heard w.transcript) w.waits p executions
    (subst (λ (t : Tape). RepliesAreAuthentic device d n t p executions) brings
    ((goes_along d n p fates w asks lawful follows_fates exchanges prefix).is_authentic (length (frames_in events)) within))

module _ (plan : Plan) (w v : WiredState) (fresh : IsFresh w) (stays : Preserves ComesOf w v)
    (is_sound : IsSoundChip w.wire.programmer.chip)
    (part_is : w.wire.programmer.chip.part ≡ plan.part) (fitted : All (IsFitted plan.part) plan.tasks)
    (old now : DeskState) (status : ℕ) where
  abbrev Runs : Type 0
  Runs = RunsSession plan (devices (wired_link w) old) (devices (wired_link v) now) status

  abbrev exchanges : List Exchange
  exchanges = exchanges_of_fates w.wire.fates

  -- what was reported is true
  reports : Runs → ReportsOverExchanges plan (fresh_programmer w.wire.programmer.chip) v.wire.programmer exchanges
      (sent v.transcript) (events_over plan v)
  reports runs =
      let all = length (frames_in (events_over plan v)) in
      let p = fresh_programmer w.wire.programmer.chip in
      let asks = asks_bodies plan w v fresh stays is_sound part_is fitted old now status in
      let follows = follows_fates plan w v fresh stays is_sound part_is fitted old now status in
      let is_first = sent_in_turn plan w v fresh stays is_sound part_is fitted old now status runs in
      reports_over_exchanges plan p is_sound part_is fitted exchanges v.wire.programmer (sent v.transcript)
      (programmer_is_there plan w v fresh stays is_sound part_is fitted old now status runs) (heard v.transcript)
      (executions_of_fates all w.wire.fates) is_first.1
      (authentic_received (session plan) 1 p w.wire.fates v asks fresh.lawful follows is_first.0 is_first.1)
      (by_fates all w.wire.fates)

  -- so are the session's end and its status, if it is whole
  pub over_any_wire : Runs → OverAnyWire plan w v old now status
  over_any_wire (inl whole) =
      let c = whole_comes plan w v fresh stays is_sound part_is fitted old now status whole in
      let stood = programmer_is_there plan w v fresh stays is_sound part_is fitted old now status (inl whole) in
      search (rules, reports, ends_and_reports_over_exchanges)
  over_any_wire (inr broke) = record { along_exchanges = reports (inr broke); end = inr broke }

-- so of a run over the emulator
pub emulated_wire : {settings : Settings} {file : Bytes} {old now : DeskState} {status : ℕ}
    → (r : RunsOverEmulator settings file old now status)
    → OverAnyWire r.plan (new_wire r.chip []) r.after r.loaded_desk r.played_desk r.session_status
emulated_wire r =
    over_any_wire r.plan (new_wire r.chip []) r.after (search rules) r.comes r.sound r.part r.fitted r.loaded_desk
    r.played_desk r.session_status r.runs

one_is_not_zero : ◌≡◌ {A = ℕ} 1 0 → ⊥
one_is_not_zero e = cc

-- a session with status 0, and one that sent no frame
module _ (plan : Plan) (w v : WiredState) (d e : DeskState) (status : ℕ) (over : SessionOverWire plan w v d e status)
  where
    abbrev emitted : List OutputEvent
    emitted = outputs (events_over plan v)

    -- with status 0 the session came to its end
    pub came_to : status ≡ 0 → EndsOverExchanges plan (memories w) (memories v) (exchanges_of_fates w.wire.fates)
        emitted status × ChangesRecord (after_events emitted) d e
    came_to zero = elim over.end [ inl came ↦ came | inr broke ↦ absurd (one_is_not_zero (sym broke.1 ∙ zero)) ]

    -- a session that sent no frame left the memories
    pub untouched : frames (sent v.transcript) ≡ [] → memories v ≡ memories w
    untouched none = search rules

-- what was reported is a prefix of the output of the session over what was received
module _ (plan : Plan) (w v : WiredState) (d e : DeskState) (status : ℕ) (silent : w.transcript ≡ [])
    (over : OverAnyWire plan w v d e status) where
  abbrev AreTrue : List (Event OutputEvent) → Type 0
  AreTrue = ReportsWereTrue plan (fresh_programmer w.wire.programmer.chip) (exchanges_of_fates w.wire.fates)

  -- a whole session
  pub played_truly : (whole : RanToStatus (session plan) (devices (wired_link w) d) (devices (wired_link v) e) status)
      → AreTrue whole.1.events
  played_truly whole =
      let over_tape = ap (λ t. (played (session plan) 1 t).events)
      (search (rules, append-nil)) in
      subst AreTrue (over_tape ∙ ap (λ x. x.events) (whole.1.plays.plays [])) over.along_exchanges.reports_are_true

  -- and one that broke off
  pub stopped_truly : (stopped : StopsSession plan (devices (wired_link w) d) (devices (wired_link v) e))
      → AreTrue stopped.breaks.prefix.whole
  stopped_truly stopped = search (rules, results_prefix, over)
