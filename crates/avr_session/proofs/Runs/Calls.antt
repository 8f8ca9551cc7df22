-- How a call over a link and a desk goes on in its dialog.
use Rattle.std.proofs.Common.{◌≡◌, ℕ, ◌≤◌, true, ◌||◌, List, [], ◌∷◌, ◌++◌, None, append_assoc, append-nil, length, map, refl, sym, ap, ◌∙◌, subst, rules}
use Rattle.std.proofs.Math.Bool.{or_assoc}
use Rattle.std.proofs.lemmas.List.Folds.{list_any-append}
use Rattle.avr_io.specs.Fault.{HasSameCounts}
use Rattle.avr_io.specs.Record.{Record, DeskState, ChangesRecord, after_err}
use Rattle.stk_host.specs.declared.fault.HostFault.{HostFault}
use Rattle.stk_host.specs.declared.fault.HostFault.TheVariants.{SendFailed, RecvFailed}
use Rattle.stk_host.specs.Tape.{Tape, on_tape}
use Rattle.stk_host.specs.Transcript.{Transcript, LinkState, NoneTaken, Grows, heard, sent}
use Rattle.stk_host.specs.Dialog.{Dialog, Done, ◌>>=◌, lifted, Event, Emitted, Played, played, bytes_sent, outputs}
use Rattle.stk_host.specs.Play.{Progress, InTurn, played_over, RunsOverLink, BreaksOverLink}
use Rattle.stk_host.specs.Reach.{TranscriptLeads}
use Rattle.stk_host.proofs.Transcripts.Laws.{grows_none, grows_on}
use Rattle.stk_host.proofs.Transcripts.InDialogs.{continued, played_bind, leads_here, leads_on, leads_bind, leads_emit, leads_from, breaks_on, breaks_bind}
use Rattle.stk_host.proofs.Dialogs.Lifted.{raised, plays_lifted, by_lifted, outputs_raised}
use Rattle.stk_host.proofs.Transcripts.Laws.{got_append}
use Rattle.avr_io.specs.OutputEvents.{OutputEvent, IsPartOfEvent, after_events}
use Rattle.avr_io.proofs.Stages.Outputs.{kept_on, kept_none, after_append}
use Rattle.avr_io.proofs.Lines.ReportedAs.{follows_on, follows_same, same_here, same_on}
use Rattle.avr_session.specs.Session.{emits}
use Rattle.avr_session.specs.Runs.{Devices, devices, NoDeviceFailed, Cause, SendingFailed, ReceivingFailed, AllocationFailed, reports_fault, StopsAt, RunAllocationPoints, Terms, StopsAfterOutput, RanWhole, BrokeOff}
use Rattle.avr_session.specs.Reporting.{IsOfDesk, OutputsPrefix, OutputsPrefixAndReports}
use Rattle.avr_session.proofs.Runs.Stops.{place_behind, outputs_emitted, map_append}

-- a point of a call: the rest of its dialog, the progress of its conversation, and the devices' states
pub record Point (R : Type 0) : Type 0 where
  pub left : Dialog OutputEvent R
  pub progress_at : Progress
  pub devices : Devices

-- A point by its three parts.
abbrev pub point : {R : Type 0} → Dialog OutputEvent R → Progress → Devices → Point R
point left progress_at devices = record { left = left; progress_at = progress_at; devices = devices }

-- a call has come from one point to another: what was sent and printed between them
pub record Came {R : Type 0} (x y : Point R) : Type 0 where
  pub during : Transcript
  pub events : List (Event OutputEvent)
  pub grows : Grows x.devices.link.transcript during y.devices.link.transcript
  pub leads : TranscriptLeads x.left x.progress_at during events y.left y.progress_at
  pub few : length x.progress_at.unread ≤ 281 → length y.progress_at.unread ≤ 281
  pub kept : ChangesRecord (after_events (outputs events)) x.devices.desk y.devices.desk
  pub sound : NoDeviceFailed x.devices y.devices

-- Between a state and itself no call failed.
pub none_failed_here : (o : Devices) → NoDeviceFailed o o
none_failed_here o = (refl, same_here o.desk)

-- If no call failed until a moment and none after it, none failed.
pub none_failed_on : (o p q : Devices) → NoDeviceFailed o p → NoDeviceFailed p q → NoDeviceFailed o q
none_failed_on o p q first then = (then.0 ∙ first.0, same_on o.desk p.desk q.desk first.1 then.1)

-- ---- output events among events

-- The output events of two lists are those of both.
pub outputs_append : (x y : List (Event OutputEvent)) → outputs (x ++ y) ≡ outputs x ++ outputs y
outputs_append [] y = refl
outputs_append (Emitted output ∷ x) y = ap (λ ss. output ∷ ss) (outputs_append x y)
outputs_append (_ ∷ x) y = outputs_append x y

-- The record after the output of two lists is that after the second, on the record after the first.
after_both : (x y : List (Event OutputEvent)) (r : Record)
    → after_events (outputs (x ++ y)) r ≡ after_events (outputs y) (after_events (outputs x) r)
after_both x y r = ap (λ ss. after_events ss r) (outputs_append x y) ∙ after_append (outputs x) (outputs y) r

-- ---- how far a call has come

-- A call has come so far, by these facts.
abbrev came : {R : Type 0} {x y : Point R} (during : Transcript) (events : List (Event OutputEvent))
    → Grows x.devices.link.transcript during y.devices.link.transcript
    → TranscriptLeads x.left x.progress_at during events y.left y.progress_at
    → (length x.progress_at.unread ≤ 281 → length y.progress_at.unread ≤ 281)
    → ChangesRecord (after_events (outputs events)) x.devices.desk y.devices.desk → NoDeviceFailed x.devices y.devices
    → Came x y
came during events grows leads few kept sound = record {
  during = during;
  events = events;
  grows = grows;
  leads = leads;
  few = few;
  kept = kept;
  sound = sound;
}

-- A call that did nothing has come to where it was.
unfoldable pub came_here : {R : Type 0} (dialog : Dialog OutputEvent R) (m : Progress) (o : Devices)
    → Came (point dialog m o) (point dialog m o)
came_here dialog m o = came [] [] (grows_none o.link.transcript) (leads_here dialog m) (λ f. f)
    (kept_none o.desk.kept) (none_failed_here o)

-- A call that came to a point, and from there to another, came to that one.
pub came_on : {R : Type 0} {x y z : Point R} → Came x y → Came y z → Came x z
came_on {x = x} {y = y} {z = z} f g =
    let o = x.devices in
    let p = y.devices in
    let q = z.devices in
    came (f.during ++ g.during) (f.events ++ g.events)
    (grows_on o.link.transcript p.link.transcript q.link.transcript f.during g.during f.grows g.grows)
    (leads_on f.leads g.leads) (λ few. g.few (f.few few)) (search (rules, kept_on, after_both))
    (none_failed_on o p q f.sound g.sound)

-- ---- a dialog that ran whole

-- A call that came to its result ran whole.
pub ran_from : {R : Type 0} {a : Dialog OutputEvent R} {m n : Progress} {o p : Devices} {result : R}
    → Came (point a m o) (point (Done result) n p) → RanWhole a m o p result n
ran_from f = search rules

-- If a dialog ran whole, a call of another one has come as far as this transcript leads it.
abbrev came_of : {A R : Type 0} {a : Dialog OutputEvent A} {m n : Progress} {o p : Devices} {result : A}
    {b c : Dialog OutputEvent R} (f : RanWhole a m o p result n) → TranscriptLeads b m f.during f.events c n
    → Came (point b m o) (point c n p)
came_of f leads = came f.during f.events f.grows leads f.few f.kept f.sound

-- If a call came to a point and ran whole from there, it ran whole.
pub ran_on : {R : Type 0} {x y : Point R} {q : Devices} {result : R} {n : Progress} → Came x y
    → RanWhole y.left y.progress_at y.devices q result n → RanWhole x.left x.progress_at x.devices q result n
ran_on f ran = ran_from (came_on f (came_of ran (leads_from ran.plays)))

-- ---- a dialog that broke off

-- What stops a part of a dialog on some terms stops the whole on its own, after these output events.
abbrev pub StopsWhole : Terms → Terms → List OutputEvent → Devices → Devices → Devices → Type 0
StopsWhole some all before o p q = (emitted : List OutputEvent) (cause : Cause) (notice : List ℕ)
    → StopsAfterOutput some p q emitted cause notice → StopsAfterOutput all o q (before ++ emitted) cause notice

-- if a failed allocation may stop the rest of a dialog, it may stop the whole, after this transcript and these events
abbrev pub LacksLater : RunAllocationPoints → Progress → Transcript → List (Event OutputEvent) → RunAllocationPoints
    → Progress → Type 0
LacksLater L m transcript events M n = (during : Transcript) (shown : List (Event OutputEvent)) → M n during shown
    → L m (transcript ++ during) (events ++ shown)

-- What stops a part stops the whole, if the output before it reports a fault just if the terms of the part say so.
pub stops_in : (some all : Terms) (before : List OutputEvent) (o p q : Devices) → (some.allocates ≡ true → all.allocates
    ≡ true) → NoDeviceFailed o p → (all.has_reported || reports_fault before) ≡ some.has_reported
    → StopsWhole some all before o p q
stops_in some all before o p q allocates sound same emitted cause notice stops =
    search (rules, or_assoc, list_any-append, follows_on, follows_same)

-- the events that happened, up to where the cause stopped them
record Placed (cause : Cause) (during : Transcript) (shown events : List (Event OutputEvent)) : Type 0 where
  whole : List (Event OutputEvent)
  begun : List (Event OutputEvent)
  later : List (Event OutputEvent)
  shown_is : shown ≡ whole ++ begun
  events_are : events ≡ whole ++ later
  place : StopsAt cause during whole begun later

-- A cause that stopped events stopped them after more events, too.
placed_behind : {cause : Cause} {shown events : List (Event OutputEvent)} (first during : Transcript)
    (before : List (Event OutputEvent)) → NoneTaken first
    → Placed cause during shown events → Placed cause (first ++ during) (before ++ shown) (before ++ events)
placed_behind {cause = cause} first during before none f = record {
  whole = before ++ f.whole;
  begun = f.begun;
  later = f.later;
  shown_is = ap (λ es. before ++ es) f.shown_is ∙ sym (append_assoc before f.whole f.begun);
  events_are = ap (λ es. before ++ es) f.events_are ∙ sym (append_assoc before f.whole f.later);
  place = place_behind cause first during before f.whole f.begun f.later none f.place;
}

-- A cause that stopped events stopped them before more events, too, unless the run waits.
placed_more : {cause : Cause} {during : Transcript} {shown events : List (Event OutputEvent)}
    (more : List (Event OutputEvent)) → (cause ≡ ReceivingFailed → more ≡ []) → Placed cause during shown events
    → Placed cause during shown (events ++ more)
placed_more {cause = cause} more none f = search (rules, append_assoc)

-- this was reported of a cause, with no output before it
abbrev pub ReportedBy : Terms → Cause → Devices → Devices → Type 0
ReportedBy terms cause o p = (notice : List ℕ) × StopsAfterOutput terms o p [] cause notice
    × ChangesRecord (after_err notice) o.desk p.desk

module _ {R : Type 0} {dialog : Dialog OutputEvent R} {m : Progress} {o p : Devices} {terms : Terms}
    {L : RunAllocationPoints}
  where
    -- A call that broke off has such a place in the events of its run.
    placed_of : (f : BrokeOff dialog m o p terms L)
        → Placed f.cause f.during f.shown (played_over dialog m f.during).events
    placed_of f = search rules

    -- A call broke off, by these facts.
    broke_off : (during : Transcript) (shown : List (Event OutputEvent)) (cause : Cause) (notice : List ℕ)
        → Grows o.link.transcript during p.link.transcript
        → Placed cause during shown (played_over dialog m during).events
        → bytes_sent shown ≡ sent during → InTurn dialog m during
        → (cause ≡ ReceivingFailed → (played_over dialog m during).outcome ≡ None)
        → StopsAfterOutput terms o p (outputs shown) cause notice
        → ChangesRecord (λ r. after_err notice (after_events (outputs shown) r)) o.desk p.desk
        → (cause ≡ AllocationFailed → L m during shown) → BrokeOff dialog m o p terms L
    broke_off during shown cause notice grows placed all_sent in_turn waits stops kept at_point = record {
      during = during;
      shown = shown;
      cause = cause;
      notice = notice;
      grows = grows;
      breaks = search rules;
      place = placed.place;
      waits = waits;
      stops = stops;
      at_point = at_point;
      kept = kept;
    }

    -- The same for a call without output.
    broke_silent : (during : Transcript) (shown : List (Event OutputEvent)) (cause : Cause) → outputs shown ≡ []
        → ReportedBy terms cause o p → Grows o.link.transcript during p.link.transcript
        → Placed cause during shown (played_over dialog m during).events → bytes_sent shown ≡ sent during
        → InTurn dialog m during → (cause ≡ ReceivingFailed → (played_over dialog m during).outcome ≡ None)
        → (cause ≡ AllocationFailed → L m during shown) → BrokeOff dialog m o p terms L
    broke_silent during shown cause quiet some grows placed all_sent in_turn waits at_point =
        broke_off during shown cause some.0 grows placed all_sent in_turn waits
        (rw quiet some.1) (rw quiet some.2) at_point

-- If a call came to a point and broke off after it, it broke off.
pub broke_on : {R : Type 0} {x y : Point R} {q : Devices} {some all : Terms} {L M : RunAllocationPoints}
    (came : Came x y) → StopsWhole some all (outputs came.events) x.devices y.devices q
    → LacksLater L x.progress_at came.during came.events M y.progress_at
    → BrokeOff y.left y.progress_at y.devices q some M → BrokeOff x.left x.progress_at x.devices q all L
broke_on {R = R} {x = x} {y = y} {q = q} {all = all} came why lack broke =
    let m = x.progress_at in
    let o = x.devices in
    let p = y.devices in
    let whole = breaks_on IsPartOfEvent came.leads broke.breaks in
    let play = ap (λ t. played x.left m.next (on_tape m.unread ++ t)) (got_append came.during broke.during)
    ∙ came.leads.goes_on (heard broke.during) in
    broke_off (came.during ++ broke.during) (came.events ++ broke.shown) broke.cause broke.notice
    (grows_on o.link.transcript p.link.transcript q.link.transcript came.during broke.during came.grows broke.grows)
    (subst (λ (play : Played OutputEvent R). Placed broke.cause (came.during ++ broke.during)
    (came.events ++ broke.shown) play.events) (sym play)
    (placed_behind came.during broke.during came.events came.leads.none_taken (placed_of broke))) whole.all_sent
    whole.in_turn (λ is. ap (λ (play : Played OutputEvent R). play.outcome) play ∙ broke.waits is)
    (search (rules, outputs_append))
    (search (rules, kept_on, after_both))
    (λ is. lack broke.during broke.shown (broke.at_point is))

-- Allocation fails nowhere.
abbrev pub Never : RunAllocationPoints
Never before during shown = ⊥

-- If a part without output ran, and then the rest broke off without allocating, the whole broke off.
pub broke_quietly : {R : Type 0} {x y : Point R} {q : Devices} {terms : Terms} {L : RunAllocationPoints}
    (came : Came x y) → outputs came.events ≡ [] → BrokeOff y.left y.progress_at y.devices q terms Never
    → BrokeOff x.left x.progress_at x.devices q terms L
broke_quietly {x = x} {y = y} {q = q} {terms = terms} came quiet broke =
    broke_on came (search rules) (λ during shown never. absurd never) broke

-- ---- an operation of the host

-- The cause for a fault of the link.
abbrev pub broken_cause : HostFault → Cause
broken_cause SendFailed = SendingFailed
broken_cause fault = ReceivingFailed

-- If the link broke off an operation, the call broke off.
broke_raised : {A : Type 0} (by : HostFault) {dialog : Dialog ⊥ A} {m : Progress} {o p : Devices} {terms : Terms}
    {L : RunAllocationPoints} → BreaksOverLink by dialog m o.link p.link → ReportedBy terms (broken_cause by) o p
    → BrokeOff (lifted dialog) m o p terms L
broke_raised SendFailed {dialog = dialog} {m = m} f some =
    let g = by_lifted OutputEvent SendFailed dialog m f.during f.shown f.breaks in
    broke_silent f.during (raised f.shown) SendingFailed (outputs_raised f.shown) some f.grows
    (search rules) g.all_sent g.in_turn (λ is. absurd (cc)) (λ is. absurd (cc))
broke_raised RecvFailed {dialog = dialog} {m = m} f some =
    let g = by_lifted OutputEvent RecvFailed dialog m f.during f.shown f.breaks in
    let none = sym (append-nil (raised f.shown)) in
    broke_silent f.during (raised f.shown) ReceivingFailed (outputs_raised f.shown) some f.grows (record {
      whole = raised f.shown;
      begun = [];
      later = [];
      shown_is = none;
      events_are = sym g.shown_is ∙ none;
      place = (g.none_taken, refl, refl);
    }) g.all_sent g.in_turn (λ is. g.waits) (λ is. absurd (cc))
broke_raised _ f some = absurd f.breaks

-- what follows a part of a dialog
module _ {A R : Type 0} (go_on : A → Dialog OutputEvent R) where
  unfoldable pub came_lifted : {dialog : Dialog ⊥ A} {m n : Progress} {o p : LinkState} {result : A} (d : DeskState)
      → RunsOverLink dialog m o p result n → length n.unread ≤ 281
      → Came (point (lifted dialog >>= go_on) m (devices o d)) (point (go_on result) n (devices p d))
  came_lifted d f few =
      came f.during (raised f.events) f.grows (leads_bind go_on (leads_from (plays_lifted f.plays))) (λ _. few)
      (rw (outputs_raised f.events) (kept_none d.kept)) (f.sound, same_here d)

  -- If the first part of a dialog ran whole, the call has come to what follows it.
  unfoldable pub came_part : {a : Dialog OutputEvent A} {m n : Progress} {o p : Devices} {result : A}
      → RanWhole a m o p result n → Came (point (a >>= go_on) m o) (point (go_on result) n p)
  came_part f = came_of f (leads_bind go_on (leads_from f.plays))

  -- If the first part of a dialog broke off, the dialog did.
  pub broke_part : {a : Dialog OutputEvent A} {m : Progress} {o p : Devices} {some all : Terms}
      {L M : RunAllocationPoints} → StopsWhole some all [] o o p → LacksLater L m [] [] M m → BrokeOff a m o p some M
      → BrokeOff (a >>= go_on) m o p all L
  broke_part {a = a} {m = m} why lack f =
      let play = played a m.next (on_tape m.unread ++ heard f.during) in
      let next : A → ℕ → Tape → Played OutputEvent R = λ r. played (go_on r) in
      let bound = sym (played_bind a go_on m.next (on_tape m.unread ++ heard f.during)) in
      broke_off f.during f.shown f.cause f.notice f.grows
      (subst (λ (play : Played OutputEvent R). Placed f.cause f.during f.shown play.events) bound (placed_more
      (continued play.outcome next).events (λ is. ap (λ o. (continued o next).events) (f.waits is)) (placed_of f)))
      f.breaks.all_sent (breaks_bind IsPartOfEvent go_on f.breaks).in_turn
      (λ is. ap (λ (p : Played OutputEvent R). p.outcome) (sym bound)
      ∙ ap (λ o. (continued o next).outcome) (f.waits is)) (why (outputs f.shown) f.cause f.notice f.stops) f.kept
      (λ is. lack f.during f.shown (f.at_point is))

  -- If the link broke off an operation, the dialog that begins with it broke off.
  pub broke_operation : (by : HostFault) {dialog : Dialog ⊥ A} {m : Progress} {o p : Devices} {terms : Terms}
      {L : RunAllocationPoints} → BreaksOverLink by dialog m o.link p.link → ReportedBy terms (broken_cause by) o p
      → BrokeOff (lifted dialog >>= go_on) m o p terms L
  broke_operation by {L = L} f some =
      broke_part {M = L} (λ emitted cause notice s. s) (λ during shown lack. lack) (broke_raised by f some)

-- ---- output

-- Output events lead to what follows them, without any transcript.
leads_output : {R : Type 0} (xs : List OutputEvent) (dialog : Dialog OutputEvent R) (m : Progress)
    → TranscriptLeads (emits xs dialog) m [] (map Emitted xs) dialog m
leads_output [] dialog m = leads_here dialog m
leads_output (x ∷ xs) dialog m = leads_on (leads_emit x (emits xs dialog) m) (leads_output xs dialog m)

-- The events of a dialog that outputs first are this output, and then those of what follows.
emits_events : {R : Type 0} (xs : List OutputEvent) (dialog : Dialog OutputEvent R) (seq : ℕ) (u : List ℕ)
    → (played (emits xs dialog) seq (on_tape u ++ [])).events
    ≡ map Emitted xs ++ (played dialog seq (on_tape u ++ [])).events
emits_events [] dialog seq u = refl
emits_events (x ∷ xs) dialog seq u = ap (λ es. Emitted x ∷ es) (emits_events xs dialog seq u)

-- Output events send no bytes.
no_bytes : (xs : List OutputEvent) → bytes_sent (map {B = Event OutputEvent} Emitted xs) ≡ []
no_bytes [] = refl
no_bytes (x ∷ xs) = no_bytes xs

-- what stops a report stops it after a prefix of its output
abbrev pub StopsReport : Terms → LinkState → DeskState → DeskState → List OutputEvent
    → (DeskState → DeskState → Cause → List ℕ → Type 0) → Type 0
StopsReport terms o d e outputs By = (mid : DeskState) (cause : Cause) (prefix : OutputsPrefix cause d mid outputs)
    (notice : List ℕ) → By d e cause notice → StopsAfterOutput terms (devices o d) (devices o e) (prefix.whole
    ++ prefix.begun) cause notice

module _ {R : Type 0} (xs : List OutputEvent) (dialog : Dialog OutputEvent R) (m : Progress) (o : LinkState) where
  -- If output was done, the call has come to what follows it.
  pub came_emitted : {d e : DeskState} → ChangesRecord (after_events xs) d e × HasSameCounts d e
      → Came (point (emits xs dialog) m (devices o d)) (point dialog m (devices o e))
  came_emitted {d = d} {e = e} emitted =
      search (rules, grows_none o.transcript, leads_output xs dialog m, outputs_emitted xs)

  -- If a cause stopped output, the call broke off.
  pub broke_output : {By : DeskState → DeskState → Cause → List ℕ → Type 0} {terms : Terms} {L : RunAllocationPoints}
      {d e : DeskState} → StopsReport terms o d e xs By → OutputsPrefixAndReports By d e xs
      → BrokeOff (emits xs dialog) m (devices o d) (devices o e) terms L
  broke_output {terms = terms} {d = d} {e = e} why f =
      let prefix = f.prefix in
      let shown : List OutputEvent = prefix.whole ++ prefix.begun in
      broke_off [] (map Emitted shown) f.cause f.notice (grows_none o.transcript)
      (subst (Placed f.cause [] (map Emitted shown)) (sym (emits_events xs dialog m.next m.unread))
      (placed_more (played_over dialog m []).events (λ receives. absurd (search rules))
      (search (rules, map_append)))) (no_bytes shown) tt (λ is. absurd (subst IsOfDesk is prefix.by_desk))
      (rw (outputs_emitted shown) (why f.between f.cause f.prefix f.notice f.stops))
      (search (rules, kept_on, outputs_emitted)) (λ is. absurd (subst IsOfDesk is prefix.by_desk))

-- If allocation failed at once, the call broke off before anything happened.
pub broke_lacking : {R : Type 0} {terms : Terms} {L : RunAllocationPoints} {o p : Devices}
    (dialog : Dialog OutputEvent R) (m : Progress)
    → p.link ≡ o.link → ReportedBy terms AllocationFailed o p → L m [] [] → BrokeOff dialog m o p terms L
broke_lacking {o = o} dialog m same some lack = broke_silent [] [] AllocationFailed refl some
    (rw same (grows_none o.link.transcript)) (search rules) refl tt (λ is. absurd (cc)) (λ is. lack)
