-- Planning and session as one run.
use Rattle.std.proofs.Common.{◌≡◌, ℕ, ◌⊎◌, inl, inr, List, [], ◌∷◌, ◌++◌, map, Bool, refl, sym, ap, ◌∙◌, subst, arith, append_assoc, append-nil, rules}
use Rattle.avr_plan.specs.declared.settings.Settings.{Settings}
use Rattle.avr_plan.specs.declared.update.Update.{Update}
use Rattle.avr_io.specs.Fault.{CountsNeverFall}
use Rattle.avr_io.specs.Record.{DeskState, Bytes}
use Rattle.avr_io.specs.OutputEvents.{OutputEvent, PrintsLine, CreatesFile, IsPartOfEvent, IsBytePrefixOf, ReportsLineAs}
use Rattle.avr_io.proofs.Stages.Outputs.{kept_append, after_append}
use Rattle.avr_io.proofs.Lines.ReportedAs.{follows_on, follows_same, same_on}
use Rattle.avr_plan.specs.Plan.{Plan}
use Rattle.avr_plan.specs.Planning.{planned}
use Rattle.avr_io.specs.declared.record.Opening.{Opening}
use Rattle.stk_host.specs.Play.{IsPrefixOfEvents}
use Rattle.avr_io.specs.StageRuns.{StageCompleted, StageRefused, RestOfStage, BreakCause, LineNotPrinted, NoMemory, ReportsBreakAs}
use Rattle.avr_io.specs.Stage.{Produced, StageOutcome, StageResult, events_with_refusal}
use Rattle.stk_host.specs.Dialog.{Event, Played, Emitted, played, prepend_events, bytes_sent, outputs}
use Rattle.stk_host.specs.Transcript.{LinkState, Transcript, heard, Grows}
use Rattle.stk_host.specs.Tape.{Tape}
use Rattle.stk_host.proofs.Transcripts.Laws.{grows_none}
use Rattle.avr_session.specs.Run.{RunsSession, RunsSettings, StopsSession, WithPlan}
use Rattle.avr_session.specs.Runs.{Devices, devices, Cause, StopsAt, NotWritten, FileFailed, ReportsCause, cause_line}
use Rattle.avr_session.specs.Session.{session}
use Rattle.avr_session.specs.Stopping.{RanToStatus}
use Rattle.avr_tool.specs.Headline.{run, run_after_planning, FitsNext, IsInTurn, IsRun, IsPrefixOfRun, Reason, StopsThere, InSession, InPlanning, stop_line, StoppedPlanning, IsStopped}

-- The outputs among these events are the output events, and then those of the rest.
pub emitted_outputs : (output_events : List OutputEvent) (events : List (Event OutputEvent))
    → outputs (map Emitted output_events ++ events) ≡ output_events ++ outputs events
emitted_outputs [] events = refl
emitted_outputs (event ∷ output_events) events = ap (λ rest. event ∷ rest) (emitted_outputs output_events events)

-- The outputs among output events are these.
emitted_whole : (output_events : List OutputEvent) → outputs (map Emitted output_events) ≡ output_events
emitted_whole [] = refl
emitted_whole (event ∷ output_events) = ap (λ rest. event ∷ rest) (emitted_whole output_events)

-- Output events send no bytes.
pub emitted_bytes : (output_events : List OutputEvent) (events : List (Event OutputEvent))
    → bytes_sent (map Emitted output_events ++ events) ≡ bytes_sent events
emitted_bytes [] events = refl
emitted_bytes (event ∷ output_events) events = emitted_bytes output_events events

-- the run of what planning gave
abbrev after_planning : StageResult Plan → Tape → Played OutputEvent ℕ
after_planning p tape = prepend_events (map Emitted p.output_events) (run_after_planning p.stage_outcome tape)

-- Equal stages have equal outcomes.
outcomes_equal : {p q : StageResult Plan} → p ≡ q → p.stage_outcome ≡ q.stage_outcome
outcomes_equal e = ap (λ (p : StageResult Plan). p.stage_outcome) e

-- If a plan was made, and its session ran to a status, this is a run.
pub ran_whole : (settings : Settings) (plan : Plan) (x y : Devices) (between : DeskState) (status : ℕ)
    → StageCompleted (planned settings) x.desk between (Produced plan)
    → RanToStatus (session plan) (devices x.link between) y status → IsRun settings x y status
ran_whole settings plan x y between status went whole =
    let ran = whole.1 in
    record {
      openings = went.passed;
      during = ran.during;
      events = map Emitted went.output_events ++ ran.events;
      next = whole.0.next;
      left = whole.0.unread;
      is = search rules;
      in_turn = search rules;
      all_sent = emitted_bytes went.output_events ran.events ∙ ran.plays.all_sent;
      grows = ran.grows;
      kept = search (rules, kept_append, emitted_outputs);
      few = ran.few (omega arith);
      sound = (ran.sound.0, same_on x.desk between y.desk went.sound ran.sound.1);
    }

-- The openings of such a run are those of its planning.
pub ran_openings : (settings : Settings) (plan : Plan) (x y : Devices) (between : DeskState) (status : ℕ)
    (went : StageCompleted (planned settings) x.desk between (Produced plan))
    (whole : RanToStatus (session plan) (devices x.link between) y status)
    → (ran_whole settings plan x y between status went whole).openings ≡ went.passed
unfolding ran_whole
ran_openings settings plan x y between status went whole = refl

-- If planning refused, and this was reported, this is a run.
pub refused_whole : (settings : Settings) (x y : Devices) → y.link ≡ x.link
    → StageRefused (planned settings) x.desk y.desk → IsRun settings x y 1
refused_whole settings x y same (line, went) = record {
  openings = went.passed;
  during = [];
  events = map Emitted went.output_events ++ Emitted (PrintsLine line) ∷ [];
  next = 1;
  left = [];
  is = λ later more. ap (λ q. after_planning q more) (went.comes later);
  in_turn = λ later. subst (λ stage_outcome. IsInTurn stage_outcome []) (sym (outcomes_equal (went.comes later))) refl;
  all_sent = emitted_bytes went.output_events (Emitted (PrintsLine line) ∷ []);
  grows = subst (λ (l : LinkState). Grows x.link.transcript [] l.transcript) (sym same) (grows_none x.link.transcript);
  kept = search (rules, emitted_outputs);
  few = omega arith;
  sound = (ap (λ (l : LinkState). l.failures) same, went.sound);
}

-- No count of the desk falls in a session.
session_follows : (plan : Plan) (x y : Devices) (status : ℕ) → RunsSession plan x y status
    → CountsNeverFall x.desk y.desk
session_follows plan x y status runs = search (rules, follows_same, follows_on)

-- A session after planning is a run, or it broke off.
pub session_is_run : (settings : Settings) (plan : Plan) (x : Devices) (between : DeskState) (y : Devices) (status : ℕ)
    (made : StageCompleted (planned settings) x.desk between (Produced plan))
    → RunsSession plan (devices x.link between) y status → CountsNeverFall between y.desk
    × (((r : IsRun settings x y status) × (r.openings ≡ made.passed)) ⊎ (StopsSession plan (devices x.link between) y
    × (status ≡ 1)))
session_is_run settings plan x between y status made runs = search (rules, session_follows, either)
  where
    -- The session ran whole, or it broke off.
    either : RunsSession plan (devices x.link between) y status
        → ((r : IsRun settings x y status) × (r.openings ≡ made.passed))
        ⊎ (StopsSession plan (devices x.link between) y × (status ≡ 1))
    either (inl whole) = inl (
      ran_whole settings plan x y between status made whole,
      ran_openings settings plan x y between status made whole,
    )
    either (inr broke) = inr broke

-- A run of settings is `IsRun` or `IsStopped`.
pub is_run : (settings : Settings) (x : Devices) (between : DeskState) (y : Devices) (status : ℕ)
    → RunsSettings settings x between y status → IsRun settings x y status ⊎ IsStopped settings x y status
is_run settings x between y status (inl (plan, made, runs)) = elim runs [
  | inl whole ↦ inl (ran_whole settings plan x y between status made whole)
  | inr broke ↦ search rules
]
is_run settings x between y status (inr (lacks, same)) = search (rules, refused_whole)

-- all that the desk did, in planning and then in the session
-- what was reported is a part of the reason's line
line_part : (line notice : Bytes) (x y : DeskState) → ReportsLineAs line notice x y → IsBytePrefixOf notice line
line_part line notice x y is_reported = search (rules, append-nil)

-- Where nothing was reported, this is a part of any line.
none_part : (line notice : Bytes) → notice ≡ [] → IsBytePrefixOf notice line
none_part line notice none = (line, ap (λ t. t ++ line) none)

-- What was reported of a cause is a part of its line.
cause_part : (has_reported : Bool) (cause : Cause) (notice : Bytes) (x y : DeskState)
    → ReportsCause has_reported cause notice x y → IsBytePrefixOf notice (cause_line cause)
cause_part has_reported cause notice x y is_reported = search (rules, line_part, none_part)

-- What was reported of a break in planning is a part of its line.
break_part : (break : BreakCause) (notice : Bytes) (x y : DeskState)
    → ReportsBreakAs break notice x y → IsBytePrefixOf notice (stop_line (InPlanning break))
break_part (LineNotPrinted line) notice x y is_reported = is_reported.0
break_part break notice x y is_reported = search (rules, line_part)

-- Two lists of output events before other events may be joined first.
emitted_append : (whole later : List OutputEvent) (events : List (Event OutputEvent))
    → map Emitted (whole ++ later) ++ events ≡ map Emitted whole ++ (map Emitted later ++ events)
emitted_append [] later events = refl
emitted_append (event ∷ whole) later events = ap (λ rest. Emitted event ∷ rest) (emitted_append whole later events)

-- ---- the place of a stop

-- in a session, behind what planning did
same_place : (before whole begun later : List (Event OutputEvent)) (cause : Cause) (during : Transcript)
    → StopsAt cause during whole begun later → StopsAt cause during (before ++ whole) begun later
same_place before whole begun later (FileFailed file NotWritten) during (inl place) = inl (
  (
    before ++ place.0.0,
    ap (λ (events : List (Event OutputEvent)). before ++ events) place.0.1
        ∙ sym (append_assoc before place.0.0 (Emitted (CreatesFile file) ∷ [])),
  ),
  place.1,
)
same_place before whole begun later (FileFailed file NotWritten) during (inr place) = inr place
same_place before whole begun later cause during place = search rules

-- in planning: the line of a refusal is an event of planning
with_line : (tape : Tape) (later : List OutputEvent) (outcome : StageOutcome Plan)
    → (more : List (Event OutputEvent)) × (map Emitted later ++ (run_after_planning outcome tape).events
    ≡ map Emitted (events_with_refusal later outcome) ++ more)
with_line tape later (Produced plan) = ((run_after_planning (Produced plan) tape).events, refl)
with_line tape later outcome = search (rules, emitted_append)

module _ (settings : Settings) (x y : Devices) (stopped : StoppedPlanning settings x y) (openings : List Opening) where
  -- What planning would have done next.
  abbrev rest : RestOfStage (planned settings (stopped.broke.passed ++ openings)) stopped.broke.whole
      stopped.broke.break openings
  rest = stopped.broke.rest openings

  -- What the run would have done next.
  abbrev behind : List (Event OutputEvent)
  behind = map Emitted rest.later
      ++ (run_after_planning (planned settings (stopped.broke.passed ++ openings)).stage_outcome []).events

  -- What planning did is a prefix of the run.
  abbrev prefix_planned : IsPrefixOfEvents IsPartOfEvent (map Emitted stopped.broke.whole ++ [])
      (run settings (stopped.broke.passed ++ openings) []).events
  prefix_planned = record {
    whole = map Emitted stopped.broke.whole;
    begun = [];
    later = behind;
    shown_is = refl;
    events_are = rw rest.output_events_are (emitted_append stopped.broke.whole rest.later _);
    part = tt;
  }

  -- The break fits the next event.
  place_planned : FitsNext stopped.broke.break openings behind
  place_planned =
      let both = with_line [] rest.later (planned settings (stopped.broke.passed ++ openings)).stage_outcome in
      (_, both.0, both.1, rest.broken)

module _ (settings : Settings) (x y : Devices)
    (stopped : WithPlan settings x.desk (λ plan between. StopsSession plan (devices x.link between) y))
    (openings : List Opening) where
  -- The output of planning.
  abbrev planned_events : List (Event OutputEvent)
  planned_events = map Emitted stopped.made.output_events

  -- What the session did is a prefix of the session.
  abbrev in_session : IsPrefixOfEvents IsPartOfEvent stopped.then_is.shown
      (played (session stopped.plan) 1 (heard stopped.then_is.during)).events
  in_session = stopped.then_is.breaks.prefix

  -- What planning and the session did is a prefix of the run.
  abbrev session_prefix : IsPrefixOfEvents IsPartOfEvent (planned_events ++ stopped.then_is.shown)
      (run settings (stopped.made.passed ++ openings) (heard stopped.then_is.during)).events
  session_prefix = record {
    whole = planned_events ++ in_session.whole;
    begun = in_session.begun;
    later = in_session.later;
    shown_is = ap (λ (events : List (Event OutputEvent)). planned_events ++ events) in_session.shown_is
        ∙ sym (append_assoc planned_events in_session.whole in_session.begun);
    events_are = ap (λ (p : StageResult Plan). (after_planning p (heard stopped.then_is.during)).events)
        (stopped.made.comes openings)
        ∙ (ap (λ (events : List (Event OutputEvent)). planned_events ++ events) in_session.events_are
        ∙ sym (append_assoc planned_events in_session.whole in_session.later));
    part = in_session.part;
  }

-- A run that stopped in its session did a prefix of the run.
stopped_prefix : (settings : Settings) (x y : Devices)
    → WithPlan settings x.desk (λ plan between. StopsSession plan (devices x.link between) y)
    → IsPrefixOfRun settings x y
stopped_prefix settings x y stopped = record {
  openings = stopped.made.passed;
  during = stopped.then_is.during;
  shown = map Emitted stopped.made.output_events ++ stopped.then_is.shown;
  reason = InSession stopped.then_is.cause;
  notice = stopped.then_is.notice;
  reported_part = cause_part _ stopped.then_is.cause stopped.then_is.notice _ y.desk stopped.then_is.stops.is_reported;
  prefix = λ later. session_prefix settings x y stopped later;
  place = λ later. search (rules, same_place);
  in_turn = λ later. search (rules, outcomes_equal, stopped.made.comes);
  all_sent = emitted_bytes stopped.made.output_events stopped.then_is.shown ∙ stopped.then_is.breaks.all_sent;
  grows = stopped.then_is.grows;
  kept = search (rules, after_append, append-nil, emitted_outputs);
}

-- A run that stopped in planning did a prefix of the run.
planned_prefix : (settings : Settings) (x y : Devices) → StoppedPlanning settings x y → IsPrefixOfRun settings x y
planned_prefix settings x y stopped = record {
  openings = stopped.broke.passed;
  during = [];
  shown = map Emitted stopped.broke.whole ++ [];
  reason = InPlanning stopped.broke.break;
  notice = stopped.broke.notice;
  reported_part = break_part stopped.broke.break stopped.broke.notice x.desk y.desk stopped.broke.is_reported;
  prefix = λ later. prefix_planned settings x y stopped later;
  place = λ later. (refl, place_planned settings x y stopped later, search (rules, emitted_whole));
  in_turn = λ later. search rules;
  all_sent = emitted_bytes stopped.broke.whole [];
  grows = search (rules, grows_none);
  kept = search (rules, append_assoc, after_append, emitted_outputs, append-nil);
}

-- Any run that stopped did a prefix of the run.
pub stop_prefix : (settings : Settings) (x y : Devices) (status : ℕ) → IsStopped settings x y status
    → IsPrefixOfRun settings x y
stop_prefix settings x y status stopped = search (rules, stopped_prefix, planned_prefix)

-- a text other than the next line is no prefix
abbrev line_of : List (Event OutputEvent) → Bytes
line_of (Emitted (PrintsLine line) ∷ more) = line
line_of other = []

-- No other text than the next line could be the line that was not printed.
pub another_text : (settings : Settings) (x y : Devices) (p : IsPrefixOfRun settings x y) (text line : Bytes)
    (more : List (Event OutputEvent)) → p.reason ≡ InPlanning (LineNotPrinted text)
    → (p.prefix []).later ≡ Emitted (PrintsLine line) ∷ more → (text ≡ line → ⊥) → ⊥
another_text settings x y p text line more because next other = search rules

-- without updates no allocation fails in planning, except for a file
pub no_memory : (settings : Settings) (x y : Devices) (p : IsPrefixOfRun settings x y)
    → p.reason ≡ InPlanning NoMemory → settings.updates ≡ [] → ⊥
no_memory settings x y p because empty =
    let there = subst (λ (reason : Reason). StopsThere settings p.openings reason p.during [] (p.prefix [])) because
    (p.place []) in
    let at = there.2.point in none at.done at.due at.more (sym empty ∙ at.updates_are)
  where
    -- Without updates there is no update at which allocation fails.
    none : (done : List Update) (due : Update) (more : List Update) → [] ≡ done ++ due ∷ more → ⊥
    none [] due more is = cc
    none (first ∷ done) due more is = cc

-- the same openings and the same items received lead to one status
pub one_status : (settings : Settings) (h i j k : Devices) (m n : ℕ) (x : IsRun settings h i m)
    (y : IsRun settings j k n) → x.openings ≡ y.openings → heard x.during ≡ heard y.during → m ≡ n
one_status settings h i j k m n x y same alike = let one = x.is [] [] in let other = y.is [] [] in search rules
