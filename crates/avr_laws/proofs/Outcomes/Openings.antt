-- What a run over a link opens: the files that ask for its plan, in order. Its session opens none.
use Rattle.std.proofs.Common.{◌≡◌, ℕ, List, [], ◌∷◌, ◌++◌, append-nil, refl, inl, inr, rules, Some, None, Result}
use Rattle.avr_plan.specs.declared.settings.Settings.{Settings}
use Rattle.avr_plan.specs.declared.settings.Switches.{Switches}
use Rattle.avr_plan.specs.declared.update.Format.{Format}
use Rattle.avr_io.proofs.Stages.Breaks.{openings_in, openings_shown}
use Rattle.avr_io.specs.Record.{Bytes, DeskState, ChangesRecord, all_openings}
use Rattle.avr_io.specs.OutputEvents.{OutputEvent, Opens, IsPartOfEvent, after_events}
use Rattle.avr_io.specs.Stage.{Produced}
use Rattle.avr_io.specs.declared.record.Opening.{Opening}
use Rattle.avr_part.specs.Part.{Part}
use Rattle.avr_part.specs.declared.part.Mem.{Mem}
use Rattle.avr_plan.specs.Plan.{Plan}
use Rattle.avr_plan.specs.Planning.{planned}
use Rattle.avr_session.proofs.Runs.Calls.{outputs_append}
use Rattle.avr_session.specs.Actions.{SkippedByDryRun, Action, OpenSession, actions}
use Rattle.avr_session.specs.Run.{RunsSession, WithPlan}
use Rattle.avr_session.specs.Runs.{Devices, devices, start}
use Rattle.avr_session.specs.Session.{action_dialog, actions_dialog, bytes_output, emits, ending, opening_output, read_output, reported, session, session_dialog, skipped_output, standing, status_of, unless_fault}
use Rattle.avr_session.specs.Standing.{Standing}
use Rattle.stk_host.specs.Dialog.{Dialog, Done, Emit, Ask, ◌>>=◌, Event, continue_with_reading, lifted, next, outputs, played}
use Rattle.stk_host.specs.Operations.{opening}
use Rattle.stk_host.specs.Play.{IsPartOfFirst, IsPrefixOfEvents}
use Rattle.stk_host.specs.Tape.{Reading, Tape, answer, on_tape}
use Rattle.stk_host.specs.Transcript.{heard}
use Rattle.stk_host.specs.declared.fault.HostFault.{HostFault}
use Rattle.avr_laws.proofs.Plans.Given.{desk_asked, opened_by_uses, openings_joined, openings_since, went_asked}
use Rattle.avr_laws.specs.KeptByPort.{KeepsPlan}

-- ---- output that opens no file

abbrev NoneOpened : List OutputEvent → Type 0
NoneOpened output_events = openings_in output_events ≡ []

-- the output of each action opens none
opening_none : (quiet : ℕ) (part : Part) (outcome : Result Bytes HostFault)
    → NoneOpened (opening_output quiet part outcome)
opening_none quiet part outcome = search (rules, openings_joined)

-- nor does the line of a count
bytes_none : (quiet : ℕ) (mem : Mem) (count : ℕ) (done : Bytes) → NoneOpened (bytes_output quiet mem count done)
bytes_none quiet mem count done = search rules

-- nor does the save of a memory
read_none : (s : Switches) (mem : Mem) (format : Format) (file bytes : Bytes)
    → NoneOpened (read_output s mem format file bytes)
read_none s mem format file bytes = search (rules, bytes_none)

-- nor does what a dry run leaves out
skipped_none : (quiet : ℕ) (what : SkippedByDryRun) → NoneOpened (skipped_output quiet what)
skipped_none quiet what = search (rules, bytes_none)

-- ---- dialogs that open no file, whatever is read

abbrev OpensNone : {R : Type 0} → Dialog OutputEvent R → Type 0
OpensNone (Done r) = Unit {0}
OpensNone (Emit (Opens opening) dialog) = ⊥
OpensNone (Emit event dialog) = OpensNone dialog
OpensNone {R = R} (Ask body resume) = (reading : Reading) → OpensNone (resume reading)

-- nor do dialogs one after the other
bind_none : {A R : Type 0} (dialog : Dialog OutputEvent A) (go_on : A → Dialog OutputEvent R) → OpensNone dialog
    → ((a : A) → OpensNone (go_on a)) → OpensNone (dialog >>= go_on)
bind_none (Done a) go_on opens more = more a
bind_none (Emit (Opens opening) dialog) go_on opens more = absurd opens
bind_none (Emit event dialog) go_on opens more = bind_none dialog go_on opens more
bind_none (Ask body resume) go_on opens more = λ reading. bind_none (resume reading) go_on (opens reading) more

-- nor does a dialog that puts nothing out
lifted_none : {R : Type 0} (dialog : Dialog ⊥ R) → OpensNone (lifted dialog)
lifted_none (Done r) = tt
lifted_none (Emit e dialog) = absurd e
lifted_none (Ask body resume) = λ reading. lifted_none (resume reading)

-- nor does output before a dialog
emits_none : {R : Type 0} (output_events : List OutputEvent) (dialog : Dialog OutputEvent R)
    → openings_in output_events ≡ [] → OpensNone dialog → OpensNone (emits output_events dialog)
emits_none [] dialog opens more = more
emits_none (Opens opening ∷ output_events) dialog opens more = absurd (cc opens)
emits_none (event ∷ output_events) dialog opens more = emits_none output_events dialog opens more

-- so a run of such a dialog opens none
played_none : {R : Type 0} (dialog : Dialog OutputEvent R) (seq : ℕ) (tape : Tape) → OpensNone dialog
    → openings_in (outputs (played dialog seq tape).events) ≡ []
played_none (Done r) seq tape opens = refl
played_none (Emit (Opens opening) dialog) seq tape opens = absurd opens
played_none (Emit event dialog) seq tape opens = played_none dialog seq tape opens
played_none (Ask body resume) seq tape opens =
    elim (answer seq tape) as (λ o. openings_in
    (outputs (continue_with_reading (λ r. played (resume r) (next seq)) o).events) ≡ []) [
      | None ↦ refl
      | Some got ↦ played_none (resume got.0) (next seq) got.1 (opens got.0)
    ]

-- ---- a session

-- an operation that is reported
reported_none : {A : Type 0} (operation : Dialog ⊥ (Result A HostFault))
    (outcome_output : Result A HostFault → List OutputEvent)
    → ((outcome : Result A HostFault) → NoneOpened (outcome_output outcome))
    → OpensNone (reported operation outcome_output)
reported_none operation outcome_output each = search (rules, bind_none, lifted_none, emits_none)

-- a dialog that a fault leaves out
unless_none : (dialog : Dialog OutputEvent Standing) → OpensNone dialog → (before : Standing)
    → OpensNone (unless_fault dialog before)
unless_none dialog opens before = search rules

module _ (part : Part) (s : Switches) where
  -- each action
  action_none : (action : Action) → OpensNone (action_dialog part s action)
  action_none action = search (rules, reported_none, opening_none, bytes_none, read_none, emits_none, skipped_none)

  -- so do all actions
  actions_none : (all : List Action) → OpensNone (actions_dialog part s all)
  actions_none [] = tt
  actions_none (action ∷ all) = search (rules, bind_none, unless_none, action_none, actions_none all)

  -- so does the end of a session
  ending_none : (before : Standing) → OpensNone (ending part s before)
  ending_none before = search (rules, reported_none, bind_none)

-- a session
session_none : (plan : Plan) → OpensNone (session plan)
unfolding session
session_none plan = search (rules, bind_none, actions_none, ending_none)

-- so a session opens no file
pub session_opens_none : (plan : Plan) (seq : ℕ) (tape : Tape)
    → openings_in (outputs (played (session plan) seq tape).events) ≡ []
session_opens_none plan seq tape = played_none (session plan) seq tape (session_none plan)

-- ---- nor does a prefix of it

-- if a list is empty, its first part is
front_none : (xs ys : List Opening) → xs ++ ys ≡ [] → xs ≡ []
front_none [] ys is = refl
front_none (x ∷ xs) ys is = absurd (cc is)

-- an event that broke off opens nothing
begun_none : (begun later : List (Event OutputEvent)) → IsPartOfFirst IsPartOfEvent begun later
    → openings_in (outputs begun) ≡ []
begun_none begun later part = search rules

-- nor does a prefix of events
prefix_none : (shown events : List (Event OutputEvent)) → IsPrefixOfEvents IsPartOfEvent shown events
    → openings_in (outputs events) ≡ [] → openings_in (outputs shown) ≡ []
prefix_none shown events prefix opens =
    search (rules, outputs_append, openings_joined, front_none, begun_none prefix.begun prefix.later prefix.part)

-- so the record of a session, whole or not, shows no more openings
session_opened : (plan : Plan) (old new : Devices) (status : ℕ) → RunsSession plan old new status
    → all_openings new.desk.kept ≡ all_openings old.desk.kept
session_opened plan old new status (inl (after, ran)) =
    let none = session_opens_none plan start.next (on_tape start.unread ++ (heard ran.during ++ [])) in
    search (rules, openings_since old.desk new.desk (outputs ran.events) ran.kept, ran.plays.plays [], none, append-nil)
session_opened plan old new status (inr (broke, one)) = search (
  rules,
  prefix_none,
  session_opens_none,
  openings_shown,
  append-nil,
  broke.shown,
  start.next,
  start.unread,
  broke.during,
  broke.breaks.prefix,
  old.desk.kept,
  broke.kept,
)

-- ---- so a run opens the files that ask for its plan, and no others

pub run_keeps : (s : Settings) (plan : Plan) (openings : List Opening) (tape : Tape) (old new : DeskState)
    (output_events : List OutputEvent) (IsSo : Plan → Type 0) → (planned s openings).stage_outcome ≡ Produced plan
    → output_events ≡ (planned s openings).output_events ++ outputs (played (session plan) 1 tape).events
    → ChangesRecord (after_events output_events) old new → IsSo plan → KeepsPlan s old.kept new.kept [] IsSo
run_keeps s plan openings tape old new output_events IsSo made are kept so = (
  plan,
  openings_in (planned s openings).output_events,
  opened_by_uses old.kept new.kept (openings_in (planned s openings).output_events ++ [])
      (search (rules, openings_since old new output_events kept, openings_joined, session_opens_none)),
  desk_asked s openings plan made,
  so,
)

-- so it is with a session, whole or not
pub session_keeps : (s : Settings) (x y : Devices) (status : ℕ) (IsSo : Plan → Type 0)
    (with : WithPlan s x.desk (λ plan desk. RunsSession plan (devices x.link desk) y status)) → IsSo with.plan
    → KeepsPlan s x.desk.kept y.desk.kept [] IsSo
session_keeps s x y status IsSo with so =
    let first = openings_since x.desk with.between with.made.output_events with.made.kept in
    let later = session_opened with.plan (devices x.link with.between) y status with.then_is in
    let asked = went_asked s with.plan x.desk with.between with.made in search (
      rules,
      openings_in,
      opened_by_uses,
      append-nil,
    )
