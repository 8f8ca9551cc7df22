-- THE HEADLINE. What a run does, from settings to status. Each term is defined here, or one step below in the file
-- that its `use` names. Sections 1 to 3 hold over any link, section 4 over a wire to the emulated programmer that
-- forges no frame. Beside this page are specs/OverFaultyLink (what a session leaves), specs/Program (from a command
-- line) and specs/Emulated (over a chip file). docs/PROOFS.md lists what is not proved.
use Rattle.std.specs.Prelude.{ℕ, ◌≡◌, ◌≤◌, ◌⊎◌, List, [], ◌∷◌, ◌++◌, map, length, Some, None}
use Rattle.avr_plan.specs.declared.settings.Settings.{Settings}
use Rattle.avr_io.specs.Record.{DeskState, ChangesRecord, Bytes, after_err}
use Rattle.avr_io.specs.declared.record.Opening.{Opening}
use Rattle.avr_io.specs.declared.record.Opening.TheVariants.{Found}
use Rattle.avr_io.specs.Lines.{memory_line, not_opened_line, not_read_line}
use Rattle.avr_io.specs.StageRuns.{AllocatesThere, BreakCause, BreakFitsNext, LineNotPrinted, NotOpened, NotRead, NoMemoryForFile, opened_and_read_in_part}
use Rattle.avr_io.specs.OutputEvents.{OutputEvent, Opens, PrintsLine, IsPartOfEvent, IsBytePrefixOf, after_events}
use Rattle.avr_plan.specs.Plan.{Plan}
use Rattle.avr_plan.specs.Planning.{LacksPart, planned}
use Rattle.avr_plan.specs.AllocationPoints.{AtAllocatingUpdate}
use Rattle.avr_io.specs.StageRuns.{StageBrokeOff}
use Rattle.avr_io.specs.Stage.{StageOutcome, Produced, Refused, NotReadToEnd}
use Rattle.avr_session.specs.Run.{LacksPlan, RunsSession, StopsSession, WithPlan}
use Rattle.avr_session.specs.Actions.{actions}
use Rattle.avr_session.specs.AllocationPoints.{AtAllocation}
use Rattle.avr_session.specs.Runs.{Devices, devices, start, Cause, AllocationFailed, NoDeviceFailed, StopsAt, cause_line}
use Rattle.avr_session.specs.Session.{session}
use Rattle.avr_tool.specs.OverFaultyLink.{SessionOverWire}
use Rattle.stk_emu.specs.Wired.{WiredState, wired_link}
use Rattle.stk_host.specs.Dialog.{Event, Emitted, Played, played, prepend_events, bytes_sent, outputs}
use Rattle.stk_host.specs.Play.{InTurn, IsPrefixOfEvents}
use Rattle.stk_host.specs.Transcript.{Transcript, sent, heard, Grows}
use Rattle.stk_host.specs.Tape.{Tape, on_tape}

-- ---- 1. The run, as one function of the settings, of what opening files gives, and of what the link gives

-- A plan is run. A refusal is reported, with status 1. A file that was not read to its end can't be checked.
abbrev pub run_after_planning : StageOutcome Plan → Tape → Played OutputEvent ℕ
run_after_planning (Produced plan) tape = played (session plan) 1 tape
run_after_planning (Refused line) tape = record { events = Emitted (PrintsLine line) ∷ []; outcome = Some (1, 1, tape) }
run_after_planning NotReadToEnd tape = record { events = []; outcome = None }

-- THE RUN: all that is sent and output, and the status
abbrev pub run : Settings → List Opening → Tape → Played OutputEvent ℕ
run settings openings tape = let p = planned settings openings in
    prepend_events (map Emitted p.output_events) (run_after_planning p.stage_outcome tape)

-- ---- 2. What a call does is the run

-- Before each piece received the plan's session was waiting, with all its frames sent. Without a plan nothing was
-- received.
abbrev pub IsInTurn : StageOutcome Plan → Transcript → Type 0
IsInTurn (Produced plan) transcript = InTurn (session plan) start transcript
IsInTurn stage_outcome transcript = heard transcript ≡ []

-- For these openings and what was received, whatever follows on either, the run is these events and this status. The
-- bytes sent are its frames, and the desk did its output events, in order. At most one piece is left unread. No call
-- of a device failed, because a failure stops a run.
pub record IsRun (settings : Settings) (before now : Devices) (status : ℕ) : Type 0 where
  pub openings : List Opening
  pub during : Transcript
  pub events : List (Event OutputEvent)
  pub next : ℕ
  pub left : List ℕ
  pub is : (later : List Opening) (more : Tape) → run settings (openings ++ later) (heard during ++ more)
      ≡ record { events = events; outcome = Some (status, next, on_tape left ++ more) }
  pub in_turn : (later : List Opening) → IsInTurn (planned settings (openings ++ later)).stage_outcome during
  pub all_sent : bytes_sent events ≡ sent during
  pub grows : Grows before.link.transcript during now.link.transcript
  pub kept : ChangesRecord (after_events (outputs events)) before.desk now.desk
  pub few : length left ≤ 281
  pub sound : NoDeviceFailed before now

-- ---- 3. Or it stopped: a device failed, the first one since the run began, or allocation failed, in a session only
-- at an action that allocates. The line of the reason is cut short only if a write to the messages failed; a failure
-- at a file excuses no missing line. After a fault's line there is none.

-- It stopped in planning: a prefix of planning's output was done, and nothing was sent or received. Allocation failed
-- only for the next file, or at an update that allocates without a file. Without a part file and updates the only fault
-- is an unknown part, which was reported.
pub record StoppedPlanning (settings : Settings) (before now : Devices) : Type 0 where
  pub broke : StageBrokeOff (AtAllocatingUpdate settings) (planned settings) before.desk now.desk
  pub bare : settings.parts ≡ None → settings.updates ≡ [] → LacksPart settings.part [] before.desk now.desk
  pub same : now.link ≡ before.link

-- The run stopped, and its status is 1. It stopped in its session: a prefix of the session was sent and output, and
-- then the cause was reported. Or it stopped in planning.
abbrev pub IsStopped : Settings → Devices → Devices → ℕ → Type 0
IsStopped settings before now status =
    (WithPlan settings before.desk (λ plan between. StopsSession plan (devices before.link between) now)
    ⊎ StoppedPlanning settings before now) × (status ≡ 1)

-- Why a run stopped: a cause in the session, or a break in planning.
pub data Reason : Type 0 where
  InSession : Cause → Reason
  InPlanning : BreakCause → Reason

-- The line that reports it.
abbrev pub stop_line : Reason → Bytes
stop_line (InSession cause) = cause_line cause
stop_line (InPlanning (LineNotPrinted line)) = line
stop_line (InPlanning (NotOpened name)) = not_opened_line name
stop_line (InPlanning (NotRead name bytes)) = not_read_line name
stop_line (InPlanning break) = memory_line

-- The reading of a file that had begun when planning broke off.
abbrev pub opened_at : Reason → List OutputEvent
opened_at (InPlanning (NotRead name bytes)) = opened_and_read_in_part name bytes ∷ []
opened_at (InPlanning (NoMemoryForFile reading)) = Opens (Found reading) ∷ []
opened_at reason = []

-- A break in planning fits what it left out, which begins with output events: the line that couldn't be printed, or the
-- file that couldn't be opened or read, is the next one.
abbrev pub FitsNext : BreakCause → List Opening → List (Event OutputEvent) → Type 0
FitsNext break openings later = (next : List OutputEvent) × (behind : List (Event OutputEvent))
    × (later ≡ map Emitted next ++ behind) × BreakFitsNext break openings next

-- These events are those of planning, which made a plan, and then those of its session up to an action that allocates.
abbrev pub StopsAtAllocation : Settings → List Opening → Transcript → List (Event OutputEvent) → Type 0
StopsAtAllocation settings openings during events =
    let p = planned settings openings in
    (plan : Plan) × (shown : List (Event OutputEvent)) × (p.stage_outcome ≡ Produced plan)
    × (events ≡ map Emitted p.output_events ++ shown)
    × AtAllocation plan.part plan.switches (actions plan) start during shown

-- The reason fits the place where the run stopped, given the openings so far and those that would have followed. In
-- planning the last event is whole. Allocation failed only for the next file, at an update that allocates without a
-- file, or at an action that allocates.
abbrev pub StopsThere : {shown events : List (Event OutputEvent)} → Settings → List Opening → Reason → Transcript
    → List Opening → IsPrefixOfEvents IsPartOfEvent shown events → Type 0
StopsThere {shown = shown} settings openings (InSession cause) during later prefix =
    StopsAt cause during prefix.whole prefix.begun prefix.later
    × (cause ≡ AllocationFailed → StopsAtAllocation settings (openings ++ later) during shown)
StopsThere settings openings (InPlanning break) during later prefix =
    (prefix.begun ≡ []) × FitsNext break later prefix.later
    × AllocatesThere (AtAllocatingUpdate settings) break openings (outputs prefix.whole)

-- What a stopped run did is a prefix of the run over what was received; only the last event may be incomplete. At the
-- desk this was done, and then perhaps a part of the next file was read. Then the line of the reason was reported, or a
-- prefix of it, and nothing else. The reason is one that stops a run at this place.
pub record IsPrefixOfRun (settings : Settings) (before now : Devices) : Type 0 where
  pub openings : List Opening
  pub during : Transcript
  pub shown : List (Event OutputEvent)
  pub reason : Reason
  pub notice : Bytes
  pub prefix : (later : List Opening) → IsPrefixOfEvents IsPartOfEvent shown
      (run settings (openings ++ later) (heard during)).events
  pub place : (later : List Opening) → StopsThere settings openings reason during later (prefix later)
  pub in_turn : (later : List Opening) → IsInTurn (planned settings (openings ++ later)).stage_outcome during
  pub all_sent : bytes_sent shown ≡ sent during
  pub grows : Grows before.link.transcript during now.link.transcript
  pub reported_part : IsBytePrefixOf notice (stop_line reason)
  pub kept : ChangesRecord (λ r. after_err notice (after_events (outputs shown ++ opened_at reason) r))
      before.desk now.desk

-- ---- 4. From settings to the bytes of the chip, over a fresh wire (stk_emu's `IsFresh`)

-- The contract of `run_wired`. A plan was made, and its session was run: whole, or until it stopped, as above (law
-- `a_run_is_one_function`). If the chip is of the plan's part, `SessionOverWire` states what happened to it. Or there
-- is no plan, and the wire is untouched.
abbrev pub RunsWired : Settings → WiredState → WiredState → DeskState → DeskState → ℕ → Type 0
RunsWired settings before after old now status = WithPlan settings old (λ plan between.
    RunsSession plan (devices (wired_link before) between) (devices (wired_link after) now) status
    × (before.wire.programmer.chip.part ≡ plan.part → SessionOverWire plan before after between now status))
    ⊎ (LacksPlan settings old now status × (after ≡ before))
