-- The run of a stage over a desk: complete, or broken off because the desk or an allocation failed.
use Rattle.std.specs.Prelude.{◌≡◌, ◌⊎◌, ℕ, Bool, List, [], ◌∷◌, ◌++◌, true, false, Result, Ok, Err}
use Rattle.avr_io.specs.Fault.{CountsNeverFall, HasFailedToReport, HasSameCounts}
use Rattle.avr_io.specs.Record.{DeskState, ChangesRecord, Bytes}
use Rattle.avr_io.specs.declared.record.Opening.{Opening}
use Rattle.avr_io.specs.declared.record.Opening.TheVariants.{Found}
use Rattle.avr_io.specs.declared.record.Reading.{Reading}
use Rattle.avr_io.specs.Lines.{memory_line, not_opened_line, not_read_line}
use Rattle.avr_io.specs.OutputEvents.{OutputEvent, Opens, PrintsLine, IsBytePrefixOf, ReportsLineAs, ReportsFailureAs, after_events}
use Rattle.avr_io.specs.Stage.{Stage, StageOutcome, Produced, Refused, StageResult, events_with_refusal, next_opening}

-- The stage ran to its end and no call of the desk failed. For the openings that passed, the desk has the stage's
-- events, whatever later openings would give. The line of a refusal came last.
pub record StageCompleted {A : Type 0} (stage : Stage A) (old new : DeskState)
    (stage_outcome : StageOutcome A) : Type 0 where
  pub passed : List Opening
  pub output_events : List OutputEvent
  pub comes : (more : List Opening) → stage (passed ++ more)
      ≡ record { output_events = output_events; stage_outcome = stage_outcome; openings_left = more }
  pub kept : ChangesRecord (after_events (events_with_refusal output_events stage_outcome)) old new
  pub sound : HasSameCounts old new

-- Why a stage broke off. The next line couldn't be printed, the next file couldn't be opened, or reading it failed
-- after these bytes. Or allocation failed, with no file open or after this much of the next file.
pub data BreakCause : Type 0 where
  LineNotPrinted : Bytes → BreakCause
  NotOpened : Bytes → BreakCause
  NotRead : Bytes → Bytes → BreakCause
  NoMemory : BreakCause
  NoMemoryForFile : Reading → BreakCause

-- a file of this name was opened, and gave these bytes before reading failed
abbrev pub opened_and_read_in_part : Bytes → Bytes → OutputEvent
opened_and_read_in_part name bytes = Opens (Found (record { name = name; bytes = bytes; ended = false }))

-- the last events of a stage that broke off; `notice` was reported about the break
abbrev pub events_of_break : BreakCause → Bytes → List OutputEvent
events_of_break (NotRead name bytes) notice = opened_and_read_in_part name bytes ∷ PrintsLine notice ∷ []
events_of_break (NoMemoryForFile reading) notice = Opens (Found reading) ∷ PrintsLine notice ∷ []
events_of_break break notice = PrintsLine notice ∷ []

-- this event is the first of those left
abbrev pub IsNextEvent : OutputEvent → List OutputEvent → Type 0
IsNextEvent event later = (behind : List OutputEvent) × (later ≡ event ∷ behind)

-- the break fits the next event, and the openings that would have passed
abbrev pub BreakFitsNext : BreakCause → List Opening → List OutputEvent → Type 0
BreakFitsNext (LineNotPrinted line) more later = IsNextEvent (PrintsLine line) later
BreakFitsNext (NotOpened name) more later = IsNextEvent (Opens (next_opening name more)) later
BreakFitsNext (NotRead name bytes) more later = IsNextEvent (Opens (next_opening name more)) later
BreakFitsNext NoMemory more later = Unit {0}
BreakFitsNext (NoMemoryForFile reading) more later = IsNextEvent (Opens (next_opening reading.name more)) later

-- When a stage may fail to allocate while no file is open: after these openings and events. Contracts give the
-- points.
abbrev pub AllocationPoints : Type 1
AllocationPoints = List Opening → List OutputEvent → Type 0

-- only before any event, and only if `allocates`
abbrev pub OnlyAtStart : Bool → AllocationPoints
OnlyAtStart allocates passed emitted = (allocates ≡ true) × (passed ≡ []) × (emitted ≡ [])

-- a failed allocation without an open file is at one of these points
abbrev pub AllocatesThere : AllocationPoints → BreakCause → List Opening → List OutputEvent → Type 0
AllocatesThere taking NoMemory passed emitted = taking passed emitted
AllocatesThere taking break passed emitted = Unit {0}

-- The desk failed at a file or allocation failed, and the line about that was reported. Or a line couldn't be
-- printed: a prefix of it was printed, a write to the messages failed, and nothing else is reported.
abbrev pub ReportsBreakAs : BreakCause → Bytes → DeskState → DeskState → Type 0
ReportsBreakAs (LineNotPrinted line) notice old new = IsBytePrefixOf notice line × HasFailedToReport old new
ReportsBreakAs (NotOpened name) notice old new = ReportsFailureAs (not_opened_line name) notice old new
ReportsBreakAs (NotRead name bytes) notice old new = ReportsFailureAs (not_read_line name) notice old new
ReportsBreakAs NoMemory notice old new = ReportsLineAs memory_line notice old new
ReportsBreakAs (NoMemoryForFile reading) notice old new = ReportsLineAs memory_line notice old new

-- The events that a break left out, for some openings. No break follows the line of a refusal, because it is last.
pub record RestOfStage {A : Type 0} (played : StageResult A) (whole : List OutputEvent) (break : BreakCause)
    (more : List Opening) : Type 0 where
  pub later : List OutputEvent
  pub output_events_are : played.output_events ≡ whole ++ later
  pub broken : BreakFitsNext break more (events_with_refusal later played.stage_outcome)

-- The stage broke off. For the openings that passed, a prefix of its events, `whole`, was done, whatever later openings
-- would give. Then the reason was reported as `notice`. An allocation failed only where the stage allocates.
pub record StageBrokeOff {A : Type 0} (taking : AllocationPoints) (stage : Stage A) (old new : DeskState) : Type 0 where
  pub passed : List Opening
  pub whole : List OutputEvent
  pub break : BreakCause
  pub notice : Bytes
  pub rest : (more : List Opening) → RestOfStage (stage (passed ++ more)) whole break more
  pub taken : AllocatesThere taking break passed whole
  pub is_reported : ReportsBreakAs break notice old new
  pub kept : ChangesRecord (after_events (whole ++ events_of_break break notice)) old new
  pub follows : CountsNeverFall old new

-- the stage ran to its refusal, which was reported last
abbrev pub StageRefused : {A : Type 0} → Stage A → DeskState → DeskState → Type 0
StageRefused stage old new = (line : Bytes) × StageCompleted stage old new (Refused line)

-- The clause `goes` of calls that run a stage. `Ok` has the stage's result. The status of `Err` is 1; the stage was
-- refused or broke off, and that was reported.
abbrev pub RunsStage : {A : Type 0} → AllocationPoints → Stage A → DeskState → DeskState → Result A ℕ → Type 0
RunsStage taking stage old new (Ok a) = StageCompleted stage old new (Produced a)
RunsStage taking stage old new (Err status) =
    (status ≡ 1) × (StageRefused stage old new ⊎ StageBrokeOff taking stage old new)
