-- The result of a call over a link and a desk: its dialog ran whole, or it broke off.
use Rattle.std.specs.Prelude.{Bool, true, false, ◌||◌, List, [], ◌∷◌, ◌++◌, ◌≡◌, ◌<◌, ◌≤◌, ◌⊎◌, length, nat_eq, None, codes}
use Rattle.std.specs.List.{list_any, starts_with}
use Rattle.avr_io.specs.Record.{DeskState, ChangesRecord, after_err, Bytes}
use Rattle.avr_io.specs.Fault as desk
use Rattle.avr_io.specs.Fault.{CountsNeverFall, HasSameCounts, HasFailedAt}
use Rattle.avr_io.specs.declared.stream.Stream.TheVariants.{File}
use Rattle.stk_host.specs.Transcript as link
use Rattle.stk_host.specs.Transcript.{Transcript, LinkState, NoneTaken, Grows}
use Rattle.stk_host.specs.Dialog.{Dialog, Event, Frame, Emitted, outputs}
use Rattle.stk_host.specs.Play.{Progress, Plays, Breaks, played_over}
use Rattle.avr_io.specs.Lines.{error, memory_line, not_created_pieces, not_written_pieces}
use Rattle.avr_session.specs.Lines.{unsent_pieces, unreceived_pieces}
use Rattle.avr_io.specs.OutputEvents.{OutputEvent, PrintsLine, CreatesFile, WritesFile, WritesOutput, IsPartOfEvent, IsBytePrefixOf, ReportsLineAs, after_events}

-- The state of a link and a desk.
pub record Devices : Type 0 where
  pub link : LinkState
  pub desk : DeskState

-- A link and a desk by their states.
abbrev pub devices : LinkState → DeskState → Devices
devices link desk = record { link = link; desk = desk }

-- No call of link or desk failed between these states.
abbrev pub NoDeviceFailed : Devices → Devices → Type 0
NoDeviceFailed old new = (new.link.failures ≡ old.link.failures) × HasSameCounts old.desk new.desk

-- Nothing was sent or received yet; the next frame has number 1.
abbrev pub start : Progress
start = record { next = 1; unread = [] }

-- What failed at a file: its creation, or a write to it.
pub data FileTrouble : Type 0 where
  NotCreated : FileTrouble
  NotWritten : FileTrouble

-- Why a run stops: the link failed at sending or at receiving, the desk failed at a file or at printing, or allocation
-- failed.
pub data Cause : Type 0 where
  SendingFailed : Cause
  ReceivingFailed : Cause
  FileFailed : Bytes → FileTrouble → Cause
  PrintingFailed : Cause
  AllocationFailed : Cause

-- The line that reports the cause, if one can be printed.
unfoldable pub cause_line : Cause → Bytes
cause_line SendingFailed = error unsent_pieces
cause_line ReceivingFailed = error unreceived_pieces
cause_line (FileFailed file NotCreated) = error (not_created_pieces file)
cause_line (FileFailed file NotWritten) = error (not_written_pieces file)
cause_line PrintingFailed = []
cause_line AllocationFailed = memory_line

-- The event prints an error's line.
abbrev pub is_error : OutputEvent → Bool
is_error (PrintsLine bytes) = starts_with nat_eq bytes (codes "avrstk: error: ")
is_error event = false

-- A line of an error is among these output events.
abbrev pub reports_fault : List OutputEvent → Bool
reports_fault events = list_any is_error events

-- A prefix of the next frame was sent, perhaps nothing. The whole frame was sent only if the failed send took its end.
pub record StopsInFrame (during : Transcript) (begun later : List (Event OutputEvent)) : Type 0 where
  pub done : Bytes
  pub unsent : Bytes
  pub more : List (Event OutputEvent)
  pub due : later ≡ Frame (done ++ unsent) ∷ more
  pub part : begun ≡ Frame done ∷ []
  pub not_whole : NoneTaken during → 0 < length unsent

-- A prefix of the next bytes was printed or written; `begun` has it, and `later` has all of them.
pub record StopsInOutput (event : Bytes → OutputEvent) (begun later : List (Event OutputEvent)) : Type 0 where
  pub bytes : Bytes
  pub done : Bytes
  pub more : List (Event OutputEvent)
  pub due : later ≡ Emitted (event bytes) ∷ more
  pub part : begun ≡ Emitted (event done) ∷ []
  pub prefix : IsBytePrefixOf done bytes

-- The last of these events created this file.
abbrev pub EndsWithCreation : Bytes → List (Event OutputEvent) → Type 0
EndsWithCreation file whole = (before : List (Event OutputEvent)) × (whole ≡ before ++ Emitted (CreatesFile file) ∷ [])

-- A cause stops a run after the whole events, within the next one, or before it if that is the creation of a file.
-- Bytes are written to a file that was created just before, or to standard output, whose name is `-`.
abbrev pub StopsAt : Cause → Transcript → List (Event OutputEvent) → List (Event OutputEvent)
    → List (Event OutputEvent) → Type 0
StopsAt SendingFailed during whole begun later = StopsInFrame during begun later
StopsAt ReceivingFailed during whole begun later = NoneTaken during × (begun ≡ []) × (later ≡ [])
StopsAt (FileFailed file NotCreated) during whole begun later =
    (begun ≡ []) × (more : List (Event OutputEvent)) × (later ≡ Emitted (CreatesFile file) ∷ more)
StopsAt (FileFailed file NotWritten) during whole begun later =
    (EndsWithCreation file whole × StopsInOutput WritesFile begun later)
    ⊎ ((file ≡ codes "-") × StopsInOutput WritesOutput begun later)
StopsAt PrintingFailed during whole begun later = StopsInOutput PrintsLine begun later
StopsAt AllocationFailed during whole begun later = begun ≡ []

-- The cause occurred before any other: by the counts of failures only this device failed. No count shows a failed
-- allocation, which occurs only if the dialog allocates.
abbrev pub CauseOccurred : Bool → Devices → Devices → Cause → Type 0
CauseOccurred allocates old then (FileFailed file trouble) =
    HasFailedAt File old.desk then.desk × (then.link.failures ≡ old.link.failures)
CauseOccurred allocates old then PrintingFailed =
    desk.HasFailedToReport old.desk then.desk × (then.link.failures ≡ old.link.failures)
CauseOccurred allocates old then AllocationFailed = (allocates ≡ true) × NoDeviceFailed old then
CauseOccurred allocates old then cause = link.HasFailed old.link then.link × HasSameCounts old.desk then.desk

-- The cause's line was reported. After a fault's line only the link or the printing can fail, and nothing more is
-- reported.
abbrev pub ReportsCause : Bool → Cause → Bytes → DeskState → DeskState → Type 0
ReportsCause false cause notice old new = ReportsLineAs (cause_line cause) notice old new
ReportsCause true (FileFailed file trouble) notice old new = ⊥
ReportsCause true AllocationFailed notice old new = ⊥
ReportsCause true cause notice old new = notice ≡ []

-- The terms of a run: whether it allocates, and whether a fault was reported before.
pub record Terms : Type 0 where
  pub allocates : Bool
  pub has_reported : Bool

-- The terms of a run that has reported no fault yet.
abbrev pub before_fault : Bool → Terms
before_fault allocates = record { allocates = allocates; has_reported = false }

-- When allocation can fail: a predicate of the start, the transcript and the events so far.
abbrev pub RunAllocationPoints : Type 1
RunAllocationPoints = Progress → Transcript → List (Event OutputEvent) → Type 0

-- Why a run stops after this output, and what is reported: the cause occurred by `between`, and was reported from
-- there on.
pub record StopsAfterOutput (terms : Terms) (old new : Devices) (emitted : List OutputEvent) (cause : Cause)
    (notice : Bytes) : Type 0 where
  pub between : DeskState
  pub cause_occurred : CauseOccurred terms.allocates old (devices new.link between) cause
  pub is_reported : ReportsCause (terms.has_reported || reports_fault emitted) cause notice between new.desk
  pub since : CountsNeverFall old.desk between
  pub until : CountsNeverFall between new.desk

-- The dialog ran whole over the unread bytes and the items received. What was sent, output and returned is its run's,
-- whatever follows on the tape. At most one piece is left unread. No call of a device failed, because a failure stops
-- a run.
pub record RanWhole {R : Type 0} (dialog : Dialog OutputEvent R) (before : Progress) (old new : Devices) (result : R)
    (after : Progress) : Type 0 where
  pub during : Transcript
  pub events : List (Event OutputEvent)
  pub grows : Grows old.link.transcript during new.link.transcript
  pub plays : Plays dialog before during events result after
  pub few : length before.unread ≤ 281 → length after.unread ≤ 281
  pub kept : ChangesRecord (after_events (outputs events)) old.desk new.desk
  pub sound : NoDeviceFailed old new

-- The dialog broke off. What was sent and output is a prefix of its events, the last one perhaps in part, and then
-- the report of the cause. If receiving failed, the dialog waits for a reply. If allocation failed, it did so at a
-- moment that `points` allows.
pub record BrokeOff {R : Type 0} (dialog : Dialog OutputEvent R) (before : Progress) (old new : Devices)
    (terms : Terms) (points : RunAllocationPoints) : Type 0 where
  pub during : Transcript
  pub shown : List (Event OutputEvent)
  pub cause : Cause
  pub notice : Bytes
  pub grows : Grows old.link.transcript during new.link.transcript
  pub breaks : Breaks IsPartOfEvent dialog before during shown
  pub place : StopsAt cause during breaks.prefix.whole breaks.prefix.begun breaks.prefix.later
  pub waits : cause ≡ ReceivingFailed → (played_over dialog before during).outcome ≡ None
  pub stops : StopsAfterOutput terms old new (outputs shown) cause notice
  pub at_point : cause ≡ AllocationFailed → points before during shown
  pub kept : ChangesRecord (λ r. after_err notice (after_events (outputs shown) r)) old.desk new.desk
