-- The states of this crate's links, and what one call does.
use Rattle.std.specs.Prelude.{ℕ, List, [], ◌∷◌, ◌++◌, ◌≡◌, ◌≢◌, ◌≤◌, ◌<◌, ◌+◌, ◌-◌, replicate, take, Option, Some, None, Result, Err, OnErr}
use Rattle.std.specs.Io.KnownBytes.{Keeps, Appends, Consumes, IsAtEnd}
use Rattle.std.specs.declared.io.ErrorKind.{ErrorKind}
use Rattle.std.specs.declared.io.ErrorKind.TheVariants.{WouldBlock, TimedOut, Interrupted}
use Rattle.stk_host.specs.declared.link.Heard.{Heard}
use Rattle.stk_host.specs.declared.link.Heard.TheVariants as in_code
use Rattle.stk_host.specs.declared.link.Item.{Item}
use Rattle.stk_host.specs.declared.link.Item.TheVariants.{Byte, Silence, End}
use Rattle.stk_host.specs.declared.link.LinkFault.{LinkFault}
use Rattle.stk_host.specs.declared.link.LinkFault.TheVariants.{Failed}
use Rattle.stk_host.specs.Tape.{Tape, on_tape, leading_bytes, bytes_on_tape}
use Rattle.ghosts.specs.Failures.{counted}
use Rattle.stk_host.specs.Transcript.{Transcript, LinkState, TakesPart, HasFailed, heard, sent}

-- A log: the transcript, and its room for pieces and for bytes sent.
pub record LogState : Type 0 where
  pub transcript : Transcript
  pub piece_room : ℕ
  pub byte_room : ℕ

-- A tape link: the items left, the most bytes of a piece, the transcript, and the count of failures.
pub record TapeState : Type 0 where
  pub left : Tape
  pub cut : ℕ
  pub transcript : Transcript
  pub failures : ℕ

-- The items received since `old`, followed by those left, are the items that were left. After the last come only ends.
-- It is `started_as` of a `TapeLink`.
pub record ConsumesTape (old new : TapeState) : Type 0 where
  pub during : Transcript
  pub grows : new.transcript ≡ old.transcript ++ during
  pub ends : ℕ
  pub gave : heard during ++ new.left ≡ old.left ++ replicate ends End
  pub over : 0 < ends → new.left ≡ []

-- What contracts of links see of a tape link.
abbrev pub tape_state : TapeState → LinkState
tape_state link = record { transcript = link.transcript; failures = link.failures }

-- The next piece of a tape, of at most `most` bytes; an end if no item is left.
abbrev pub next_piece : ℕ → Tape → Tape
next_piece most (Silence ∷ tape) = Silence ∷ []
next_piece most (Byte byte ∷ tape) = on_tape (take most (byte ∷ leading_bytes tape))
next_piece most _ = End ∷ []

abbrev pub byte_of : Option Item → Option ℕ
byte_of (Some (Byte byte)) = Some byte
byte_of _ = None

-- A stream link: reader, writer, failures, the kind of the last error, and the transcript for proofs alone.
pub record StreamState (R W : Type 0) : Type 0 where
  pub reader : R
  pub writer : W
  pub failures : ℕ
  pub last_error : Option ErrorKind
  pub transcript : Transcript

-- What contracts of links see of a stream link.
abbrev pub stream_state : {R W : Type 0} → StreamState R W → LinkState
stream_state link = record { transcript = link.transcript; failures = link.failures }

-- A reader timed out when it had given these bytes since `old`.
abbrev pub TimedOutAfter : {R : Type 0} → (R → Option (List ℕ)) → (R → Type 0) → R → List ℕ → Type 0
TimedOutAfter {R = R} remaining has_timed_out old bytes =
    (reader : R) × has_timed_out reader × Consumes (remaining old) (remaining reader) bytes

-- Each item `Silence` of the tape was a timeout after the bytes before it: `before`, and then those on the tape.
abbrev pub EachTimedOut : (List ℕ → Type 0) → List ℕ → Tape → Type 0
EachTimedOut IsTimeout before [] = Unit {0}
EachTimedOut IsTimeout before (Silence ∷ tape) = IsTimeout before × EachTimedOut IsTimeout before tape
EachTimedOut IsTimeout before (Byte byte ∷ tape) = EachTimedOut IsTimeout (before ++ byte ∷ []) tape
EachTimedOut IsTimeout before (End ∷ tape) = EachTimedOut IsTimeout before tape

-- The transcript since `old` is true: `started_as` of a `StreamLink`. The bytes received are those that the reader
-- gave, in order and none lost. Each timeout received was one of the reader, after the same bytes. The bytes sent are
-- those that the writer took, also in a send that failed.
pub record TranscriptIsTrueSince {R W : Type 0} (remaining : R → Option (List ℕ)) (has_timed_out : R → Type 0)
    (contents : W → Option (List ℕ)) (old new : StreamState R W) : Type 0 where
  pub during : Transcript
  pub grows : new.transcript ≡ old.transcript ++ during
  pub gave : Consumes (remaining old.reader) (remaining new.reader) (bytes_on_tape (heard during))
  pub paused : EachTimedOut (TimedOutAfter remaining has_timed_out old.reader) [] (heard during)
  pub took : Appends (contents old.writer) (contents new.writer) (sent during)
  pub counted : old.failures ≤ new.failures

-- An error kind that makes `recv` fail: neither a timeout nor an interruption, which is retried.
abbrev pub IsListeningFailure : Option ErrorKind → Type 0
IsListeningFailure None = ⊥
IsListeningFailure (Some kind) = (kind ≢ WouldBlock) × (kind ≢ TimedOut) × (kind ≢ Interrupted)

-- Received from a reader whose bytes are known: its next bytes, or an end after the last.
abbrev pub ReceivesKnownBytes : Heard → List ℕ → Option (List ℕ) → Option (List ℕ) → Type 0
ReceivesKnownBytes (in_code.Bytes count) buffer old new = Consumes old new (take count buffer)
ReceivesKnownBytes in_code.Silence buffer old new = Keeps old new
ReceivesKnownBytes in_code.End buffer old new = Keeps old new × IsAtEnd new

-- A failed send took a part of the bytes, and a writer whose bytes are known took exactly that part.
pub record TakesKnownBytes (bytes : List ℕ) (before now : Transcript) (old new : Option (List ℕ)) : Type 0 where
  pub takes : TakesPart bytes before now
  pub took : Appends old new (sent takes.last)

-- A failing link: the inner link, the calls up to the one that fails (0: none does), the most bytes of a piece, and
-- its own failures.
pub record FailingState (L : Type 0) : Type 0 where
  pub inner : L
  pub due : ℕ
  pub cut : ℕ
  pub failed : ℕ

-- The due call fails without calling the inner link. Any other call fails only if the inner link does.
pub record FailsAsPlanned {A L : Type 0} (view : L → LinkState) (old new : FailingState L)
    (result : Result A LinkFault) : Type 0 where
  pub due : new.due ≡ old.due - 1
  pub cut : new.cut ≡ old.cut
  pub chosen : old.due ≡ 1 → (result ≡ Err Failed) × (new.inner ≡ old.inner)
  pub others : old.due ≢ 1 → (new.failed ≡ old.failed) × OnErr result (HasFailed (view old.inner) (view new.inner))

-- The inner link's transcript, and the failures of both.
abbrev pub failing_link_state : {L : Type 0} → (L → LinkState) → FailingState L → LinkState
failing_link_state view link =
    record { transcript = (view link.inner).transcript; failures = counted ((view link.inner).failures + link.failed) }
