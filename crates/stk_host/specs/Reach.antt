-- How far a call has come in a dialog: for contracts of private functions, and of code without a host.
use Rattle.std.specs.Prelude.{ℕ, List, [], ◌∷◌, ◌++◌, ◌+◌, ◌≡◌, ◌<◌, ◌≤◌, length, Some, None, Result, OnOk, OnErr}
use Rattle.stk_host.specs.Tape.{Tape, Reading, on_tape, answer, reply_byte_limit}
use Rattle.stk_host.specs.Transcript.{Transcript, LinkState, Sent, Taken, Got, NoneTaken, sent, heard, Grows, LinkCounts}
use Rattle.stk_host.specs.Dialog.{Dialog, Event, played, prepend_events, bytes_sent}
use Rattle.stk_host.specs.Play.{InTurn, Progress}

-- A transcript leads from a dialog to its rest: the dialog's run is these events, then the run of the rest, whatever
-- follows on the tape.
pub record TranscriptLeads {E R : Type 0} (dialog : Dialog E R) (before : Progress) (transcript : Transcript)
    (events : List (Event E)) (rest : Dialog E R) (after : Progress) : Type 0 where
  pub goes_on : (more : Tape) → played dialog before.next (on_tape before.unread ++ (heard transcript ++ more))
      ≡ prepend_events events (played rest after.next (on_tape after.unread ++ more))
  pub all_sent : bytes_sent events ≡ sent transcript
  pub none_taken : NoneTaken transcript
  pub in_turn : InTurn dialog before transcript

-- A call has come this far, between these states of the link, which has not failed.
pub record Reaches {R : Type 0} (dialog : Dialog ⊥ R) (before : Progress) (old : LinkState)
    (rest : Dialog ⊥ R) (after : Progress) (new : LinkState) : Type 0 where
  pub during : Transcript
  pub events : List (Event ⊥)
  pub grows : Grows old.transcript during new.transcript
  pub leads : TranscriptLeads dialog before during events rest after
  pub sound : new.failures ≡ old.failures

-- Nothing was received, and nothing passed after a send that failed.
abbrev pub NothingReceived : Transcript → Type 0
NothingReceived [] = Unit {0}
NothingReceived (Sent bytes ∷ transcript) = NothingReceived transcript
NothingReceived (Taken bytes ∷ transcript) = transcript ≡ []
NothingReceived (Got tape ∷ transcript) = ⊥

-- These bytes were sent, and nothing was received.
pub record SendsExactly (bytes : List ℕ) (old new : Transcript) : Type 0 where
  pub during : Transcript
  pub grows : Grows old during new
  pub quiet : NothingReceived during
  pub none_taken : NoneTaken during
  pub bytes_sent : sent during ≡ bytes

-- A part of these bytes was sent, perhaps nothing, and nothing was received. All were sent only if the send that
-- failed took the last of them.
pub record SendsOnlyPart (bytes : List ℕ) (old new : Transcript) : Type 0 where
  pub part : List ℕ
  pub unsent : List ℕ
  pub bytes_are : bytes ≡ part ++ unsent
  pub some : 0 < length bytes
  pub during : Transcript
  pub grows : Grows old during new
  pub quiet : NothingReceived during
  pub bytes_sent : sent during ≡ part
  pub not_whole : NoneTaken during → 0 < length unsent

-- What `send_all` ensures: it sends all of these bytes, or a part if the link fails.
pub record SendsAll {E : Type 0} (bytes : List ℕ) (old new : LinkState) (result : Result (Unit {0}) E) : Type 0 where
  pub ok : OnOk result (SendsExactly bytes old.transcript new.transcript)
  pub err : OnErr result (SendsOnlyPart bytes old.transcript new.transcript)
  pub counts : LinkCounts old new result

-- At each piece received there was no reply yet, and nothing was sent.
abbrev pub WaitsFrom : ℕ → Tape → Transcript → Type 0
WaitsFrom seq tape [] = Unit {0}
WaitsFrom seq tape (Got items ∷ transcript) = (answer seq tape ≡ None) × WaitsFrom seq (tape ++ items) transcript
WaitsFrom seq tape (other ∷ transcript) = ⊥

-- The reply was waited for within the limit of bytes, and `left` is unread after it.
pub record ReceivesReply (seq : ℕ) (unread : List ℕ) (old new : LinkState) (reading : Reading)
    (left : List ℕ) : Type 0 where
  pub during : Transcript
  pub grows : Grows old.transcript during new.transcript
  pub waits : WaitsFrom seq (on_tape unread) during
  pub few : length unread + length (heard during) ≤ reply_byte_limit
  pub reading_is : (more : Tape) → answer seq (on_tape unread ++ (heard during ++ more))
      ≡ Some (reading, on_tape left ++ more)

-- The wait broke off before the reply arrived, within the limit of bytes.
pub record ReceivesNoReply (seq : ℕ) (unread : List ℕ) (old new : LinkState) : Type 0 where
  pub during : Transcript
  pub grows : Grows old.transcript during new.transcript
  pub waits : WaitsFrom seq (on_tape unread) during
  pub few : length unread + length (heard during) ≤ reply_byte_limit
  pub no_reply : answer seq (on_tape unread ++ heard during) ≡ None
