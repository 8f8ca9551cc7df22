-- A transcript of a link as the run of a dialog: to its end, or broken off.
use Rattle.std.specs.Prelude.{ℕ, List, [], ◌∷◌, ◌++◌, ◌≡◌, ◌<◌, length, Some, None}
use Rattle.stk_host.specs.declared.fault.HostFault.{HostFault}
use Rattle.stk_host.specs.declared.fault.HostFault.TheVariants.{SendFailed, RecvFailed}
use Rattle.stk_host.specs.Tape.{Tape, on_tape}
use Rattle.stk_host.specs.Transcript.{Transcript, LinkState, Sent, Taken, Got, NoneTaken, sent, heard, Grows, HasFailed}
use Rattle.stk_host.specs.Dialog.{Dialog, Event, Frame, Emitted, Played, played, bytes_sent}

-- A conversation's state: the next sequence number, and the bytes received and not yet read.
pub record Progress : Type 0 where
  pub next : ℕ
  pub unread : List ℕ

abbrev pub progress_at : ℕ → List ℕ → Progress
progress_at next unread = record { next = next; unread = unread }

-- The run waits for a reply, and the bytes sent are exactly its frames: it is time to listen.
pub record IsDueToListen {E R : Type 0} (dialog : Dialog E R) (seq : ℕ) (tape : Tape) (bytes : List ℕ) : Type 0 where
  pub waits : (played dialog seq tape).outcome ≡ None
  pub all_sent : bytes_sent (played dialog seq tape).events ≡ bytes

-- Before each piece received it was time to listen: the dialog's run over all received so far waits. Nothing passes
-- after a send that failed.
abbrev pub InTurnFrom : {E R : Type 0} → Dialog E R → ℕ → Tape → List ℕ → Transcript → Type 0
InTurnFrom dialog seq tape bytes [] = Unit {0}
InTurnFrom dialog seq tape bytes (Sent more ∷ transcript) = InTurnFrom dialog seq tape (bytes ++ more) transcript
InTurnFrom dialog seq tape bytes (Taken more ∷ transcript) = transcript ≡ []
InTurnFrom dialog seq tape bytes (Got items ∷ transcript) =
    IsDueToListen dialog seq tape bytes × InTurnFrom dialog seq (tape ++ items) bytes transcript

-- The dialog sends and listens in turn: each piece is received only when it is due.
abbrev pub InTurn : {E R : Type 0} → Dialog E R → Progress → Transcript → Type 0
InTurn dialog before transcript = InTurnFrom dialog before.next (on_tape before.unread) [] transcript

-- The run over the unread bytes and the items received.
abbrev pub played_over : {E R : Type 0} → Dialog E R → Progress → Transcript → Played E R
played_over dialog before transcript = played dialog before.next (on_tape before.unread ++ heard transcript)

-- The transcript is the dialog's run to its end, over the unread bytes and the items received. Exactly these events
-- happened, with this result and this state after them, whatever follows on the tape.
pub record Plays {E R : Type 0} (dialog : Dialog E R) (before : Progress) (transcript : Transcript)
    (events : List (Event E)) (result : R) (after : Progress) : Type 0 where
  pub plays : (more : Tape) → played dialog before.next (on_tape before.unread ++ (heard transcript ++ more))
      ≡ record { events = events; outcome = Some (result, after.next, on_tape after.unread ++ more) }
  pub all_sent : bytes_sent events ≡ sent transcript
  pub none_taken : NoneTaken transcript
  pub in_turn : InTurn dialog before transcript

-- These bytes are the first of those.
abbrev pub IsBytePrefixOf : List ℕ → List ℕ → Type 0
IsBytePrefixOf prefix bytes = (back : List ℕ) × (prefix ++ back ≡ bytes)

-- Nothing, or a part of the first event: a prefix of its frame, or a part of its output.
abbrev pub IsPartOfFirst : {E : Type 0} → (E → E → Type 0) → List (Event E) → List (Event E) → Type 0
IsPartOfFirst IsPartOfEvent [] events = Unit {0}
IsPartOfFirst IsPartOfEvent (Frame part ∷ []) (Frame whole ∷ events) = IsBytePrefixOf part whole
IsPartOfFirst IsPartOfEvent (Emitted part ∷ []) (Emitted whole ∷ events) = IsPartOfEvent part whole
IsPartOfFirst IsPartOfEvent _ _ = ⊥

-- A prefix of the events, and perhaps a part of the next one: `whole` and `begun`. The events left are `later`.
pub record IsPrefixOfEvents {E : Type 0} (IsPartOfEvent : E → E → Type 0) (shown events : List (Event E)) : Type 0 where
  pub whole : List (Event E)
  pub begun : List (Event E)
  pub later : List (Event E)
  pub shown_is : shown ≡ whole ++ begun
  pub events_are : events ≡ whole ++ later
  pub part : IsPartOfFirst IsPartOfEvent begun later

-- The run broke off: what happened is a prefix of its events over the items received.
pub record Breaks {E R : Type 0} (IsPartOfEvent : E → E → Type 0) (dialog : Dialog E R) (before : Progress)
    (transcript : Transcript) (shown : List (Event E)) : Type 0 where
  pub prefix : IsPrefixOfEvents IsPartOfEvent shown (played_over dialog before transcript).events
  pub all_sent : bytes_sent shown ≡ sent transcript
  pub in_turn : InTurn dialog before transcript

-- The run broke off while sending a frame. What happened is a prefix of its events, up to a part of that frame or
-- nothing of it. All of the frame was sent only if the send that failed took its end.
pub record BreaksSending {E R : Type 0} (dialog : Dialog E R) (before : Progress) (transcript : Transcript)
    (shown : List (Event E)) : Type 0 where
  pub whole : List (Event E)
  pub part : List ℕ
  pub unsent : List ℕ
  pub later : List (Event E)
  pub shown_is : shown ≡ whole ++ Frame part ∷ []
  pub events_are : (played_over dialog before transcript).events ≡ whole ++ Frame (part ++ unsent) ∷ later
  pub not_whole : NoneTaken transcript → 0 < length unsent
  pub all_sent : bytes_sent shown ≡ sent transcript
  pub in_turn : InTurn dialog before transcript

-- The run broke off while receiving: it waits, and all its events happened.
pub record BreaksListening {E R : Type 0} (dialog : Dialog E R) (before : Progress) (transcript : Transcript)
    (shown : List (Event E)) : Type 0 where
  pub waits : (played_over dialog before transcript).outcome ≡ None
  pub shown_is : shown ≡ (played_over dialog before transcript).events
  pub all_sent : bytes_sent shown ≡ sent transcript
  pub none_taken : NoneTaken transcript
  pub in_turn : InTurn dialog before transcript

-- The run broke off because of this fault of the link. No other fault breaks it off.
abbrev pub BreaksBy : {E R : Type 0} → HostFault → Dialog E R → Progress → Transcript → List (Event E) → Type 0
BreaksBy SendFailed dialog before transcript shown = BreaksSending dialog before transcript shown
BreaksBy RecvFailed dialog before transcript shown = BreaksListening dialog before transcript shown
BreaksBy fault dialog before transcript shown = ⊥

-- For dialogs without output events: none can be done in part.
abbrev pub NoPart : ⊥ → ⊥ → Type 0
NoPart part whole = ⊥

-- A call ran a dialog to its end, between these states of the link, which has not failed.
pub record RunsOverLink {R : Type 0} (dialog : Dialog ⊥ R) (before : Progress) (old new : LinkState) (result : R)
    (after : Progress) : Type 0 where
  pub during : Transcript
  pub events : List (Event ⊥)
  pub grows : Grows old.transcript during new.transcript
  pub plays : Plays dialog before during events result after
  pub sound : new.failures ≡ old.failures

-- A call broke off because the link failed, with this fault. `shown` is what happened up to then.
pub record BreaksOverLink {R : Type 0} (fault : HostFault) (dialog : Dialog ⊥ R) (before : Progress)
    (old new : LinkState) : Type 0 where
  pub during : Transcript
  pub shown : List (Event ⊥)
  pub grows : Grows old.transcript during new.transcript
  pub breaks : BreaksBy fault dialog before during shown
  pub failed : HasFailed old new
