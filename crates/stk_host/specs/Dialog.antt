-- Dialogs, and what they mean: `played`, the run over a tape of what is received.
use Rattle.std.specs.Prelude.{ℕ, ◌+◌, ◌%◌, List, [], ◌∷◌, ◌++◌, Option, Some, None}
use Rattle.stk_frame.specs.Frame.{frame}
use Rattle.stk_host.specs.Tape.{Tape, Reading, answer}

-- A dialog is done, or it outputs an event beside the link, such as a message, or it asks. To ask, it sends a
-- command's body, and goes on with the reading of the reply.
pub data Dialog (E R : Type 0) : Type 0 where
  Done : R → Dialog E R
  Emit : E → Dialog E R → Dialog E R
  Ask : List ℕ → (Reading → Dialog E R) → Dialog E R

-- Runs a dialog, then the one that its result chooses.
infixl 10 ◌>>=◌
abbrev pub ◌>>=◌ : {E A B : Type 0} → Dialog E A → (A → Dialog E B) → Dialog E B
(Done a) >>= go_on = go_on a
(Emit e dialog) >>= go_on = Emit e (dialog >>= go_on)
(Ask body resume) >>= go_on = Ask body (λ reading. resume reading >>= go_on)

-- A dialog without output events, for use in one that has them.
abbrev pub lifted : {E R : Type 0} → Dialog ⊥ R → Dialog E R
lifted (Done r) = Done r
lifted (Emit e dialog) = absurd e
lifted (Ask body resume) = Ask body (λ reading. lifted (resume reading))

-- A frame is sent, or an event is output beside the link.
pub data Event (E : Type 0) : Type 0 where
  Frame : List ℕ → Event E
  Emitted : E → Event E

-- The events of a run, and its result with the next sequence number and the tape that remains. None: the run waits
-- for more.
pub record Played (E R : Type 0) : Type 0 where
  pub events : List (Event E)
  pub outcome : Option (R × ℕ × Tape)

-- A run after these events.
abbrev pub prepend_events : {E R : Type 0} → List (Event E) → Played E R → Played E R
prepend_events events p = record { events = events ++ p.events; outcome = p.outcome }

-- The run that a reading chooses, or one that waits.
abbrev pub continue_with_reading : {E R : Type 0} → (Reading → Tape → Played E R) → Option (Reading × Tape) → Played E R
continue_with_reading go_on None = record { events = []; outcome = None }
continue_with_reading go_on (Some (reading, tape)) = go_on reading tape

-- The sequence number of the next frame.
abbrev pub next : ℕ → ℕ
next seq = (seq + 1) % 256

-- The run of a dialog over a tape, with its frames numbered from `seq`.
abbrev pub played : {E R : Type 0} → Dialog E R → ℕ → Tape → Played E R
played (Done r) seq tape = record { events = []; outcome = Some (r, seq, tape) }
played (Emit e dialog) seq tape = prepend_events (Emitted e ∷ []) (played dialog seq tape)
played (Ask body resume) seq tape =
    prepend_events (Frame (frame seq body) ∷ [])
    (continue_with_reading (λ reading. played (resume reading) (next seq)) (answer seq tape))

-- The frames among the events.
abbrev pub frames_in : {E : Type 0} → List (Event E) → List (List ℕ)
frames_in [] = []
frames_in (Frame bytes ∷ events) = bytes ∷ frames_in events
frames_in (Emitted e ∷ events) = frames_in events

-- The bytes of all frames; below, the output events alone.
abbrev pub bytes_sent : {E : Type 0} → List (Event E) → List ℕ
bytes_sent [] = []
bytes_sent (Frame bytes ∷ events) = bytes ++ bytes_sent events
bytes_sent (Emitted e ∷ events) = bytes_sent events

abbrev pub outputs : {E : Type 0} → List (Event E) → List E
outputs [] = []
outputs (Frame bytes ∷ events) = outputs events
outputs (Emitted e ∷ events) = e ∷ outputs events
