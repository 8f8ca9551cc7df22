-- Dialogs that differ in printed lines alone.
use Rattle.std.proofs.Common.{◌≡◌, ◌∙◌, sym, ap, subst, refl, ℕ, List, [], ◌∷◌, ◌++◌, map, Option, rules}
use Rattle.avr_io.specs.OutputEvents.{OutputEvent, PrintsLine}
use Rattle.avr_session.specs.Session.{emits}
use Rattle.stk_frame.specs.Frame.{frame}
use Rattle.stk_host.specs.Dialog.{Dialog, Done, Emit, Ask, ◌>>=◌, lifted, Event, Frame, Emitted, Played, played, prepend_events, continue_with_reading, next, bytes_sent, frames_in}
use Rattle.stk_host.specs.Tape.{Tape, Reading, answer}
use Rattle.stk_host.proofs.Transcripts.InDialogs.{continued, followed, played_bind}

-- ---- events without the printed lines

abbrev pub without_lines : List (Event OutputEvent) → List (Event OutputEvent)
without_lines [] = []
without_lines (Frame bytes ∷ events) = Frame bytes ∷ without_lines events
without_lines (Emitted (PrintsLine line) ∷ events) = without_lines events
without_lines (Emitted event ∷ events) = Emitted event ∷ without_lines events

pub lines_of_append : (a b : List (Event OutputEvent)) → without_lines (a ++ b) ≡ without_lines a ++ without_lines b
lines_of_append [] b = refl
lines_of_append (Frame bytes ∷ a) b = ap (λ events. Frame bytes ∷ events) (lines_of_append a b)
lines_of_append (Emitted (PrintsLine line) ∷ a) b = lines_of_append a b
lines_of_append (Emitted event ∷ a) b = ap (λ events. Emitted event ∷ events) (lines_of_append a b)

-- without the printed lines the frames stay
frames_kept : (events : List (Event OutputEvent)) → frames_in (without_lines events) ≡ frames_in events
frames_kept [] = refl
frames_kept (Frame bytes ∷ events) = ap (λ frames. bytes ∷ frames) (frames_kept events)
frames_kept (Emitted (PrintsLine line) ∷ events) = frames_kept events
frames_kept (Emitted event ∷ events) = frames_kept events

-- and their bytes
bytes_kept : (events : List (Event OutputEvent)) → bytes_sent (without_lines events) ≡ bytes_sent events
bytes_kept [] = refl
bytes_kept (Frame bytes ∷ events) = ap (λ more. bytes ++ more) (bytes_kept events)
bytes_kept (Emitted (PrintsLine line) ∷ events) = bytes_kept events
bytes_kept (Emitted event ∷ events) = bytes_kept events

-- a run without its printed lines
abbrev pub silent : {R : Type 0} → Played OutputEvent R → Played OutputEvent R
silent p = record { events = without_lines p.events; outcome = p.outcome }

-- Over each tape both send the same frames, create and write the same files, and have the same result.
pub record AreAlike {R : Type 0} (a b : Dialog OutputEvent R) : Type 0 where
  pub over : (seq : ℕ) (tape : Tape) → silent (played a seq tape) ≡ silent (played b seq tape)

module _ {R : Type 0} {a b : Dialog OutputEvent R} (are_alike : AreAlike a b) (seq : ℕ) (tape : Tape) where
  -- so they have the same result
  pub same_outcome : (played a seq tape).outcome ≡ (played b seq tape).outcome
  same_outcome = ap (λ p. p.outcome) (are_alike.over seq tape)

  -- and the same events, apart from printed lines
  pub same_events : without_lines (played a seq tape).events ≡ without_lines (played b seq tape).events
  same_events = ap (λ p. p.events) (are_alike.over seq tape)

  pub same_frames : frames_in (played a seq tape).events ≡ frames_in (played b seq tape).events
  same_frames = search (rules, frames_kept, same_events)

  pub same_bytes : bytes_sent (played a seq tape).events ≡ bytes_sent (played b seq tape).events
  same_bytes = search (rules, bytes_kept, same_events)

-- ---- laws

-- each dialog is like itself
pub alike : {R : Type 0} (a : Dialog OutputEvent R) → AreAlike a a
alike a = record { over = λ seq tape. refl }

-- a run after these events
silent_after : {R : Type 0} (events : List (Event OutputEvent)) (p : Played OutputEvent R)
    → silent (prepend_events events p) ≡ prepend_events (without_lines events) (silent p)
silent_after events p = search (rules, lines_of_append)

-- a run that goes on after a result
silent_on : {A B : Type 0} (events : List (Event OutputEvent)) (o : Option (A × ℕ × Tape))
    (go_on : A → ℕ → Tape → Played OutputEvent B) → silent (prepend_events events (continued o go_on))
    ≡ prepend_events (without_lines events) (continued o (λ a seq tape. silent (go_on a seq tape)))
silent_on events o go_on = search (rules, silent_after)

-- runs that go on in the same way
same_on : {A B : Type 0} (events : List (Event OutputEvent)) (o : Option (A × ℕ × Tape))
    (f g : A → ℕ → Tape → Played OutputEvent B) → ((a : A) (seq : ℕ) (tape : Tape) → f a seq tape ≡ g a seq tape)
    → prepend_events events (continued o f) ≡ prepend_events events (continued o g)
same_on events o f g same = search rules

-- dialogs that go on alike after alike ones
pub alike_bind : {A B : Type 0} {a b : Dialog OutputEvent A} {f g : A → Dialog OutputEvent B}
    → AreAlike a b → ((x : A) → AreAlike (f x) (g x)) → AreAlike (a >>= f) (b >>= g)
alike_bind {a = a} {b = b} {f = f} {g = g} first later = record {
  over = λ seq tape. ap silent (played_bind a f seq tape)
      ∙ (silent_on (played a seq tape).events (played a seq tape).outcome (λ x. played (f x))
      ∙ (same_on (without_lines (played a seq tape).events) (played a seq tape).outcome
      (λ x n t. silent (played (f x) n t)) (λ x n t. silent (played (g x) n t)) (λ x n t. (later x).over n t)
      ∙ (ap (λ p. followed p (λ x n t. silent (played (g x) n t))) (first.over seq tape)
      ∙ (sym (silent_on (played b seq tape).events (played b seq tape).outcome (λ x. played (g x)))
      ∙ sym (ap silent (played_bind b g seq tape))))));
}

-- by what is read
alike_asked : {R : Type 0} (bytes : List ℕ) (f g : Reading → Tape → Played OutputEvent R) (o : Option (Reading × Tape))
    → ((reading : Reading) (left : Tape) → silent (f reading left) ≡ silent (g reading left))
    → silent (prepend_events (Frame bytes ∷ []) (continue_with_reading f o))
    ≡ silent (prepend_events (Frame bytes ∷ []) (continue_with_reading g o))
alike_asked bytes f g o each = search rules

-- dialogs that go on alike after each reading
alike_ask : {R : Type 0} (body : List ℕ) {f g : Reading → Dialog OutputEvent R}
    → ((reading : Reading) → AreAlike (f reading) (g reading)) → AreAlike (Ask body f) (Ask body g)
alike_ask body {f = f} {g = g} each = record {
  over = λ seq tape. alike_asked (frame seq body) (λ reading. played (f reading) (next seq))
      (λ reading. played (g reading) (next seq)) (answer seq tape)
      (λ reading left. (each reading).over (next seq) left);
}

-- a result that is returned in two forms which are equal
pub alike_ends : {A B : Type 0} (d : Dialog ⊥ A) (f g : A → B) → ((a : A) → f a ≡ g a)
    → AreAlike (lifted (d >>= λ a. Done (f a))) (lifted (d >>= λ a. Done (g a)))
alike_ends (Done a) f g same = subst (λ b. AreAlike (Done (f a)) (Done b)) (same a) (alike (Done (f a)))
alike_ends (Emit e d) f g same = absurd e
alike_ends (Ask body go_on) f g same = alike_ask body (λ reading. alike_ends (go_on reading) f g same)

-- output that differs in printed lines alone
pub record SameButLines (these those : List OutputEvent) : Type 0 where
  pub is : without_lines (map Emitted these) ≡ without_lines (map Emitted those)

played_emits : {R : Type 0} (outputs : List OutputEvent) (d : Dialog OutputEvent R) (seq : ℕ) (tape : Tape)
    → played (emits outputs d) seq tape ≡ prepend_events (map Emitted outputs) (played d seq tape)
played_emits [] d seq tape = refl
played_emits (event ∷ outputs) d seq tape = ap (prepend_events (Emitted event ∷ [])) (played_emits outputs d seq tape)

pub alike_emits : {R : Type 0} (these those : List OutputEvent) (d : Dialog OutputEvent R) → SameButLines these those
    → AreAlike (emits these d) (emits those d)
alike_emits these those d same = record {
  over = λ seq tape. ap silent (played_emits these d seq tape) ∙ (silent_after (map Emitted these) (played d seq tape)
      ∙ (ap (λ events. prepend_events events (silent (played d seq tape))) same.is
      ∙ (sym (silent_after (map Emitted those) (played d seq tape))
      ∙ sym (ap silent (played_emits those d seq tape)))));
}
