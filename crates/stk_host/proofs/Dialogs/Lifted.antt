-- A dialog without output, as a part of one with output: laws for the crates above.
use Rattle.std.proofs.Common.{◌≡◌, ℕ, List, [], ◌∷◌, ◌++◌, refl, ap, ◌∙◌, Some, None, rules}
use Rattle.stk_frame.specs.Frame.{frame}
use Rattle.stk_host.specs.declared.fault.HostFault.{HostFault}
use Rattle.stk_host.specs.declared.fault.HostFault.TheVariants.{SendFailed}
use Rattle.stk_host.specs.Tape.{Tape, answer}
use Rattle.stk_host.specs.Transcript.{Transcript}
use Rattle.stk_host.specs.Dialog.{Dialog, Done, Emit, Ask, lifted, Event, Frame, Emitted, Played, played, prepend_events, continue_with_reading, next, bytes_sent, outputs}
use Rattle.stk_host.specs.Play.{Progress, InTurn, Plays, BreaksBy}
use Rattle.stk_host.proofs.Transcripts.InDialogs.{in_turn_after}

-- events without output
abbrev pub raised : {E : Type 0} → List (Event ⊥) → List (Event E)
raised [] = []
raised (Frame bytes ∷ events) = Frame bytes ∷ raised events
raised (Emitted e ∷ events) = absurd e

abbrev pub raised_play : {E R : Type 0} → Played ⊥ R → Played E R
raised_play p = record { events = raised p.events; outcome = p.outcome }

pub played_lifted : {E R : Type 0} (dialog : Dialog ⊥ R) (seq : ℕ) (tape : Tape)
    → played {E = E} (lifted dialog) seq tape ≡ raised_play (played dialog seq tape)
played_lifted (Done r) seq tape = refl
played_lifted (Emit e dialog) seq tape = absurd e
played_lifted {E = E} (Ask body resume) seq tape =
    ap (prepend_events (Frame (frame seq body) ∷ []))
    (elim (answer seq tape) as (λ o. continue_with_reading (λ r. played {E = E} (lifted (resume r)) (next seq)) o
    ≡ raised_play (continue_with_reading (λ r. played (resume r) (next seq)) o)) [
      | None ↦ refl
      | Some got ↦ played_lifted (resume got.0) (next seq) got.1
    ])

pub bytes_raised : (E : Type 0) (events : List (Event ⊥)) → bytes_sent (raised {E = E} events) ≡ bytes_sent events
bytes_raised E [] = refl
bytes_raised E (Frame bytes ∷ events) = ap (λ bs. bytes ++ bs) (bytes_raised E events)
bytes_raised E (Emitted e ∷ events) = absurd e

pub outputs_raised : {E : Type 0} (events : List (Event ⊥)) → outputs (raised {E = E} events) ≡ []
outputs_raised [] = refl
outputs_raised (Frame bytes ∷ events) = outputs_raised events
outputs_raised (Emitted e ∷ events) = absurd e

raised_append : {E : Type 0} (x y : List (Event ⊥)) → raised {E = E} (x ++ y) ≡ raised x ++ raised y
raised_append [] y = refl
raised_append (Frame bytes ∷ x) y = ap (λ es. Frame bytes ∷ es) (raised_append x y)
raised_append (Emitted e ∷ x) y = absurd e

in_turn_lifted : {R : Type 0} (E : Type 0) (dialog : Dialog ⊥ R) (m : Progress) (transcript : Transcript)
    → InTurn dialog m transcript → InTurn {E = E} (lifted dialog) m transcript
in_turn_lifted E dialog m transcript f = search (rules, in_turn_after, played_lifted, bytes_raised)

pub plays_lifted : {E R : Type 0} {dialog : Dialog ⊥ R} {m n : Progress} {transcript : Transcript}
    {events : List (Event ⊥)} {result : R} → Plays dialog m transcript events result n
    → Plays {E = E} (lifted dialog) m transcript (raised events) result n
plays_lifted {E = E} {dialog = dialog} {m = m} {transcript = transcript} {events = events} f =
    search (rules, played_lifted, bytes_raised, in_turn_lifted)

pub by_lifted : {R : Type 0} (E : Type 0) (by : HostFault) (dialog : Dialog ⊥ R) (m : Progress)
    (transcript : Transcript) (shown : List (Event ⊥))
    → BreaksBy by dialog m transcript shown → BreaksBy {E = E} by (lifted dialog) m transcript (raised shown)
by_lifted E SendFailed dialog m transcript shown f = record {
  whole = raised f.whole;
  part = f.part;
  unsent = f.unsent;
  later = raised f.later;
  shown_is = ap raised f.shown_is ∙ raised_append f.whole (Frame f.part ∷ []);
  events_are = search (rules, played_lifted, raised_append);
  not_whole = f.not_whole;
  all_sent = bytes_raised E shown ∙ f.all_sent;
  in_turn = in_turn_lifted E dialog m transcript f.in_turn;
}
by_lifted E by dialog m transcript shown f = search (rules, played_lifted, bytes_raised, in_turn_lifted)
