-- How a transcript goes on in a dialog: laws of transcripts alone.
use Rattle.std.proofs.Common.{◌≡◌, ℕ, ◌<◌, List, [], ◌∷◌, ◌++◌, length, refl, sym, ap, ◌∙◌, subst, append_assoc, Option, Some, None, rules}
use Rattle.std.proofs.lemmas.List.{append-nil}
use Rattle.stk_frame.specs.Frame.{frame}
use Rattle.stk_host.specs.declared.fault.HostFault.{HostFault}
use Rattle.stk_host.specs.declared.fault.HostFault.TheVariants.{SendFailed}
use Rattle.stk_host.specs.Tape.{Tape, Reading, on_tape, answer}
use Rattle.stk_host.specs.Transcript.{Transcript, Sent, Taken, Got, NoneTaken, sent, heard}
use Rattle.stk_host.specs.Dialog.{Dialog, Done, Emit, Ask, ◌>>=◌, Event, Frame, Emitted, Played, played, prepend_events, continue_with_reading, next, bytes_sent}
use Rattle.stk_host.specs.Play.{Progress, progress_at, IsDueToListen, InTurnFrom, InTurn, played_over, Plays, Breaks, BreaksSending, BreaksListening, BreaksBy, IsPrefixOfEvents}
use Rattle.stk_host.specs.Reach.{TranscriptLeads, NothingReceived, WaitsFrom}
use Rattle.stk_host.proofs.Transcripts.Laws.{sent_append, got_append, got_both, got_quiet, sent_waiting, none_append, none_behind, none_waiting}

-- runs

abbrev pub continued : {E A B : Type 0} → Option (A × ℕ × Tape) → (A → ℕ → Tape → Played E B) → Played E B
continued None go_on = record { events = []; outcome = None }
continued (Some (a, seq, tape)) go_on = go_on a seq tape

-- a run, then the run from its result
abbrev pub followed : {E A B : Type 0} → Played E A → (A → ℕ → Tape → Played E B) → Played E B
followed p go_on = prepend_events p.events (continued p.outcome go_on)

pub played_bind : {E A B : Type 0} (dialog : Dialog E A) (go_on : A → Dialog E B) (seq : ℕ) (tape : Tape)
    → played (dialog >>= go_on) seq tape ≡ followed (played dialog seq tape) (λ a. played (go_on a))
played_bind (Done a) go_on seq tape = refl
played_bind (Emit e dialog) go_on seq tape = ap (prepend_events (Emitted e ∷ [])) (played_bind dialog go_on seq tape)
played_bind (Ask body resume) go_on seq tape =
    ap (prepend_events (Frame (frame seq body) ∷ []))
    (elim (answer seq tape) as (λ o. continue_with_reading (λ r. played (resume r >>= go_on) (next seq)) o
    ≡ followed (continue_with_reading (λ r. played (resume r) (next seq)) o) (λ a. played (go_on a))) [
      | None ↦ refl
      | Some got ↦ played_bind (resume got.0) go_on (next seq) got.1
    ])

pub bytes_append : {E : Type 0} (x y : List (Event E)) → bytes_sent (x ++ y) ≡ bytes_sent x ++ bytes_sent y
bytes_append [] y = refl
bytes_append (Frame bytes ∷ x) y = search (rules, append_assoc, bytes_append x y)
bytes_append (Emitted e ∷ x) y = bytes_append x y

-- sending and listening in turn

in_turn_without_bytes : {E R : Type 0} (dialog : Dialog E R) (seq : ℕ) (tape : Tape) (bytes : List ℕ)
    (transcript : Transcript) → NothingReceived transcript → InTurnFrom dialog seq tape bytes transcript
in_turn_without_bytes dialog seq tape bytes [] quiet = tt
in_turn_without_bytes dialog seq tape bytes (Sent more ∷ transcript) quiet =
    in_turn_without_bytes dialog seq tape (bytes ++ more) transcript quiet
in_turn_without_bytes dialog seq tape bytes transcript quiet = search rules

-- one transcript after another
pub in_turn_joined : {E R : Type 0} (dialog : Dialog E R) (seq : ℕ) (tape : Tape) (bytes : List ℕ) (x y : Transcript)
    → NoneTaken x → InTurnFrom dialog seq tape bytes x → InTurnFrom dialog seq (tape ++ heard x) (bytes ++ sent x) y
    → InTurnFrom dialog seq tape bytes (x ++ y)
in_turn_joined dialog seq tape bytes [] y none f g = search rules
in_turn_joined dialog seq tape bytes (Sent more ∷ x) y none f g =
    in_turn_joined dialog seq tape (bytes ++ more) x y none f (rw (← append_assoc bytes more (sent x)) at g)
in_turn_joined dialog seq tape bytes (Taken more ∷ x) y none f g = absurd none
in_turn_joined dialog seq tape bytes (Got items ∷ x) y none f g = (
  f.0,
  in_turn_joined dialog seq (tape ++ items) bytes x y none f.1 (rw (← append_assoc tape items (heard x)) at g),
)

-- if the one is due whenever the other is
module _ {E F A B : Type 0} (dialog : Dialog E A) (inner : Dialog F B) (m n : ℕ) (tape inner_tape : Tape)
    (before : List ℕ)
    (due : (x : Tape) (bytes : List ℕ) → IsDueToListen inner n (inner_tape ++ x) bytes
    → IsDueToListen dialog m (tape ++ x) (before ++ bytes)) where
  in_turn_shifted : (x : Tape) (bytes : List ℕ) (transcript : Transcript)
      → InTurnFrom inner n (inner_tape ++ x) bytes transcript
      → InTurnFrom dialog m (tape ++ x) (before ++ bytes) transcript
  in_turn_shifted x bytes [] f = tt
  in_turn_shifted x bytes (Sent more ∷ transcript) f =
      rw (append_assoc before bytes more) (in_turn_shifted x (bytes ++ more) transcript f)
  in_turn_shifted x bytes (Taken more ∷ transcript) f = f
  in_turn_shifted x bytes (Got items ∷ transcript) f = search (
    rules,
    append_assoc,
    in_turn_shifted (x ++ items) bytes transcript (rw (append_assoc inner_tape x items) at f.1),
  )

  -- the same from the start
  pub in_turn_after : (transcript : Transcript) → InTurnFrom inner n inner_tape [] transcript
      → InTurnFrom dialog m tape before transcript
  in_turn_after transcript f =
      subst (λ t. InTurnFrom dialog m t before transcript) (append-nil tape)
      (subst (λ s. InTurnFrom dialog m (tape ++ []) s transcript) (append-nil before)
      (in_turn_shifted [] [] transcript (subst (λ t. InTurnFrom inner n t [] transcript) (sym (append-nil inner_tape))
      f)))

in_turn_bind : {E A B : Type 0} (dialog : Dialog E A) (go_on : A → Dialog E B) (m : Progress) (transcript : Transcript)
    → InTurn dialog m transcript → InTurn (dialog >>= go_on) m transcript
in_turn_bind dialog go_on m transcript f = search (rules, in_turn_after, played_bind)

in_turn_waiting : {E R : Type 0} (body : List ℕ) (resume : Reading → Dialog E R) (seq : ℕ) (tape : Tape)
    (transcript : Transcript)
    → WaitsFrom seq tape transcript → InTurnFrom (Ask body resume) seq tape (frame seq body) transcript
in_turn_waiting body resume seq tape [] waits = tt
in_turn_waiting body resume seq tape (Got items ∷ transcript) waits =
    ((search rules), in_turn_waiting body resume seq (tape ++ items) transcript waits.1)
in_turn_waiting body resume seq tape (other ∷ transcript) waits = absurd waits

-- a frame was sent, and its reply is due
in_turn_asking : {E R : Type 0} (body : List ℕ) (resume : Reading → Dialog E R) (seq : ℕ) (u : List ℕ)
    (x y : Transcript) → NothingReceived x → NoneTaken x → sent x ≡ frame seq body → WaitsFrom seq (on_tape u) y
    → InTurn (Ask body resume) (progress_at seq u) (x ++ y)
in_turn_asking body resume seq u x y quiet none is waits =
    search (rules, in_turn_joined, in_turn_without_bytes, got_quiet, in_turn_waiting)

-- prefixes of events

-- and a prefix after events that all happened
pub prefix_behind : {E : Type 0} (IsPartOfEvent : E → E → Type 0) {shown events : List (Event E)}
    (before : List (Event E)) → IsPrefixOfEvents IsPartOfEvent shown events → IsPrefixOfEvents IsPartOfEvent (before
    ++ shown) (before ++ events)
prefix_behind IsPartOfEvent before f =
    search (rules, append_assoc before f.whole f.begun, append_assoc before f.whole f.later)

-- leading

pub leads_here : {E R : Type 0} (dialog : Dialog E R) (m : Progress) → TranscriptLeads dialog m [] [] dialog m
leads_here dialog m = record { goes_on = λ more. refl; all_sent = refl; none_taken = tt; in_turn = tt }

-- after a transcript that leads on
module _ {E R : Type 0} {a b : Dialog E R} {m n : Progress} {x : Transcript} {events : List (Event E)}
    (f : TranscriptLeads a m x events b n) where
  -- the run over both transcripts, what they send, and that both listen in turn
  led : (y : Transcript) → played_over a m (x ++ y) ≡ prepend_events events (played_over b n y)
  led y = ap (λ t. played a m.next (on_tape m.unread ++ t)) (got_append x y) ∙ f.goes_on (heard y)

  led_bytes : (y : Transcript) (later : List (Event E)) → bytes_sent later ≡ sent y
      → bytes_sent (events ++ later) ≡ sent (x ++ y)
  led_bytes y later is = rw (bytes_append events later, f.all_sent, is, sent_append x y) refl

  led_in_turn : (y : Transcript) → InTurn b n y → InTurn a m (x ++ y)
  led_in_turn y in_turn = search (rules, in_turn_joined, in_turn_after, append_assoc, bytes_append)

  pub leads_on : {c : Dialog E R} {l : Progress} {y : Transcript} {ys : List (Event E)}
      → TranscriptLeads b n y ys c l → TranscriptLeads a m (x ++ y) (events ++ ys) c l
  leads_on {c = c} {l = l} {y = y} {ys = ys} g =
      search (rules, got_both, append_assoc, led_bytes, led_in_turn, none_append)

  pub by_on : (by : HostFault) (y : Transcript) (shown : List (Event E)) → BreaksBy by b n y shown
      → BreaksBy by a m (x ++ y) (events ++ shown)
  by_on SendFailed y shown g = record {
    whole = events ++ g.whole;
    part = g.part;
    unsent = g.unsent;
    later = g.later;
    shown_is = ap (λ es. events ++ es) g.shown_is ∙ sym (append_assoc events g.whole (Frame g.part ∷ []));
    events_are = rw (led y, g.events_are) (sym (append_assoc events g.whole (Frame (g.part ++ g.unsent) ∷ g.later)));
    not_whole = λ none. g.not_whole (none_behind x y none);
    all_sent = led_bytes y shown g.all_sent;
    in_turn = led_in_turn y g.in_turn;
  }
  by_on by y shown g = search (rules, led, led_bytes, led_in_turn, none_append)

-- the same before what follows, and before a transcript that breaks off
module _ {E R : Type 0} {a b : Dialog E R} {m n : Progress} {x : Transcript} {events : List (Event E)} where
  pub leads_bind : {B : Type 0} (go_on : R → Dialog E B) → TranscriptLeads a m x events b n
      → TranscriptLeads (a >>= go_on) m x events (b >>= go_on) n
  leads_bind go_on f = search (rules, played_bind, append_assoc, in_turn_bind)

  pub breaks_on : (IsPartOfEvent : E → E → Type 0) {y : Transcript} {shown : List (Event E)}
      → TranscriptLeads a m x events b n → Breaks IsPartOfEvent b n y shown → Breaks IsPartOfEvent a m (x ++ y) (events
      ++ shown)
  breaks_on IsPartOfEvent {y = y} {shown = shown} f g = search (rules, led, prefix_behind, led_bytes, led_in_turn, f, g)

-- an output event
pub leads_emit : {E R : Type 0} (e : E) (dialog : Dialog E R) (m : Progress)
    → TranscriptLeads (Emit e dialog) m [] (Emitted e ∷ []) dialog m
leads_emit e dialog m = record { goes_on = λ more. refl; all_sent = refl; none_taken = tt; in_turn = tt }

-- a result was reached
pub plays_from : {E R : Type 0} {a : Dialog E R} {m n : Progress} {transcript : Transcript} {events : List (Event E)}
    {result : R} → TranscriptLeads a m transcript events (Done result) n → Plays a m transcript events result n
plays_from {events = events} f = search rules

pub leads_from : {E R : Type 0} {a : Dialog E R} {m n : Progress} {transcript : Transcript} {events : List (Event E)}
    {result : R} → Plays a m transcript events result n → TranscriptLeads a m transcript events (Done result) n
leads_from {events = events} f = search rules

-- breaking off

pub breaks_bind : {E A B : Type 0} (IsPartOfEvent : E → E → Type 0) {a : Dialog E A} {m : Progress}
    {transcript : Transcript} {shown : List (Event E)} (go_on : A → Dialog E B)
    → Breaks IsPartOfEvent a m transcript shown → Breaks IsPartOfEvent (a >>= go_on) m transcript shown
breaks_bind IsPartOfEvent {a = a} {m = m} {transcript = transcript} go_on f =
    search (rules, played_bind, append_assoc, in_turn_bind)

pub by_bind : {E A B : Type 0} (by : HostFault) (a : Dialog E A) (m : Progress) (transcript : Transcript)
    (shown : List (Event E)) (go_on : A → Dialog E B)
    → BreaksBy by a m transcript shown → BreaksBy by (a >>= go_on) m transcript shown
by_bind SendFailed a m transcript shown go_on f =
    let p = played_over a m transcript in
    let more = (continued p.outcome (λ r. played (go_on r))).events in
    record {
      whole = f.whole;
      part = f.part;
      unsent = f.unsent;
      later = f.later ++ more;
      shown_is = f.shown_is;
      events_are = search (rules, played_bind, append_assoc);
      not_whole = f.not_whole;
      all_sent = f.all_sent;
      in_turn = in_turn_bind a go_on m transcript f.in_turn;
    }
by_bind by a m transcript shown go_on f = search (rules, played_bind, in_turn_bind)

-- a question

module _ {E R : Type 0} (body : List ℕ) (resume : Reading → Dialog E R) (seq : ℕ) (u : List ℕ) where
  -- its frame was sent and its reply read
  pub leads_ask : (v : List ℕ) (x y : Transcript) (reading : Reading) → NothingReceived x → NoneTaken x → sent x
      ≡ frame seq body → WaitsFrom seq (on_tape u) y
      → ((more : Tape) → answer seq (on_tape u ++ (heard y ++ more)) ≡ Some (reading, on_tape v ++ more))
      → TranscriptLeads (Ask body resume) (progress_at seq u) (x ++ y) (Frame (frame seq body)
      ∷ []) (resume reading) (progress_at (next seq) v)
  leads_ask v x y reading quiet none is waits reads =
      search (rules, got_both, got_quiet, sent_append, sent_waiting, in_turn_asking, none_append, none_waiting)

  -- a part of its frame was sent
  pub breaks_asking : (part unsent : List ℕ) (x : Transcript) → NothingReceived x → sent x ≡ part
      → frame seq body ≡ part ++ unsent → (NoneTaken x → 0 < length unsent)
      → BreaksSending (Ask body resume) (progress_at seq u) x (Frame part ∷ [])
  breaks_asking part unsent x quiet is frame_is not_whole =
      let later = (continue_with_reading (λ r. played (resume r) (next seq)) (answer seq (on_tape u
      ++ heard x))).events in
      record {
        whole = [];
        part = part;
        unsent = unsent;
        later = later;
        shown_is = refl;
        events_are = ap (λ bs. Frame bs ∷ later) frame_is;
        not_whole = not_whole;
        all_sent = append-nil part ∙ sym is;
        in_turn = in_turn_without_bytes (Ask body resume) seq (on_tape u) [] x quiet;
      }

  -- its frame was sent, and listening broke off
  pub breaks_listening : (x y : Transcript) → NothingReceived x → NoneTaken x → sent x ≡ frame seq body
      → WaitsFrom seq (on_tape u) y → answer seq (on_tape u ++ heard y) ≡ None
      → BreaksListening (Ask body resume) (progress_at seq u) (x ++ y) (Frame (frame seq body) ∷ [])
  breaks_listening x y quiet none is waits no_reply =
      search (rules, got_append, got_quiet, sent_append, sent_waiting, in_turn_asking, none_append, none_waiting)
