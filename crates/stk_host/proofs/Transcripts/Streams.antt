-- What a writer with known bytes has taken, and a reader with known bytes has given.
use Rattle.std.proofs.Common.{◌≡◌, ℕ, List, [], ◌∷◌, ◌++◌, ◌≤◌, take, drop, Option, refl, sym, ◌∙◌, subst, append_assoc, append-nil, take-append-drop, rules}
use Rattle.std.proofs.KnownBytes.{Appends-nil, Appends-kept, Consumes-nil, Consumes-kept, Consumes-trans}
use Rattle.std.specs.Io.KnownBytes.{Keeps, Appends, Consumes}
use Rattle.stk_host.specs.declared.link.Heard.{Heard}
use Rattle.stk_host.specs.declared.link.Heard.TheVariants as in_code
use Rattle.stk_host.specs.declared.link.Item.TheVariants.{Byte, Silence, End}
use Rattle.stk_host.specs.Tape.{Tape, on_tape, bytes_on_tape}
use Rattle.stk_host.specs.Links.{StreamState, TimedOutAfter, EachTimedOut, TranscriptIsTrueSince, TakesKnownBytes, ReceivesKnownBytes}
use Rattle.stk_host.specs.Transcript.{Transcript, Sent, Taken, Got, heard, items_of}
use Rattle.stk_host.proofs.Transcripts.Laws.{sent_append, got_append}
use Rattle.stk_host.proofs.Tapes.Readings.{bytes_of_append, bytes_of_on_tape}

-- the writer took the first bytes and nothing more, and the send failed
pub takes_known : (bytes : List ℕ) (n : ℕ) (before now : Transcript) (a b c : Option (List ℕ))
    → now ≡ before ++ Taken (take n bytes) ∷ [] → Appends a b (take n bytes) → Keeps b c
    → TakesKnownBytes bytes before now a c
takes_known bytes n before now a b c is took keeps = record {
  takes = record {
    last = Taken (take n bytes) ∷ [];
    is_taken = tt;
    unsent = drop n bytes;
    bytes_are = rw (append-nil (take n bytes)) (sym (take-append-drop n bytes));
    grows = is;
  };
  took = subst (Appends a c) (sym (append-nil (take n bytes))) (Appends-kept a b c (take n bytes) took keeps);
}

-- it took nothing
pub takes_nothing : (bytes : List ℕ) (before now : Transcript) (a b : Option (List ℕ)) → now ≡ before → Keeps a b
    → TakesKnownBytes bytes before now a b
takes_nothing bytes before now a b is keeps = record {
  takes = record { last = []; is_taken = tt; unsent = bytes; bytes_are = refl; grows = is ∙ sym (append-nil before) };
  took = Appends-kept a a b [] (Appends-nil a) keeps;
}

-- ---- timeouts

module _ (IsTimeout : List ℕ → Type 0) where
  none_in_bytes : (before bytes : List ℕ) → EachTimedOut IsTimeout before (on_tape bytes)
  none_in_bytes before [] = tt
  none_in_bytes before (byte ∷ bytes) = none_in_bytes (before ++ byte ∷ []) bytes

  each_on : (before : List ℕ) (x y : Tape) → EachTimedOut IsTimeout before x
      → EachTimedOut IsTimeout (before ++ bytes_on_tape x) y → EachTimedOut IsTimeout before (x ++ y)
  each_on before [] y f g = rw (append-nil before) at g
  each_on before (Silence ∷ x) y f g = (f.0, each_on before x y f.1 g)
  each_on before (Byte byte ∷ x) y f g =
      each_on (before ++ byte ∷ []) x y f (rw (← append_assoc before (byte ∷ []) (bytes_on_tape x)) at g)
  each_on before (End ∷ x) y f g = each_on before x y f g

  -- timeouts of a reader that began behind `front`
  each_behind : (Later : List ℕ → Type 0) (front : List ℕ)
      → ((bytes : List ℕ) → Later bytes → IsTimeout (front ++ bytes))
      → (before : List ℕ) (tape : Tape) → EachTimedOut Later before tape → EachTimedOut IsTimeout (front ++ before) tape
  each_behind Later front was before [] f = tt
  each_behind Later front was before (Silence ∷ tape) f =
      (was before f.0, each_behind Later front was before tape f.1)
  each_behind Later front was before (Byte byte ∷ tape) f =
      rw (append_assoc front before (byte ∷ [])) (each_behind Later front was (before ++ byte ∷ []) tape f)
  each_behind Later front was before (End ∷ tape) f = each_behind Later front was before tape f

module _ {R : Type 0} (remaining : R → Option (List ℕ)) (has_timed_out : R → Type 0) where
  pub each_both : (old mid : R) (x y : Transcript)
      → EachTimedOut (TimedOutAfter remaining has_timed_out old) [] (heard x)
      → Consumes (remaining old) (remaining mid) (bytes_on_tape (heard x))
      → EachTimedOut (TimedOutAfter remaining has_timed_out mid) [] (heard y)
      → EachTimedOut (TimedOutAfter remaining has_timed_out old) [] (heard (x ++ y))
  each_both old mid x y f gave g =
      let front = bytes_on_tape (heard x) in
      let later = each_behind (TimedOutAfter remaining has_timed_out old) (TimedOutAfter remaining has_timed_out mid)
      front (λ bytes p. (p.0, p.1, Consumes-trans _ _ _ front bytes gave p.2)) [] (heard y) g in
      rw (got_append x y) (each_on (TimedOutAfter remaining has_timed_out old) [] (heard x) (heard y) f
      (rw (append-nil front) at later))

  pub each_received : (h : Heard) (buffer : List ℕ) (old new : R)
      → ReceivesKnownBytes h buffer (remaining old) (remaining new) → (h ≡ in_code.Silence → has_timed_out new)
      → EachTimedOut (TimedOutAfter remaining has_timed_out old) [] (heard (Got (items_of h buffer) ∷ []))
  each_received (in_code.Bytes n) buffer old new given silent =
      rw (append-nil (on_tape (take n buffer))) (none_in_bytes _ [] (take n buffer))
  each_received in_code.Silence buffer old new given silent =
      ((new, silent refl, Consumes-kept _ _ _ [] (Consumes-nil (remaining old)) given), tt)
  each_received in_code.End buffer old new given silent = tt

module _ {R W : Type 0} (remaining : R → Option (List ℕ)) (has_timed_out : R → Type 0)
    (contents : W → Option (List ℕ)) where
  pub true_now : (a : StreamState R W) → TranscriptIsTrueSince remaining has_timed_out contents a a
  true_now a = search rules

  pub true_on : (a b c : StreamState R W) → TranscriptIsTrueSince remaining has_timed_out contents a b
      → TranscriptIsTrueSince remaining has_timed_out contents b c
      → TranscriptIsTrueSince remaining has_timed_out contents a c
  true_on a b c f g =
      let paused = each_both remaining has_timed_out a.reader b.reader f.during g.during f.paused f.gave g.paused in
      search (rules, append_assoc, got_append, bytes_of_append, sent_append)

  pub true_of_sent : (a b : StreamState R W) (bytes : List ℕ) → b.reader ≡ a.reader → b.failures ≡ a.failures
      → b.transcript ≡ a.transcript ++ Sent bytes ∷ [] → Appends (contents a.writer) (contents b.writer) bytes
      → TranscriptIsTrueSince remaining has_timed_out contents a b
  true_of_sent a b bytes reader failures transcript took = search rules

  pub true_of_taken : (a b : StreamState R W) (bytes : List ℕ) → b.reader ≡ a.reader → a.failures ≤ b.failures
      → TakesKnownBytes bytes a.transcript b.transcript (contents a.writer) (contents b.writer)
      → TranscriptIsTrueSince remaining has_timed_out contents a b
  true_of_taken a b bytes reader failures t = search rules

  pub true_of_received : (a b : StreamState R W) (h : Heard) (buffer : List ℕ) → b.writer ≡ a.writer
      → b.failures ≡ a.failures → b.transcript ≡ a.transcript ++ Got (items_of h buffer) ∷ []
      → ReceivesKnownBytes h buffer (remaining a.reader) (remaining b.reader)
      → (h ≡ in_code.Silence → has_timed_out b.reader) → TranscriptIsTrueSince remaining has_timed_out contents a b
  true_of_received a b h buffer writer failures transcript given silent =
      let paused = each_received remaining has_timed_out h buffer a.reader b.reader given silent in
      search (rules, bytes_of_on_tape)
