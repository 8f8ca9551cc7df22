-- Listening for a reply, as the code does it round by round.
use Rattle.std.proofs.lemmas.Grind.{common_steps}
use Rattle.std.proofs.Common.{take, drop, ◌≡◌, ℕ, ◌+◌, ◌<◌, ◌≤◌, List, [], ◌∷◌, ◌++◌, length, refl, sym, ap, ◌∙◌, subst, append_assoc, arith, length-append, Some, None, true, rules}
use Rattle.std.proofs.lemmas.List.{append-nil, length-map, nil_from_length}
use Rattle.stk_frame.specs.declared.reader.Event.{Event}
use Rattle.stk_frame.specs.declared.reader.Event.TheVariants as event
use Rattle.stk_frame.specs.Cut.{cut, rest, body_of}
use Rattle.stk_frame.specs.Reader.{Fed, HoldsFrame, MayHaveBeenFed, frames_of_event}
use Rattle.stk_frame.proofs.FedReaders.{rest_whole}
use Rattle.stk_host.specs.declared.link.Heard.{Heard}
use Rattle.stk_host.specs.declared.link.Heard.TheVariants as heard
use Rattle.stk_host.specs.declared.link.Item.{Item}
use Rattle.stk_host.specs.declared.link.Item.TheVariants.{Silence, End}
use Rattle.stk_host.specs.Tape.{Tape, Reading, on_tape, answer, first_reply, is_reply, reply_byte_limit, Replied, Silent, Ended, Babbled}
use Rattle.stk_host.specs.Transcript.{Transcript, LinkState, Got, heard as got_in, Grows}
use Rattle.stk_host.specs.Reach.{WaitsFrom, ReceivesReply, ReceivesNoReply}
use Rattle.stk_host.specs.Calls.{ReceivesPiece}
use Rattle.stk_host.proofs.Tapes.Readings.{on_tape_append, reading_silent, reading_ended, reading_waits, reading_babbled, reading_found, still_none, now_found}
use Rattle.stk_host.proofs.Transcripts.Laws.{got_append, got_both, grows_none, grows_on, waits_append}

-- Listening for a reply. The first `count` bytes of a text were read and contain no reply. A reader holds the rest
-- of them, and after them come the bytes that are still unread.
pub record Listening (seq : ℕ) (unread : List ℕ) (old : LinkState) (held : List ℕ) (count : ℕ) (left : List ℕ)
    (new : LinkState) : Type 0 where
  pub text : List ℕ
  pub stands : MayHaveBeenFed held text
  pub counted : length text ≡ count
  pub few : count + length left ≤ reply_byte_limit
  pub no_reply : first_reply seq (cut text) ≡ None
  pub during : Transcript
  pub grows : Grows old.transcript during new.transcript
  pub waits : WaitsFrom seq (on_tape unread) during
  pub all_received : on_tape unread ++ got_in during ≡ on_tape (text ++ left)

pub begins : (seq : ℕ) (u : List ℕ) (o : LinkState) → length u ≤ reply_byte_limit → Listening seq u o [] 0 u o
begins seq u o few = record {
  text = [];
  stands = refl;
  counted = refl;
  few = omega (arith, few);
  no_reply = refl;
  during = [];
  grows = grows_none o.transcript;
  waits = tt;
  all_received = append-nil (on_tape u);
}

-- the unread bytes that one round of reading took
abbrev pub ReadOn : List ℕ → List ℕ → ℕ → List ℕ → List ℕ → Event → Type 0
ReadOn left new_left n held new what = (used : List ℕ) × (length used ≡ n) × (left ≡ used ++ new_left)
    × Fed held used new (frames_of_event what new)

-- from what the reader was fed, a front of the unread bytes
pub read_on : {held new left new_left piece : List ℕ} (n most : ℕ) (what : Event) → piece ≡ take most left
    → n ≤ length piece → new_left ≡ drop n left → Fed held (take n piece) new (frames_of_event what new)
    → ReadOn left new_left n held new what × (n ≤ most)
read_on n most what is within behind fed = (grind (arith, common_steps), grind (arith, common_steps))

-- laws of listening
module _ {seq : ℕ} {u : List ℕ} {o : LinkState} where
  -- how much was received
  lengths_agree : {held : List ℕ} {count : ℕ} {left : List ℕ} {p : LinkState} (l : Listening seq u o held count left p)
      → length u + length (got_in l.during) ≡ count + length left
  lengths_agree {left = left} l =
      let all : length (on_tape u ++ got_in l.during) ≡ length (on_tape (l.text ++ left)) = ap length l.all_received in
      search (rules, length-append, length-map)

  -- if nothing is left unread, and a piece is received
  module _ {held : List ℕ} {count : ℕ} {left : List ℕ} {p : LinkState} (of_left : Listening seq u o held count left p)
      (none : length left ≡ 0) (few : count < reply_byte_limit) where
    l : Listening seq u o held count [] p
    l = subst (λ bs. Listening seq u o held count bs p) (nil_from_length left none) of_left

    text_received : on_tape u ++ got_in l.during ≡ on_tape l.text
    text_received = l.all_received ∙ ap on_tape (append-nil l.text)

    -- the reply isn't there yet, and one more piece may come
    not_yet : answer seq (on_tape u ++ got_in l.during) ≡ None
    not_yet = ap (answer seq) text_received ∙ reading_waits seq l.text l.no_reply (omega (arith, l.counted))

    waits_more : (items : Tape) → WaitsFrom seq (on_tape u) (l.during ++ Got items ∷ [])
    waits_more items = waits_append seq (on_tape u) l.during (Got items ∷ []) l.waits (not_yet, tt)

    pub received_bytes : {q : LinkState} {what : Heard} {n : ℕ} {new : List ℕ} → count + length new ≤ reply_byte_limit
        → what ≡ heard.Bytes n → ReceivesPiece what new p q → Listening seq u o held count new q
    received_bytes {q = q} {new = new} most is piece =
        search (rules, waits_more, got_append, append-nil, append_assoc, text_received, on_tape_append)

    -- a timeout or an end
    stops : {q : LinkState} {new : List ℕ} (item : Item) (reading : Reading)
        → (new ≡ []) × Grows p.transcript (Got (item ∷ []) ∷ []) q.transcript
        → ((more : Tape) → answer seq (on_tape l.text ++ item ∷ more) ≡ Some (reading, more))
        → ReceivesReply seq u o q reading new
    stops {q = q} item reading piece reads = rw piece.0 (record {
      during = l.during ++ Got (item ∷ []) ∷ [];
      grows = grows_on o.transcript p.transcript q.transcript l.during (Got (item ∷ []) ∷ []) l.grows piece.1;
      waits = waits_more (item ∷ []);
      few = grind (arith, common_steps, got_append);
      reading_is = search (rules, got_both, l, append_assoc, text_received);
    })

    pub received_silence : {q : LinkState} {what : Heard} {new : List ℕ} → what ≡ heard.Silence
        → ReceivesPiece what new p q → ReceivesReply seq u o q Silent new
    received_silence is piece =
        stops Silence Silent (rw is at piece)
        (λ more. reading_silent seq l.text more l.no_reply (omega (arith, l.counted)))

    pub received_end : {q : LinkState} {what : Heard} {new : List ℕ} → what ≡ heard.End → ReceivesPiece what new p q
        → ReceivesReply seq u o q Ended new
    received_end is piece =
        stops End Ended (rw is at piece)
        (λ more. reading_ended seq l.text more l.no_reply (omega (arith, l.counted)))

    -- nothing is received: the link failed
    pub receives_none : {q : LinkState} → Grows p.transcript [] q.transcript → ReceivesNoReply seq u o q
    receives_none {q = q} g = grind (arith, common_steps, not_yet)

  pub reads_on : {held : List ℕ} {count : ℕ} {left : List ℕ} {p : LinkState} (n : ℕ) (new_left new : List ℕ)
      (what : Event) → Listening seq u o held count left p → ReadOn left new_left n held new what
      → first_reply seq (frames_of_event what new) ≡ None → Listening seq u o new (count + n) new_left p
  reads_on n new_left new what l read other = search (rules, length-append, still_none, append_assoc)

  -- listening whose reading is known
  gives : {held : List ℕ} {count : ℕ} {left : List ℕ} {p : LinkState} (x rest_left : List ℕ) (reading : Reading)
      → (l : Listening seq u o held count left p) → on_tape u ++ got_in l.during ≡ on_tape (x ++ rest_left)
      → ((more : Tape) → answer seq (on_tape x ++ more) ≡ Some (reading, more))
      → ReceivesReply seq u o p reading rest_left
  gives x rest_left reading l all reads = record {
    during = l.during;
    grows = l.grows;
    waits = l.waits;
    few = omega (arith, lengths_agree l, l.few);
    reading_is = search (rules, append_assoc, on_tape_append);
  }

  finds_in : {held : List ℕ} {count : ℕ} {p : LinkState} (used left new : List ℕ)
      → Listening seq u o held count (used ++ left) p → Fed held used new (new ∷ []) → HoldsFrame new
      → is_reply seq new ≡ true → count + length used ≤ reply_byte_limit
      → ReceivesReply seq u o p (Replied (body_of new)) left
  finds_in used left new l fed frame good few =
      let whole : rest (l.text ++ used) ≡ [] = fed.stands l.text l.stands ∙ rest_whole new frame.whole in
      let size : length (l.text ++ used) ≤ reply_byte_limit = rw length-append (omega (arith, l.counted)) in
      gives (l.text ++ used) left (Replied (body_of new)) l
      (l.all_received ∙ ap on_tape (sym (append_assoc l.text used left)))
      (λ more. search (rules, reading_found, now_found))

  pub finds : {held : List ℕ} {count : ℕ} {left : List ℕ} {p : LinkState} (n : ℕ) (new_left new : List ℕ) (what : Event)
      → Listening seq u o held count left p → ReadOn left new_left n held new what
      → (what ≡ event.Frame) × HoldsFrame new × (is_reply seq new ≡ true) → count + n ≤ reply_byte_limit
      → ReceivesReply seq u o p (Replied (body_of new)) new_left
  finds n new_left new what l read is few =
      finds_in read.0 new_left new (rw read.2 at l) (rw is.0 at read.3) is.1 is.2 (omega (arith, read.1))

  pub babbles : {held : List ℕ} {count : ℕ} {left : List ℕ} {p : LinkState}
      → Listening seq u o held count left p → count ≡ reply_byte_limit → ReceivesReply seq u o p Babbled left
  babbles {left = left} l full = grind (arith, common_steps, reading_babbled)
