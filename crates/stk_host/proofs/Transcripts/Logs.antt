-- A log with one more mark.
use Rattle.std.proofs.Common.{◌≡◌, ℕ, ◌+◌, List, [], ◌∷◌, ◌++◌, length, take, drop, refl, ap, arith, length-append, rules}
use Rattle.std.proofs.lemmas.List.{drop-append-le, take-append-le, take-append-drop, length-drop, take_all}
use Rattle.stk_host.specs.declared.log.Mark.{Mark}
use Rattle.stk_host.specs.declared.log.Mark.TheVariants as mark
use Rattle.stk_host.specs.declared.link.Heard.{Heard}
use Rattle.stk_host.specs.declared.link.Heard.TheVariants as heard
use Rattle.stk_host.specs.Tape.{on_tape, bytes_on_tape}
use Rattle.stk_host.specs.Transcript as transcript
use Rattle.stk_host.specs.Transcript.{Transcript, Got, FitsBuffer, items_of, sent}
use Rattle.stk_host.specs.Log.{received_byte_count, transcript_of, sent_count, received_count}
use Rattle.stk_host.proofs.Tapes.Readings.{bytes_of_append, bytes_of_on_tape}

-- what the new mark and its bytes add
pub log_more : (marks : List Mark) (out back more_out more_back : List ℕ) (m : Mark) → sent_count marks ≡ length out
    → received_count marks ≡ length back → transcript_of (marks ++ m ∷ []) (out ++ more_out) (back ++ more_back)
    ≡ transcript_of marks out back ++ transcript_of (m ∷ []) more_out more_back
log_more [] [] [] more_out more_back m o b = refl
log_more [] (x ∷ out) back more_out more_back m o b = absurd (omega arith)
log_more [] [] (x ∷ back) more_out more_back m o b = absurd (omega arith)
log_more (mark.Sent n ∷ marks) out back more_out more_back m o b =
    search (
      rules,
      take-append-le,
      drop-append-le,
      log_more marks (drop n out) back more_out more_back m (search (rules, length-drop)) b,
    )
log_more (mark.Heard (heard.Bytes n) ∷ marks) out back more_out more_back m o b =
    search (
      rules,
      take-append-le,
      drop-append-le,
      length-drop,
      log_more marks out (drop n back) more_out more_back m o (rw length-drop (omega arith)),
    )
log_more (mark.Heard none ∷ marks) out back more_out more_back m o b =
    ap (λ t. Got (items_of none []) ∷ t) (log_more marks out back more_out more_back m o (omega (arith, b)))

pub out_more : (marks : List Mark) (m : Mark) → sent_count (marks ++ m ∷ []) ≡ sent_count marks + sent_count (m ∷ [])
out_more [] m = omega arith
out_more (mark.Sent n ∷ marks) m = omega (arith, out_more marks m)
out_more (other ∷ marks) m = out_more marks m

pub back_more : (marks : List Mark) (m : Mark) → received_count (marks ++ m ∷ [])
    ≡ received_count marks + received_count (m ∷ [])
back_more [] m = omega arith
back_more (mark.Heard h ∷ marks) m = omega (arith, back_more marks m)
back_more (other ∷ marks) m = back_more marks m

pub sent_in : (marks : List Mark) (out back : List ℕ) → sent_count marks ≡ length out
    → sent (transcript_of marks out back) ≡ out
sent_in [] [] back o = refl
sent_in [] (x ∷ out) back o = absurd (omega arith)
sent_in (mark.Sent n ∷ marks) out back o =
    rw (sent_in marks (drop n out) back (rw length-drop (omega arith))) (take-append-drop n out)
sent_in (mark.Heard h ∷ marks) out back o = sent_in marks out (drop (received_byte_count h) back) o

pub received_in : (marks : List Mark) (out back : List ℕ) → received_count marks ≡ length back
    → bytes_on_tape (transcript.heard (transcript_of marks out back)) ≡ back
received_in [] out [] b = refl
received_in [] out (x ∷ back) b = absurd (omega arith)
received_in (mark.Sent n ∷ marks) out back b = received_in marks (drop n out) back b
received_in (mark.Heard (heard.Bytes n) ∷ marks) out back b =
    rw (bytes_of_append (on_tape (take n back)) (transcript.heard (transcript_of marks out (drop n back))))
    (rw (bytes_of_on_tape (take n back), received_in marks out (drop n back) (rw length-drop (omega arith)))
    (take-append-drop n back))
received_in (mark.Heard none ∷ marks) out back b = received_in marks out back (omega (arith, b))

-- what was received is what is kept of the buffer
pub items_received : (h : Heard) (buffer : List ℕ) → FitsBuffer h (length buffer)
    → items_of h (take (received_byte_count h) buffer) ≡ items_of h buffer
items_received h buffer fits = search (rules, take_all)

pub count_received : (h : Heard) (buffer : List ℕ) → FitsBuffer h (length buffer)
    → received_count (mark.Heard h ∷ []) ≡ length (take (received_byte_count h) buffer)
count_received h buffer fits = search rules

-- the whole log, as the code goes on: this mark and these bytes are new
module _ (marks new_marks : List Mark) (out new_out back new_back x y : List ℕ) (m : Mark)
    (o : sent_count marks ≡ length out) (b : received_count marks ≡ length back) (marks_are : new_marks ≡ marks ++ m
    ∷ []) (out_is : new_out ≡ out ++ x) (back_is : new_back ≡ back ++ y) where
  pub log_adds : (old : Transcript) → transcript_of marks out back ≡ old
      → transcript_of new_marks new_out new_back ≡ old ++ transcript_of (m ∷ []) x y
  log_adds old view = search (rules, log_more)

  pub counts_more : sent_count (m ∷ []) ≡ length x → received_count (m ∷ []) ≡ length y
      → (sent_count new_marks ≡ length new_out) × (received_count new_marks ≡ length new_back)
  counts_more mo mb = search (rules, length-append, out_more, back_more)
