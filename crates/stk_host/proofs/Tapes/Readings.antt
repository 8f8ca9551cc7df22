-- Laws of the reply on a tape.
use Rattle.std.proofs.Common.{◌≡◌, ℕ, ◌+◌, ◌-◌, ◌<◌, ◌≤◌, List, [], ◌∷◌, ◌++◌, length, take, drop, refl, sym, ap, ◌∙◌, arith, true, length-append, inl, inr, Option, Some, None}
use Rattle.std.proofs.lemmas.Bool.{le-leb, lt-leb, cases_Bool}
use Rattle.std.proofs.lemmas.List.Folds.{concat-append}
use Rattle.std.proofs.Math.Seq.{take-append-add}
use Rattle.std.proofs.lemmas.List.{append-nil, map-append, take_all, take-append-le}
use Rattle.std.proofs.lemmas.Option.{none-some}
use Rattle.std.specs.List.{concat}
use Rattle.std.specs.Prelude.{filter}
use Rattle.stk_frame.specs.Cut.{cut, rest, is_frame, is_good, body_of}
use Rattle.stk_frame.proofs.Cuts.{cut_append, cut_joined}
use Rattle.stk_host.specs.declared.link.Item.TheVariants.{Byte, Silence, End}
use Rattle.stk_host.specs.Tape.{Tape, on_tape, bytes_on_tape, leading_bytes, answer, reading_from_first, timeout_or_end, first_reply, is_reply, past_skipped, reply_byte_limit, Replied, Silent, Ended, Babbled}

-- the bytes of two tapes joined, and of a tape of bytes alone
pub bytes_of_append : (x y : Tape) → bytes_on_tape (x ++ y) ≡ bytes_on_tape x ++ bytes_on_tape y
bytes_of_append [] y = refl
bytes_of_append (Byte byte ∷ x) y = ap (λ bytes. byte ∷ bytes) (bytes_of_append x y)
bytes_of_append (item ∷ x) y = bytes_of_append x y

pub bytes_of_on_tape : (bytes : List ℕ) → bytes_on_tape (on_tape bytes) ≡ bytes
bytes_of_on_tape [] = refl
bytes_of_on_tape (byte ∷ bytes) = ap (λ bs. byte ∷ bs) (bytes_of_on_tape bytes)

pub on_tape_append : (x y : List ℕ) → on_tape (x ++ y) ≡ on_tape x ++ on_tape y
on_tape_append x y = map-append Byte x y

bytes_in_tape : (x : List ℕ) (tape : Tape) → leading_bytes (on_tape x ++ tape) ≡ x ++ leading_bytes tape
bytes_in_tape [] tape = refl
bytes_in_tape (b ∷ x) tape = ap (λ t. b ∷ t) (bytes_in_tape x tape)

pub drop_tape : (x : List ℕ) (tape : Tape) → drop (length x) (on_tape x ++ tape) ≡ tape
drop_tape [] tape = refl
drop_tape (b ∷ x) tape = drop_tape x tape

take_over : (n : ℕ) (x y : List ℕ) → length x ≤ n → take n (x ++ y) ≡ x ++ take (n - length x) y
take_over n x y le = ap (λ m. take m (x ++ y)) (omega arith) ∙ take-append-add x y (n - length x)

-- the reply, by the bytes looked at
pub reads_by : (seq : ℕ) (tape : Tape) (bytes : List ℕ) → take reply_byte_limit (leading_bytes tape) ≡ bytes
    → answer seq tape ≡ reading_from_first (first_reply seq (cut bytes)) bytes tape
unfolding answer
reads_by seq tape bytes is = ap (λ bs. reading_from_first (first_reply seq (cut bs)) bs tape) is

-- no reply yet, and more may come
stopped_at : (seq : ℕ) (x : List ℕ) (tape : Tape) → first_reply seq (cut x) ≡ None → length x < reply_byte_limit
    → leading_bytes tape ≡ [] → answer seq (on_tape x ++ tape) ≡ timeout_or_end tape
stopped_at seq x tape none few no_bytes =
    let bytes : take reply_byte_limit (leading_bytes (on_tape x ++ tape)) ≡ x =
    rw (bytes_in_tape x tape, no_bytes, append-nil x) (take_all reply_byte_limit x (omega arith)) in
    reads_by seq (on_tape x ++ tape) x bytes ∙ rw (none, lt-leb reply_byte_limit (length x) few, drop_tape x tape) refl

pub reading_silent : (seq : ℕ) (x : List ℕ) (more : Tape) → first_reply seq (cut x) ≡ None → length x < reply_byte_limit
    → answer seq (on_tape x ++ Silence ∷ more) ≡ Some (Silent, more)
reading_silent seq x more none few = stopped_at seq x (Silence ∷ more) none few refl

pub reading_ended : (seq : ℕ) (x : List ℕ) (more : Tape) → first_reply seq (cut x) ≡ None → length x < reply_byte_limit
    → answer seq (on_tape x ++ End ∷ more) ≡ Some (Ended, more)
reading_ended seq x more none few = stopped_at seq x (End ∷ more) none few refl

pub reading_waits : (seq : ℕ) (x : List ℕ) → first_reply seq (cut x) ≡ None → length x < reply_byte_limit
    → answer seq (on_tape x) ≡ None
reading_waits seq x none few = ap (answer seq) (sym (append-nil (on_tape x))) ∙ stopped_at seq x [] none few refl

-- if the limit is reached
pub reading_babbled : (seq : ℕ) (x : List ℕ) (more : Tape) → first_reply seq (cut x) ≡ None → length x
    ≡ reply_byte_limit → answer seq (on_tape x ++ more) ≡ Some (Babbled, more)
reading_babbled seq x more none full =
    let bytes : take reply_byte_limit (leading_bytes (on_tape x ++ more)) ≡ x =
    ap (take reply_byte_limit) (bytes_in_tape x more) ∙
    (take-append-le reply_byte_limit x (leading_bytes more) (omega arith) ∙ take_all reply_byte_limit x (omega arith))
    in
    reads_by seq (on_tape x ++ more) x bytes ∙ rw (none, le-leb reply_byte_limit (length x) (omega arith))
    (ap (λ t. Some (Babbled, t)) (ap (λ n. drop n (on_tape x ++ more)) (sym full) ∙ drop_tape x more))

pub further_zero : (o : Option (List ℕ × ℕ)) → o ≡ past_skipped 0 o
further_zero None = refl
further_zero (Some (body, used)) = ap (λ n. Some (body, n)) (omega arith)

pub further_further : (a b : ℕ) (o : Option (List ℕ × ℕ)) → past_skipped a (past_skipped b o) ≡ past_skipped (a + b) o
further_further a b None = refl
further_further a b (Some (body, used)) = ap (λ n. Some (body, n)) (omega arith)

further_none : (a : ℕ) (o : Option (List ℕ × ℕ)) → past_skipped a o ≡ None → o ≡ None
further_none a None e = refl
further_none a (Some (body, used)) e = cc

-- after pieces without a reply
pub first_reply_behind : (seq : ℕ) (xs ys : List (List ℕ)) → first_reply seq xs ≡ None
    → first_reply seq (xs ++ ys) ≡ past_skipped (length (concat xs)) (first_reply seq ys)
first_reply_behind seq [] ys none = further_zero (first_reply seq ys)
first_reply_behind seq (x ∷ xs) ys none = elim (cases_Bool (is_reply seq x)) [
  | inl is_it ↦ let e = rw is_it at none in cc
  | inr is_not ↦
      let none_later = further_none (length x) (first_reply seq xs) (rw is_not at none) in
      rw is_not (ap (past_skipped (length x)) (first_reply_behind seq xs ys none_later)
      ∙ (further_further (length x) (length (concat xs)) (first_reply seq ys)
      ∙ ap (λ n. past_skipped n (first_reply seq ys)) (sym (length-append x (concat xs)))))
]

some_inside : (a : ℕ) (o : Option (List ℕ × ℕ)) (v : List ℕ × ℕ) → past_skipped a o ≡ Some v
    → (w : List ℕ × ℕ) × (o ≡ Some w)
some_inside a None v e = absurd (none-some v e)
some_inside a (Some w) v e = (w, refl)

-- what follows a reply doesn't matter
pub first_reply_stays : (seq : ℕ) (xs ys : List (List ℕ)) (found : List ℕ × ℕ) → first_reply seq xs ≡ Some found
    → first_reply seq (xs ++ ys) ≡ Some found
first_reply_stays seq [] ys found some = absurd (none-some found some)
first_reply_stays seq (x ∷ xs) ys found some = elim (cases_Bool (is_reply seq x)) [
  | inl is_it ↦ rw is_it (rw is_it at some)
  | inr is_not ↦
      let inner = rw is_not at some in
      let at = some_inside (length x) (first_reply seq xs) found inner in
      rw is_not (ap (past_skipped (length x)) (first_reply_stays seq xs ys at.0 at.1 ∙ sym at.1) ∙ inner)
]

-- pieces that aren't frames are no good frames, and contain no reply
pub no_good : (pieces : List (List ℕ)) → filter is_frame pieces ≡ [] → filter is_good pieces ≡ []
no_good [] none = refl
no_good (piece ∷ pieces) none = elim (cases_Bool (is_frame piece)) [
  | inl is_it ↦ let kept = rw is_it at none in cc
  | inr is_not ↦ rw is_not (no_good pieces (rw is_not at none))
]

pub none_good : (seq : ℕ) (pieces : List (List ℕ)) → filter is_good pieces ≡ [] → first_reply seq pieces ≡ None
none_good seq [] none = refl
none_good seq (piece ∷ pieces) none = elim (cases_Bool (is_good piece)) [
  | inl is_it ↦ let kept = rw is_it at none in cc
  | inr is_not ↦ rw is_not (ap (past_skipped (length piece)) (none_good seq pieces (rw is_not at none)))
]

first_reply_skipped : (seq : ℕ) (xs : List (List ℕ)) → filter is_frame xs ≡ [] → first_reply seq xs ≡ None
first_reply_skipped seq xs none = none_good seq xs (no_good xs none)

-- more bytes that bring no frame, or one that isn't the reply
pub still_none : (seq : ℕ) (x y : List ℕ) (skipped found : List (List ℕ)) → first_reply seq (cut x) ≡ None
    → filter is_frame skipped ≡ [] → cut (x ++ y) ≡ cut x ++ (skipped ++ found) → first_reply seq found ≡ None
    → first_reply seq (cut (x ++ y)) ≡ None
still_none seq x y skipped found none no_frames pieces other =
    rw (pieces, first_reply_behind seq (cut x) (skipped ++ found) none)
    (rw (first_reply_behind seq skipped found (first_reply_skipped seq skipped no_frames), other) refl)

-- more bytes that bring the reply, and end with it
pub now_found : (seq : ℕ) (x y : List ℕ) (skipped : List (List ℕ)) (frame : List ℕ) → first_reply seq (cut x) ≡ None
    → filter is_frame skipped ≡ [] → cut (x ++ y) ≡ cut x ++ (skipped ++ frame ∷ []) → is_reply seq frame ≡ true
    → rest (x ++ y) ≡ [] → first_reply seq (cut (x ++ y)) ≡ Some (body_of frame, length (x ++ y))
now_found seq x y skipped frame none no_frames pieces is_it whole =
    let joined = rw (pieces, whole, append-nil, concat-append, concat-append) at (cut_joined (x ++ y)) in
    let total = rw (length-append, length-append, length-append) at (ap length joined) in
    rw (pieces, first_reply_behind seq (cut x) (skipped ++ frame ∷ []) none)
    (rw (first_reply_behind seq skipped (frame ∷ []) (first_reply_skipped seq skipped no_frames), is_it)
    (ap (λ n. Some (body_of frame, n)) (omega (arith, total))))

-- the reply, if the bytes end with it
pub reading_found : (seq : ℕ) (x : List ℕ) (more : Tape) (body : List ℕ)
    → first_reply seq (cut x) ≡ Some (body, length x) → length x ≤ reply_byte_limit
    → answer seq (on_tape x ++ more) ≡ Some (Replied body, more)
reading_found seq x more body found few =
    let bytes : take reply_byte_limit (leading_bytes (on_tape x ++ more)) ≡ x
    ++ take (reply_byte_limit - length x) (leading_bytes more) =
    ap (take reply_byte_limit) (bytes_in_tape x more) ∙ take_over reply_byte_limit x (leading_bytes more) few in
    reads_by seq (on_tape x ++ more) (x ++ take (reply_byte_limit - length x) (leading_bytes more)) bytes
    ∙ (ap (λ o. reading_from_first o (x ++ take (reply_byte_limit - length x) (leading_bytes more)) (on_tape x ++ more))
    (ap (first_reply seq) (cut_append x (take (reply_byte_limit - length x) (leading_bytes more)))
    ∙ first_reply_stays seq (cut x) (cut (rest x ++ take (reply_byte_limit - length x) (leading_bytes more))) (
      body,
      length x,
    ) found) ∙ ap (λ t. Some (Replied body, t)) (drop_tape x more))
