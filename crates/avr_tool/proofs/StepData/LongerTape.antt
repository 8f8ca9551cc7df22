-- A reply that was found stays found if the tape grows, and what follows stays after it.
use Rattle.std.proofs.Common.{◌≡◌, ℕ, zero, suc, ◌+◌, ◌<◌, ◌≤◌, List, [], ◌∷◌, ◌++◌, length, take, drop, refl, sym, ap, ◌∙◌, append_assoc, arith, min, length-append, inl, inr, Option, Some, None, rules}
use Rattle.std.proofs.lemmas.Bool.{leb-true, leb-false, cases_Bool, cond-true, cond-false}
use Rattle.std.proofs.lemmas.List.{take_all, take-append-le, length-take}
use Rattle.std.proofs.lemmas.Option.{none-some}
use Rattle.std.specs.List.{concat}
use Rattle.std.specs.Prelude.{nat_le as leb}
use Rattle.stk_frame.specs.Cut.{cut, rest}
use Rattle.stk_frame.proofs.Cuts.{cut_append, cut_joined}
use Rattle.stk_host.specs.declared.link.Item.TheVariants.{Byte}
use Rattle.stk_host.specs.Tape.{Tape, on_tape, leading_bytes, answer, reading_from_first, timeout_or_end, first_reply, past_skipped, reply_byte_limit, Reading, Babbled}
use Rattle.stk_host.proofs.Tapes.Readings.{reading_silent, reading_ended, first_reply_stays, drop_tape, reads_by}

-- The leading bytes of a tape, and what follows them.
pub record Split (tape : Tape) : Type 0 where
  pub tail : Tape
  pub is : tape ≡ on_tape (leading_bytes tape) ++ tail
  pub stops : leading_bytes tail ≡ []

-- Each tape is split so.
split : (tape : Tape) → Split tape
split [] = record { tail = []; is = refl; stops = refl }
split (Byte b ∷ tape) = let s = split tape in record { tail = s.tail; is = ap (λ t. Byte b ∷ t) s.is; stops = s.stops }
split tape = search rules

-- A longer tape has the same leading bytes, and perhaps more.
bytes_more : (t u : Tape) → (z : List ℕ) × (leading_bytes (t ++ u) ≡ leading_bytes t ++ z)
bytes_more [] u = (leading_bytes u, refl)
bytes_more (Byte b ∷ t) u = let m = bytes_more t u in (m.0, ap (λ bs. b ∷ bs) m.1)
bytes_more (item ∷ t) u = ([], refl)

-- So have the first n bytes.
take_more_bytes : (n : ℕ) (x z : List ℕ) → (y : List ℕ) × (take n (x ++ z) ≡ take n x ++ y)
take_more_bytes zero x z = ([], refl)
take_more_bytes (suc n) [] z = (take (suc n) z, refl)
take_more_bytes (suc n) (b ∷ x) z = let m = take_more_bytes n x z in (m.0, ap (λ bs. b ∷ bs) m.1)

-- What is left of a longer tape is longer by as much.
drop_more_tape : (n : ℕ) (t u : Tape) → n ≤ length t → drop n (t ++ u) ≡ drop n t ++ u
drop_more_tape (suc n) (i ∷ t) u le = drop_more_tape n t u (omega arith)
drop_more_tape n t u le = search rules

-- A tape has no more leading bytes than items.
bytes_few : (t : Tape) → length (leading_bytes t) ≤ length t
bytes_few (Byte b ∷ t) = let l = bytes_few t in omega arith
bytes_few t = omega arith

-- What a skipped piece adds.
further_used : (a n : ℕ) (o : Option (List ℕ × ℕ)) (body : List ℕ) (used : ℕ) → past_skipped a o ≡ Some (body, used)
    → ((b : List ℕ) (k : ℕ) → o ≡ Some (b, k) → k ≤ n) → used ≤ a + n
further_used a n o body used e each = search rules

-- A reply ends within the pieces.
pub used_within : (seq : ℕ) (pieces : List (List ℕ)) (body : List ℕ) (used : ℕ)
    → first_reply seq pieces ≡ Some (body, used) → used ≤ length (concat pieces)
used_within seq [] body used e = absurd (none-some (body, used) e)
used_within seq (piece ∷ pieces) body used e =
    search (rules, cases_Bool, cond-true, length-append, cond-false, further_used, used_within seq pieces)

-- A reply ends within the bytes.
used_few : (seq : ℕ) (x body : List ℕ) (used : ℕ) → first_reply seq (cut x) ≡ Some (body, used) → used ≤ length x
used_few seq x body used e =
    let few = used_within seq (cut x) body used e in
    omega (arith, few, length-append (concat (cut x)) (rest x), ap length (cut_joined x))

-- Equal readings have equal rests.
some_tape : (a b : Reading) (s t : Tape) → ◌≡◌ {A = Option (Reading × Tape)} (Some (a, s)) (Some (b, t))
    → (a ≡ b) × (s ≡ t)
some_tape a b s t e = search rules

-- A timeout or an end is read again.
stops_more : (seq : ℕ) (b : List ℕ) (tail u : Tape) (reading : Reading) (left : Tape) → leading_bytes tail ≡ []
    → first_reply seq (cut b) ≡ None → length b < reply_byte_limit → timeout_or_end tail ≡ Some (reading, left)
    → answer seq ((on_tape b ++ tail) ++ u) ≡ Some (reading, left ++ u)
stops_more seq b tail u reading left stops none few e = search (rules, append_assoc, reading_silent, reading_ended)

-- Any reading is read again, by whether a reply was found.
reading_longer : (seq : ℕ) (t u : Tape) (o : Option (List ℕ × ℕ)) (reading : Reading) (left : Tape)
    → first_reply seq (cut (take reply_byte_limit (leading_bytes t))) ≡ o
    → reading_from_first o (take reply_byte_limit (leading_bytes t)) t ≡ Some (reading, left) → answer seq (t ++ u)
    ≡ Some (reading, left ++ u)
reading_longer seq t u (Some (body, used)) reading left found e =
    let z = bytes_more t u in
    let y = take_more_bytes reply_byte_limit (leading_bytes t) z.0 in
    let x : List ℕ = take reply_byte_limit (leading_bytes t) in
    let bytes : take reply_byte_limit (leading_bytes (t ++ u)) ≡ x ++ y.0 = ap (take reply_byte_limit) z.1 ∙ y.1 in
    let a : used ≤ length x = used_few seq x body used found in
    let b : length x ≤ length (leading_bytes t) = simp length-take (omega arith) in
    let c : length (leading_bytes t) ≤ length t = bytes_few t in
    reads_by seq (t ++ u) (x ++ y.0) bytes
    ∙ rw (cut_append x y.0, first_reply_stays seq (cut x) (cut (rest x ++ y.0)) (body, used) found)
    (search (rules, drop_more_tape))
reading_longer seq t u None reading left none e =
    let x : List ℕ = take reply_byte_limit (leading_bytes t) in
    let l : length x ≡ min reply_byte_limit (length (leading_bytes t)) =
    length-take reply_byte_limit (leading_bytes t) in
    let c : length (leading_bytes t) ≤ length t = bytes_few t in
    elim (cases_Bool (leb reply_byte_limit (length x))) [
      | inl full ↦
          let le : reply_byte_limit ≤ length x = leb-true reply_byte_limit (length x) full in
          let z = bytes_more t u in
          let bytes : take reply_byte_limit (leading_bytes (t ++ u)) ≡ x =
          ap (take reply_byte_limit) z.1 ∙ take-append-le reply_byte_limit (leading_bytes t) z.0 (omega arith) in
          let f = some_tape Babbled reading (drop reply_byte_limit t) left
          (search rules) in
          reads_by seq (t ++ u) x bytes
          ∙ rw (none, full, drop_more_tape reply_byte_limit t u (omega arith), f.0, f.1) refl
      | inr few ↦
          let lt : length x < reply_byte_limit = leb-false reply_byte_limit (length x) few in
          let same : x ≡ leading_bytes t = take_all reply_byte_limit (leading_bytes t) (omega arith) in
          let s = split t in
          let stop : timeout_or_end (drop (length x) t) ≡ Some (reading, left) = search rules in
          let at : drop (length x) t ≡ s.tail = search (rules, drop_tape) in
          ap (λ w. answer seq (w ++ u)) s.is
          ∙ stops_more seq (leading_bytes t) s.tail u reading left s.stops (rw (← same) none) (rw (← same) lt)
          (rw (← at) stop)
    ]

-- What is read of a tape is read of a longer one.
pub reading_extends : (seq : ℕ) (t u : Tape) (reading : Reading) (left : Tape) → answer seq t ≡ Some (reading, left)
    → answer seq (t ++ u) ≡ Some (reading, left ++ u)
reading_extends seq t u reading left e =
    reading_longer seq t u (first_reply seq (cut (take reply_byte_limit (leading_bytes t)))) reading left refl
    (sym (reads_by seq t (take reply_byte_limit (leading_bytes t)) refl) ∙ e)
