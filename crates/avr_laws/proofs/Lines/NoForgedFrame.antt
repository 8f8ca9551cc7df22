-- On a link that forges no frame all that is read is authentic.
use Rattle.std.proofs.Common.{◌≡◌, ℕ, zero, suc, ◌+◌, ◌%◌, ◌≤◌, List, [], ◌∷◌, ◌++◌, length, take, refl, sym, ap, subst, ◌∙◌, arith, inl, inr, ◌⊎◌, true, Option, Some, None, rules}
use Rattle.std.proofs.lemmas.Bool.{cases_Bool, and_parts, eqb-true, false≢true, cond-true, cond-false}
use Rattle.std.specs.Prelude.{◌==◌, filter, replicate}
use Rattle.stk_frame.specs.Cut.{cut, frames, is_good, seq_of, body_of}
use Rattle.stk_frame.proofs.Laws.{body_of_frame}
use Rattle.stk_host.specs.Tape.{Tape, Reading, Replied, answer, reading_from_first, timeout_or_end, first_reply, is_reply, past_skipped, leading_bytes, reply_byte_limit}
use Rattle.stk_host.specs.Dialog.{Dialog, Done, Emit, Ask, next}
use Rattle.stk_emu.specs.Device.{Device, refusal}
use Rattle.stk_emu.specs.Exchange.{Execution, NotExecuted, Executed, ThenRestarted, after_execution, IsAuthentic}
use Rattle.avr_laws.specs.AnyTape.{FramesByRestart, adding_received, received_frames, ReceivedSentFrames, executions_by_arrival}
use Rattle.avr_tool.specs.Authentic.{first_execution, later_executions, on_reading, RepliesAreAuthentic}
use Rattle.avr_tool.proofs.Lines.Plays.{tail_is}
use Rattle.avr_laws.specs.NoForgedFrame.{frame_of_reply, IsAmongFirst, IsNotForged, AreNotForged, ForgesNoFrame}
use Rattle.avr_laws.proofs.Lines.AnyTape.{AuthenticReading}

-- ---- the numbers of the earlier replies

-- the replies `k` commands back and further: each is empty or has the number of its command
abbrev pub Past : ℕ → ℕ → List (List ℕ) → Type 0
Past n k [] = Unit {0}
Past n k (reply ∷ before) = ((reply ≡ []) ⊎ ((seq_of reply + k) % 256 ≡ n % 256)) × Past n (suc k) before

-- one command later the replies are one further back
further_back : (n k : ℕ) (before : List (List ℕ)) → Past n k before → Past (next n) (suc k) before
further_back n k [] past = tt
further_back n k (reply ∷ before) past = search (rules, further_back n (suc k) before past.1)

nothing_is_not_good : (piece : List ℕ) → piece ≡ [] → is_good piece ≡ true → ⊥
nothing_is_not_good piece is good = search rules

-- none of the last 255 has this number
not_past : (c n k : ℕ) (before : List (List ℕ)) (piece : List ℕ) → 1 ≤ k → k + c ≤ 256 → Past n k before
    → is_good piece ≡ true → seq_of piece ≡ n → IsAmongFirst c before piece → ⊥
not_past zero n k before piece some few past good is among = among
not_past (suc c) n k [] piece some few past good is among = among
not_past (suc c) n k (reply ∷ before) piece some few past good is (inl same) = search (rules, nothing_is_not_good)
not_past (suc c) n k (reply ∷ before) piece some few past good is (inr among) =
    not_past c n (suc k) before piece (omega arith) (omega (arith, few)) past.1 good is among

-- ---- the piece that is taken

-- the body is that of a reply's piece, which isn't forged
abbrev Taken : ℕ → List (List ℕ) → List ℕ → Type 0
Taken n sent body = (piece : List ℕ) × (is_reply n piece ≡ true) × (body_of piece ≡ body) × IsNotForged sent piece

-- the body that was found
abbrev body_in : Option (List ℕ × ℕ) → List ℕ
body_in None = []
body_in (Some (body, used)) = body

-- the body that was read
abbrev body_read : Option (Reading × Tape) → List ℕ
body_read (Some (Replied body, left)) = body
body_read other = []

-- what is found behind a skipped piece is found
further_body : (count : ℕ) (o : Option (List ℕ × ℕ)) (body : List ℕ) (used : ℕ) → past_skipped count o
    ≡ Some (body, used) → (u : ℕ) × (o ≡ Some (body, u))
further_body count None body used is = cc
further_body count (Some (b, u)) body used is = (u, ap (λ x. Some (x, u)) (ap body_in is))

-- the first reply among pieces that aren't forged
taken_piece : (n : ℕ) (sent : List (List ℕ)) (pieces : List (List ℕ)) (body : List ℕ) (used : ℕ)
    → first_reply n pieces ≡ Some (body, used) → AreNotForged n sent pieces → Taken n sent body
taken_piece n sent [] body used e were = cc
taken_piece n sent (piece ∷ pieces) body used e were = elim (cases_Bool (is_reply n piece)) [
  | inl is ↦ (piece, is, ap body_in (sym (cond-true (is_reply n piece) _ _ is) ∙ e), were.0)
  | inr other ↦
      let rest = further_body (length piece) (first_reply n pieces) body used
      (sym (cond-false (is_reply n piece) _ _ other) ∙ e) in
      taken_piece n sent pieces body rest.0 rest.1 (were.1 other)
]

-- a timeout or the end is never the body of a reply
never_replied : (tape left : Tape) (body : List ℕ) → timeout_or_end tape ≡ Some (Replied body, left) → ⊥
never_replied tape left body e = search (rules, false≢true)

-- a body that is read was found in the bytes
found_by_reading : (o : Option (List ℕ × ℕ)) (bytes : List ℕ) (tape left : Tape) (body : List ℕ)
    → reading_from_first o bytes tape ≡ Some (Replied body, left) → (used : ℕ) × (o ≡ Some (body, used))
found_by_reading (Some (b, used)) bytes tape left body e = (used, ap (λ x. Some (x, used)) (ap body_read e))
found_by_reading None bytes tape left body e = search (rules, cases_Bool, cond-true, never_replied, cond-false)

-- so it is for an answer that was read
found_in_bytes : (n : ℕ) (tape left : Tape) (body : List ℕ) → answer n tape ≡ Some (Replied body, left)
    → (used : ℕ) × (first_reply n (cut (take reply_byte_limit (leading_bytes tape))) ≡ Some (body, used))
unfolding answer
found_in_bytes n tape left body e = search (rules, found_by_reading)

module _ {P : Type 0} (m : Device P) where
  -- of the replies to the last 256 frames only the one to this command has its number
  own_by_number : (n : ℕ) (bytes : List ℕ) (p : P) (execution : Execution) (before : List (List ℕ)) (body : List ℕ)
      → Past n 1 before → Taken n (frame_of_reply m n bytes p execution ∷ before) body
      → IsAuthentic m bytes p execution (Replied body)
  own_by_number n bytes p execution before body past t = by_sent execution (t.3 good)
    where
      good : is_good t.0 ≡ true
      good = (and_parts (is_good t.0) (seq_of t.0 == n) t.1).0

      number : seq_of t.0 ≡ n
      number = eqb-true (seq_of t.0) n (and_parts (is_good t.0) (seq_of t.0 == n) t.1).1

      by_sent : (execution : Execution) → (body_of t.0 ≡ refusal)
          ⊎ IsAmongFirst 256 (frame_of_reply m n bytes p execution ∷ before) t.0
          → IsAuthentic m bytes p execution (Replied body)
      by_sent execution (inl e) = inr (sym t.2 ∙ e)
      by_sent execution (inr (inr among)) = absurd
          (not_past 255 n 1 before t.0 (omega arith) (omega arith) past good number among)
      by_sent Executed (inr (inl same)) = inl (tt, sym t.2 ∙ (ap body_of same ∙ body_of_frame n (m.reply bytes p)))
      by_sent NotExecuted (inr (inl same)) = absurd (nothing_is_not_good t.0 same good)
      by_sent (ThenRestarted execution) (inr (inl same)) = by_sent execution (inr (inl same))

  -- what is read is authentic if no frame among the bytes is forged
  pub by_reading : (n : ℕ) (bytes : List ℕ) (p : P) (execution : Execution) (before : List (List ℕ)) (reading : Reading)
      (tape left : Tape) → answer n tape ≡ Some (reading, left) → Past n 1 before
      → AreNotForged n (frame_of_reply m n bytes p execution
      ∷ before) (cut (take reply_byte_limit (leading_bytes tape))) → IsAuthentic m bytes p execution reading
  by_reading n bytes p execution before (Replied body) tape left e past were =
      let f = found_in_bytes n tape left body e in
      own_by_number n bytes p execution before body past (search (rules, taken_piece))
  by_reading n bytes p execution before reading tape left e past were = tt

  -- the reply to this command has its number, or is nothing
  its_number : (n : ℕ) (bytes : List ℕ) (p : P) (execution : Execution) → (frame_of_reply m n bytes p execution ≡ [])
      ⊎ ((seq_of (frame_of_reply m n bytes p execution) + 1) % 256 ≡ next n % 256)
  its_number n bytes p NotExecuted = inl refl
  its_number n bytes p Executed = search rules
  its_number n bytes p (ThenRestarted execution) = its_number n bytes p execution

  -- with this reply the earlier ones are one further back
  pub more_past : (n : ℕ) (bytes : List ℕ) (p : P) (execution : Execution) (before : List (List ℕ)) → Past n 1 before
      → Past (next n) 1 (frame_of_reply m n bytes p execution ∷ before)
  more_past n bytes p execution before past = (its_number n bytes p execution, further_back n 1 before past)

  -- by what is read for the first command
  authentic_by : {E R : Type 0} (bytes : List ℕ) (go_on : Reading → Dialog E R) (n : ℕ) (tape : Tape) (p : P)
      (executions : List Execution) (before : List (List ℕ)) (o : Option (Reading × Tape)) → answer n tape ≡ o
      → Past n 1 before → ((reading : Reading) (left : Tape)
      → ForgesNoFrame m (go_on reading) (next n) left (after_execution (first_execution executions) (m.after bytes p) p
      m.reset) (later_executions executions) (frame_of_reply m n bytes p (first_execution executions) ∷ before)
      → RepliesAreAuthentic m (go_on reading) (next n) left (after_execution (first_execution executions)
      (m.after bytes p) p m.reset) (later_executions executions)) → on_reading (λ reading left.
      AreNotForged n (frame_of_reply m n bytes p (first_execution executions)
      ∷ before) (cut (take reply_byte_limit (leading_bytes tape))) × ForgesNoFrame m (go_on reading) (next n) left
      (after_execution (first_execution executions) (m.after bytes p) p m.reset) (later_executions executions)
      (frame_of_reply m n bytes p (first_execution executions) ∷ before)) o
      → AuthenticReading m bytes go_on n p executions o
  authentic_by bytes go_on n tape p executions before o e past each made = search (rules, by_reading)

  -- THE LAW
  pub no_forged_frame_authentic : {E R : Type 0} (d : Dialog E R) (n : ℕ) (tape : Tape) (p : P)
      (executions : List Execution) (before : List (List ℕ)) → Past n 1 before
      → ForgesNoFrame m d n tape p executions before → RepliesAreAuthentic m d n tape p executions
  no_forged_frame_authentic (Done r) n tape p executions before past made = tt
  no_forged_frame_authentic (Emit e d) n tape p executions before past made =
      no_forged_frame_authentic d n tape p executions before past made
  no_forged_frame_authentic (Ask bytes go_on) n tape p executions before past made =
      authentic_by bytes go_on n tape p executions before (answer n tape) refl past
      (λ reading left inner. no_forged_frame_authentic (go_on reading) (next n) left _ (later_executions executions)
      (frame_of_reply m n bytes p (first_execution executions)
      ∷ before) (more_past n bytes p (first_execution executions) before past) inner) made

-- ---- a programmer that got a prefix of the bytes sent, as over a link that keeps their order

abbrev pub without_restart : List (List ℕ) → FramesByRestart
without_restart got = (got, [])

-- frames that all got through, without a restart
all_through : (xs ys : List (List ℕ))
    → received_frames (executions_by_arrival (replicate (length xs) true)) (xs ++ ys) ≡ without_restart xs
all_through [] ys = refl
all_through (x ∷ xs) ys = ap (adding_received Executed x) (all_through xs ys)

-- if all frames are good, the first ones are
front_good : (xs ys : List (List ℕ)) → filter is_good (xs ++ ys) ≡ xs ++ ys → filter is_good xs ≡ xs
front_good [] ys e = refl
front_good (x ∷ xs) ys e = elim (cases_Bool (is_good x)) [
  | inl good ↦ cond-true (is_good x) _ _ good
      ∙ ap (λ zs. x ∷ zs) (front_good xs ys (tail_is x x _ _ (sym (cond-true (is_good x) _ _ good) ∙ e)))
  | inr bad ↦ absurd (fewer (search (rules, cond-false)) (filter_fewer (xs ++ ys)))
]
  where
    filter_fewer : (zs : List (List ℕ)) → length (filter is_good zs) ≤ length zs
    filter_fewer [] = omega arith
    filter_fewer (z ∷ zs) = elim (cases_Bool (is_good z)) [
      | inl good ↦ rw (cond-true (is_good z) (z ∷ filter is_good zs) (filter is_good zs) good)
          (let f = filter_fewer zs in omega (arith, f))
      | inr bad ↦ rw (cond-false (is_good z) (z ∷ filter is_good zs) (filter is_good zs) bad)
          (let f = filter_fewer zs in omega (arith, f))
    ]

    fewer : {k l : ℕ} → k ≡ suc l → k ≤ l → ⊥
    fewer e le = omega (arith, e, le)

-- so the frames in a prefix were received
pub prefix_came : (got : List ℕ) (sent others : List (List ℕ)) → sent ≡ frames got ++ others
    → filter is_good sent ≡ sent
    → ReceivedSentFrames got [] sent (executions_by_arrival (replicate (length (frames got)) true))
prefix_came got sent others is good = record {
  good = ap (received_frames (executions_by_arrival (replicate (length (frames got)) true))) is
      ∙ (all_through (frames got) others
      ∙ ap without_restart (sym (front_good (frames got) others (subst (λ (s : List (List ℕ)). filter is_good s ≡ s) is
      good))));
}
