-- A link that loses or delays whole frames, and damages at most one byte of each, forges no frame.
use Rattle.std.proofs.Common.{◌≡◌, ℕ, zero, suc, ◌+◌, ◌-◌, ◌<◌, ◌≤◌, List, [], ◌∷◌, ◌++◌, length, take, refl, sym, ap, subst, append_assoc, ◌∙◌, arith, inl, inr, ◌⊎◌, Bool, true, false, Option, Some, None, length-append, if◌then◌else◌}
use Rattle.std.proofs.lemmas.Bool.{cases_Bool, and_parts, eqb-true, false≢true, cond-true, cond-false}
use Rattle.std.proofs.Math.Seq.{take-append-add}
use Rattle.std.proofs.lemmas.List.{append-nil}
use Rattle.std.proofs.lemmas.List.Elements.{All-head, All-tail}
use Rattle.std.proofs.lemmas.Nat.{xor_comm}
use Rattle.std.specs.Int.Bits.{xor_self, xor_assoc, xor_zero_r}
use Rattle.std.specs.List.{concat}
use Rattle.std.specs.Prelude.{All, bit_xor, fold, filter, ◌==◌}
use Rattle.stk_frame.specs.Frame.{frame, xor_all}
use Rattle.stk_frame.specs.Cut.{cut, frames, IsPiece, is_good, is_frame, body_of}
use Rattle.stk_frame.proofs.Laws.{cut_first, frame_is_piece, frame_is_good, body_of_frame}
use Rattle.stk_host.specs.Tape.{Tape, on_tape, leading_bytes, Reading, Replied, answer, first_reply, is_reply, past_skipped, reply_byte_limit}
use Rattle.stk_host.specs.Dialog.{Dialog, Done, Emit, Ask, next}
use Rattle.stk_host.proofs.Tapes.Readings.{reading_silent, reading_ended, reading_waits, reading_found, on_tape_append, further_zero}
use Rattle.stk_emu.specs.Device.{Device, refusal}
use Rattle.stk_emu.specs.Lawful.{IsFrameBody}
use Rattle.stk_emu.specs.Exchange.{Execution, NotExecuted, Executed, ThenRestarted, after_execution}
use Rattle.avr_tool.specs.Authentic.{first_execution, later_executions, on_reading}
use Rattle.avr_laws.specs.AnyTape.{adding_received, received_frames, good_frames, ReceivedSentFrames, executions_by_arrival}
use Rattle.avr_laws.specs.NoForgedFrame.{frame_of_reply, IsAmongFirst, IsNotForged, AreNotForged, ForgesNoFrame}
use Rattle.avr_laws.specs.Damaged.{DifferInOne, IsDamaged, Arrived, Arrival, FrameArrives, PauseArrives, EndArrives, tape_of_arrivals, frames_before_pause, IsReplyOfFirst, IsSomeRefusal, AreRecentReplies, bytes_up_to_reply, first_reading, IfRead, BringsReplies}
use Rattle.avr_laws.proofs.Lines.NoForgedFrame.{without_restart}

-- ---- a damaged frame has its length, and a wrong XOR

-- what is XORed with the same byte differs as before
xor_cancel : (a b x : ℕ) → bit_xor a x ≡ bit_xor b x → a ≡ b
xor_cancel a b x e = back a ∙ (ap (λ n. bit_xor n x) e ∙ sym (back b))
  where
    back : (c : ℕ) → c ≡ bit_xor (bit_xor c x) x
    back c = sym (xor_assoc c x x ∙ (ap (bit_xor c) (xor_self x) ∙ xor_zero_r c))

-- the same on the other side
xor_cancel_left : (a x y : ℕ) → bit_xor a x ≡ bit_xor a y → x ≡ y
xor_cancel_left a x y e = xor_cancel x y a (xor_comm x a ∙ (e ∙ xor_comm a y))

-- so do sums by XOR of the same bytes
fold_cancel : (xs : List ℕ) (a b : ℕ) → fold bit_xor a xs ≡ fold bit_xor b xs → a ≡ b
fold_cancel [] a b e = e
fold_cancel (x ∷ xs) a b e = xor_cancel a b x (fold_cancel xs (bit_xor a x) (bit_xor b x) e)

-- bytes that differ in one place have another XOR
xor_differs : (xs ys : List ℕ) (z : ℕ) → DifferInOne xs ys → fold bit_xor z xs ≡ fold bit_xor z ys → ⊥
xor_differs [] ys z differ same_xor = differ
xor_differs (x ∷ xs) [] z differ same_xor = differ
xor_differs (x ∷ xs) (y ∷ ys) z (inl (other, same)) same_xor = grind (arith, xor_cancel_left, fold_cancel)
xor_differs (x ∷ xs) (y ∷ ys) z (inr (same, differ)) same_xor =
    xor_differs xs ys (bit_xor z y) differ (ap (λ w. fold bit_xor (bit_xor z w) xs) (sym same) ∙ same_xor)

-- bytes that differ in one place are as many
same_length : (xs ys : List ℕ) → DifferInOne xs ys → length xs ≡ length ys
same_length [] ys differ = absurd differ
same_length (x ∷ xs) [] differ = absurd differ
same_length (x ∷ xs) (y ∷ ys) (inl (other, same)) = ap (λ zs. suc (length zs)) same
same_length (x ∷ xs) (y ∷ ys) (inr (same, differ)) = ap suc (same_length xs ys differ)

-- a frame whose number or later bytes differ in one place does so as a whole
header_same : (start seq other hi lo tok : ℕ) (more rest : List ℕ) → DifferInOne (seq ∷ more) (other ∷ rest)
    → DifferInOne (start ∷ seq ∷ hi ∷ lo ∷ tok ∷ more) (start ∷ other ∷ hi ∷ lo ∷ tok ∷ rest)
header_same start seq other hi lo tok more rest e = grind arith

-- the damaged frame is a piece as long, and no good one
abbrev BadPiece : List ℕ → Type 0
BadPiece came = IsPiece came × (is_good came ≡ true → ⊥)

-- the XOR of a good frame is 0
zero_xor : (piece : List ℕ) → is_good piece ≡ true → xor_all piece ≡ 0
zero_xor piece good = eqb-true (xor_all piece) 0 (and_parts (is_frame piece) (xor_all piece == 0) good).1

-- a damaged frame is as long, and bad
bad_piece : (piece came : List ℕ) → IsPiece piece → is_good piece ≡ true → IsDamaged piece came → BadPiece came
bad_piece [] came whole good damaged = absurd damaged
bad_piece (start ∷ []) came whole good damaged = absurd damaged
bad_piece (start ∷ seq ∷ []) came whole good damaged = absurd damaged
bad_piece (start ∷ seq ∷ hi ∷ []) came whole good damaged = absurd damaged
bad_piece (start ∷ seq ∷ hi ∷ lo ∷ []) came whole good damaged = absurd damaged
bad_piece (start ∷ seq ∷ hi ∷ lo ∷ tok ∷ more) came whole good (other, rest, e, damaged) = subst BadPiece (sym e) (
  whole ∙ same_length (start ∷ seq ∷ hi ∷ lo ∷ tok ∷ more) (start ∷ other ∷ hi ∷ lo ∷ tok ∷ rest) differ,
  λ fine. xor_differs (start ∷ seq ∷ hi ∷ lo ∷ tok ∷ more) (start ∷ other ∷ hi ∷ lo ∷ tok ∷ rest) 0 differ
      (zero_xor (start ∷ seq ∷ hi ∷ lo ∷ tok ∷ more) good ∙ sym (zero_xor (start ∷ other ∷ hi ∷ lo ∷ tok ∷ rest) fine)),
)
  where
    differ : DifferInOne (start ∷ seq ∷ hi ∷ lo ∷ tok ∷ more) (start ∷ other ∷ hi ∷ lo ∷ tok ∷ rest)
    differ = header_same start seq other hi lo tok more rest damaged

-- ---- what the programmer gets

-- a good frame is among the good frames that the programmer cuts
good_kept : (piece : List ℕ) (pieces : List (List ℕ)) → is_good piece ≡ true
    → filter is_good (filter is_frame (piece ∷ pieces)) ≡ piece ∷ filter is_good (filter is_frame pieces)
good_kept piece pieces good = grind (arith, and_parts, cond-true)

-- a bad one isn't
bad_dropped : (piece : List ℕ) (pieces : List (List ℕ)) → (is_good piece ≡ true → ⊥)
    → filter is_good (filter is_frame (piece ∷ pieces)) ≡ filter is_good (filter is_frame pieces)
bad_dropped piece pieces bad = elim (cases_Bool (is_frame piece)) [
  | inl framed ↦ ap (filter is_good)
      (cond-true (is_frame piece) (piece ∷ filter is_frame pieces) (filter is_frame pieces) framed)
      ∙ cond-false (is_good piece) (piece ∷ filter is_good (filter is_frame pieces))
      (filter is_good (filter is_frame pieces)) (not_good bad)
  | inr other ↦ ap (filter is_good)
      (cond-false (is_frame piece) (piece ∷ filter is_frame pieces) (filter is_frame pieces) other)
]
  where
    not_good : (is_good piece ≡ true → ⊥) → is_good piece ≡ false
    not_good bad = elim (cases_Bool (is_good piece)) [
      | inl good ↦ absurd (bad good)
      | inr other ↦ other
    ]

abbrev IsGood : List ℕ → Type 0
IsGood piece = is_good piece ≡ true

-- the frames in bytes that begin with a piece
came_by : (piece more got : List ℕ) → IsPiece piece → got ≡ piece ++ more → frames got
    ≡ filter is_frame (piece ∷ cut more)
came_by piece more got whole e = ap frames e ∙ ap (filter is_frame) (cut_first piece more whole)

-- the good frames in what arrived are those that passed
good_arrived : (sent : List (List ℕ)) (passed : List Bool) (got : List ℕ) → All IsPiece sent → All IsGood sent
    → Arrived sent passed got → received_frames (executions_by_arrival passed) sent ≡ without_restart (good_frames got)
good_arrived [] [] got whole good e = ap (λ (g : List ℕ). without_restart (good_frames g)) (sym e)
good_arrived [] (true ∷ passed) got whole good e = ap (λ (g : List ℕ). without_restart (good_frames g)) (sym e)
good_arrived [] (false ∷ passed) got whole good e = ap (λ (g : List ℕ). without_restart (good_frames g)) (sym e)
good_arrived (piece ∷ sent) [] got whole good e = ap (λ (g : List ℕ). without_restart (good_frames g)) (sym e)
good_arrived (piece ∷ sent) (true ∷ passed) got whole good (more, e, later) =
    ap (adding_received Executed piece) (good_arrived sent passed more (All-tail IsPiece piece sent whole)
    (All-tail IsGood piece sent good) later)
    ∙ ap without_restart (sym (ap (filter is_good) (came_by piece more got (All-head IsPiece piece sent whole) e)
    ∙ good_kept piece (cut more) (All-head IsGood piece sent good)))
good_arrived (piece ∷ sent) (false ∷ passed) got whole good (inl later) =
    good_arrived sent passed got (All-tail IsPiece piece sent whole) (All-tail IsGood piece sent good) later
good_arrived (piece ∷ sent) (false ∷ passed) got whole good (inr (came, more, e, d, later)) =
    let bad = bad_piece piece came (All-head IsPiece piece sent whole) (All-head IsGood piece sent good) d in
    good_arrived sent passed more (All-tail IsPiece piece sent whole) (All-tail IsGood piece sent good) later
    ∙ ap without_restart (sym (ap (filter is_good) (came_by came more got bad.0 e) ∙ bad_dropped came (cut more) bad.1))

-- so what arrived are the sent frames, by which of them passed
pub arrived_came : (sent : List (List ℕ)) (passed : List Bool) (got : List ℕ) → All IsPiece sent → All IsGood sent
    → Arrived sent passed got → ReceivedSentFrames got [] sent (executions_by_arrival passed)
arrived_came sent passed got whole good came = record { good = good_arrived sent passed got whole good came }

-- ---- what the host receives: whose each piece is

-- a frame, or nothing
abbrev IsReply : List ℕ → Type 0
IsReply reply = (reply ≡ []) ⊎ ((n : ℕ) × (body : List ℕ) × IsFrameBody body × (reply ≡ frame n body))

abbrev AllReplies : List (List ℕ) → Type 0
AllReplies [] = Unit {0}
AllReplies (reply ∷ sent) = IsReply reply × AllReplies sent

-- a piece that is nothing, or whole and, if it is good, as claimed
abbrev Sound : (List ℕ → Type 0) → List ℕ → Type 0
Sound Claim piece = (piece ≡ []) ⊎ (IsPiece piece × (is_good piece ≡ true → Claim piece))

-- a frame is a whole piece
is_whole_piece : (n : ℕ) (body : List ℕ) → IsFrameBody body → IsPiece (frame n body)
is_whole_piece n body b = frame_is_piece n body b.some b.few

damaged_frame : (n : ℕ) (body came : List ℕ) → IsFrameBody body → IsDamaged (frame n body) came → BadPiece came
damaged_frame n body came b d = bad_piece (frame n body) came (is_whole_piece n body b) (frame_is_good n body b.some) d

-- a reply to one of these commands, or such a reply damaged
reply_sound : (k : ℕ) (sent : List (List ℕ)) (piece : List ℕ) → AllReplies sent → IsReplyOfFirst k sent piece
    → Sound (IsAmongFirst k sent) piece
reply_sound zero sent piece all is = absurd is
reply_sound (suc k) [] piece all is = absurd is
reply_sound (suc k) (first ∷ sent) piece (inl none, all) (inl same) = inl (same ∙ none)
reply_sound (suc k) (first ∷ sent) piece (inr (n, body, b, e), all) (inl same) =
    inr (subst IsPiece (sym (same ∙ e)) (is_whole_piece n body b), λ good. inl same)
reply_sound (suc k) (first ∷ sent) piece (inl none, all) (inr (inl d)) = absurd (subst (λ f. IsDamaged f piece) none d)
reply_sound (suc k) (first ∷ sent) piece (inr (n, body, b, e), all) (inr (inl d)) =
    let bad = damaged_frame n body piece b (subst (λ f. IsDamaged f piece) e d) in
    inr (bad.0, λ good. absurd (bad.1 good))
reply_sound (suc k) (first ∷ sent) piece (reply, all) (inr (inr is)) = elim (reply_sound k sent piece all is) [
  | inl none ↦ inl none
  | inr (whole, among) ↦ inr (whole, λ good. inr (among good))
]

refused_body : IsFrameBody refusal
refused_body = record { some = omega arith; few = omega arith }

-- a refusal, or a refusal damaged
refusal_sound : (piece : List ℕ) → IsSomeRefusal piece → Sound (λ p. body_of p ≡ refusal) piece
refusal_sound piece (n, inl same) = inr (
  subst IsPiece (sym same) (is_whole_piece n refusal refused_body),
  λ good. ap body_of same ∙ body_of_frame n refusal,
)
refusal_sound piece (n, inr damaged) =
    let bad = damaged_frame n refusal piece refused_body damaged in inr (bad.0, λ good. absurd (bad.1 good))

-- what arrives is nothing, or a whole piece that isn't forged
unforged : (sent : List (List ℕ)) (piece : List ℕ) → AllReplies sent → IsReplyOfFirst 256 sent piece
    ⊎ IsSomeRefusal piece → (piece ≡ []) ⊎ (IsPiece piece × IsNotForged sent piece)
unforged sent piece all (inl is) = elim (reply_sound 256 sent piece all is) [
  | inl none ↦ inl none
  | inr (whole, among) ↦ inr (whole, λ good. inr (among good))
]
unforged sent piece all (inr is) = elim (refusal_sound piece is) [
  | inl none ↦ inl none
  | inr (whole, of) ↦ inr (whole, λ good. inl (of good))
]

-- no bytes are no reply
nothing_is_no_reply : (n : ℕ) (piece : List ℕ) → piece ≡ [] → is_reply n piece ≡ false
nothing_is_no_reply n piece e = ap (is_reply n) e

-- the bytes up to the awaited reply, and what may follow it
abbrev Window : ℕ → List (List ℕ) → ℕ → Type 0
Window n pieces most = length (bytes_up_to_reply n pieces) ≤ most

-- the first piece is inside the window
window_front : (n : ℕ) (piece : List ℕ) (pieces : List (List ℕ)) (most : ℕ) → Window n (piece ∷ pieces) most
    → length piece ≤ most
window_front n piece pieces most le = grind (arith, length-append)

-- so are the later ones, inside what is left of it
window_rest : (n : ℕ) (piece : List ℕ) (pieces : List (List ℕ)) (most : ℕ) → is_reply n piece ≡ false
    → Window n (piece ∷ pieces) most → Window n pieces (most - length piece)
window_rest n piece pieces most other le = grind (arith, length-append, cond-false)

-- the first bytes of a piece and of what follows
take_front : (piece bytes : List ℕ) (most : ℕ) → length piece ≤ most
    → take most (piece ++ bytes) ≡ piece ++ take (most - length piece) bytes
take_front piece bytes most le =
    let e : length piece + (most - length piece) ≡ most = omega (arith, le) in
    ap (λ k. take k (piece ++ bytes)) (sym e) ∙ take-append-add piece bytes (most - length piece)

take_none : (most : ℕ) → take {A = ℕ} most [] ≡ []
take_none most = grind arith

-- none of the pieces that arrive inside the window is forged
none_forged : (n most : ℕ) (sent pieces : List (List ℕ)) → AllReplies sent → AreRecentReplies n sent pieces
    → Window n pieces most → AreNotForged n sent (cut (take most (concat pieces)))
none_forged n most sent [] all replies le = subst (λ bs. AreNotForged n sent (cut bs)) (sym (take_none most)) tt
none_forged n most sent (piece ∷ pieces) all (is, later) le = elim (unforged sent piece all is) [
  | inl none ↦ subst (λ p. AreNotForged n sent (cut (take most (p ++ concat pieces)))) (sym none)
      (none_forged n most sent pieces all (later (nothing_is_no_reply n piece none))
      (omega (arith, window_rest n piece pieces most (nothing_is_no_reply n piece none) le)))
  | inr (whole, was) ↦ subst (λ bs. AreNotForged n sent (cut bs))
      (sym (take_front piece (concat pieces) most (window_front n piece pieces most le)))
      (subst (AreNotForged n sent) (sym (cut_first piece (take (most - length piece) (concat pieces)) whole)) (
        was,
        λ other. none_forged n (most - length piece) sent pieces all (later other)
            (window_rest n piece pieces most other le),
      ))
]

-- ---- how the bytes are read

-- the first bytes on a tape
leading_piece : (piece : List ℕ) (tape : Tape) → leading_bytes (on_tape piece ++ tape) ≡ piece ++ leading_bytes tape
leading_piece [] tape = refl
leading_piece (b ∷ piece) tape = ap (λ bs. b ∷ bs) (leading_piece piece tape)

-- they are the frames that arrive before a pause
bytes_before_pause : (come : List Arrival) → leading_bytes (tape_of_arrivals come) ≡ concat (frames_before_pause come)
bytes_before_pause [] = refl
bytes_before_pause (FrameArrives piece ∷ come) = leading_piece piece (tape_of_arrivals come) ∙ ap (λ bs. piece
    ++ bs) (bytes_before_pause come)
bytes_before_pause (PauseArrives ∷ come) = refl
bytes_before_pause (EndArrives ∷ come) = refl

-- the awaited reply comes, as the end of these bytes
abbrev Comes : ℕ → List Arrival → List ℕ → Type 0
Comes n come bytes = (body : List ℕ) × (left : List Arrival) × (first_reading n come ≡ Some (Replied body, left))
    × (tape_of_arrivals come ≡ on_tape bytes ++ tape_of_arrivals left) × (first_reply n (cut bytes)
    ≡ Some (body, length bytes))

-- it doesn't come in these bytes, before a pause or the end
abbrev Lost : ℕ → List Arrival → List ℕ → Type 0
Lost n come bytes = (left : List Arrival) × (first_reading n come ≡ first_reading n left)
    × (frames_before_pause left ≡ []) × (tape_of_arrivals come ≡ on_tape bytes ++ tape_of_arrivals left)
    × (first_reply n (cut bytes) ≡ None)

-- a piece and the bytes behind it
pieces_joined : (piece bytes : List ℕ) (tape left : Tape) → tape ≡ on_tape bytes ++ left
    → on_tape piece ++ tape ≡ on_tape (piece ++ bytes) ++ left
pieces_joined piece bytes tape left e = grind (arith, append_assoc, on_tape_append)

-- a piece that isn't the reply is skipped
further_first : (n : ℕ) (piece bytes : List ℕ) → (piece ≡ []) ⊎ IsPiece piece → is_reply n piece ≡ false
    → first_reply n (cut (piece ++ bytes)) ≡ past_skipped (length piece) (first_reply n (cut bytes))
further_first n piece bytes e other = grind (arith, further_zero, cut_first, cond-false)

reply_is_something : (n : ℕ) (piece : List ℕ) → piece ≡ [] → is_reply n piece ≡ true → ⊥
reply_is_something n piece none is = false≢true (sym (nothing_is_no_reply n piece none) ∙ is)

shape : {A : Type 0} (piece : List ℕ) → (piece ≡ []) ⊎ (IsPiece piece × A) → (piece ≡ []) ⊎ IsPiece piece
shape piece e = grind arith

-- a frame in front that isn't the reply
skipped : (n : ℕ) (piece bytes : List ℕ) (come : List Arrival) → (piece ≡ []) ⊎ IsPiece piece
    → is_reply n piece ≡ false → Comes n come bytes ⊎ Lost n come bytes
    → Comes n (FrameArrives piece ∷ come) (piece ++ bytes) ⊎ Lost n (FrameArrives piece ∷ come) (piece ++ bytes)
skipped n piece bytes come whole other (inl (body, left, is, tape, first)) =
    let size : length piece + length bytes ≡ length (piece ++ bytes) = sym (length-append piece bytes) in
    inl (
      body,
      left,
      cond-false (is_reply n piece) _ _ other ∙ is,
      pieces_joined piece bytes (tape_of_arrivals come) (tape_of_arrivals left) tape,
      further_first n piece bytes whole other
          ∙ (ap (past_skipped (length piece)) first ∙ ap (λ k. Some (body, k)) size),
    )
skipped n piece bytes come whole other (inr (left, is, none, tape, first)) = inr (
  left,
  cond-false (is_reply n piece) _ _ other ∙ is,
  none,
  pieces_joined piece bytes (tape_of_arrivals come) (tape_of_arrivals left) tape,
  further_first n piece bytes whole other ∙ ap (past_skipped (length piece)) first,
)

-- by the pieces that arrive, one after the other
by_piece : (n : ℕ) (sent : List (List ℕ)) (come : List Arrival) → AllReplies sent
    → AreRecentReplies n sent (frames_before_pause come) → Comes n come (bytes_up_to_reply n (frames_before_pause come))
    ⊎ Lost n come (bytes_up_to_reply n (frames_before_pause come))
by_piece n sent [] all replies = inr ([], refl, refl, refl, refl)
by_piece n sent (PauseArrives ∷ come) all replies = inr (PauseArrives ∷ come, refl, refl, refl, refl)
by_piece n sent (EndArrives ∷ come) all replies = inr (EndArrives ∷ come, refl, refl, refl, refl)
by_piece n sent (FrameArrives piece ∷ come) all (is, later) = elim (cases_Bool (is_reply n piece)) [
  | inl found ↦ subst (λ bs. Comes n (FrameArrives piece ∷ come) (piece ++ bs)
      ⊎ Lost n (FrameArrives piece ∷ come) (piece ++ bs))
      (sym (cond-true (is_reply n piece) [] (bytes_up_to_reply n (frames_before_pause come)) found))
      (inl (taken found (unforged sent piece all is)))
  | inr other ↦ subst (λ bs. Comes n (FrameArrives piece ∷ come) (piece ++ bs)
      ⊎ Lost n (FrameArrives piece ∷ come) (piece ++ bs))
      (sym (cond-false (is_reply n piece) [] (bytes_up_to_reply n (frames_before_pause come)) other))
      (skipped n piece (bytes_up_to_reply n (frames_before_pause come)) come (shape piece (unforged sent piece all is))
      other (by_piece n sent come all (later other)))
]
  where
    taken : is_reply n piece ≡ true → (piece ≡ []) ⊎ (IsPiece piece × IsNotForged sent piece)
        → Comes n (FrameArrives piece ∷ come) (piece ++ [])
    taken found (inl none) = absurd (reply_is_something n piece none found)
    taken found (inr (whole, was)) = subst (Comes n (FrameArrives piece ∷ come)) (sym (append-nil piece)) (
      body_of piece,
      come,
      cond-true (is_reply n piece) _ _ found,
      refl,
      ap (first_reply n) (ap cut (sym (append-nil piece)) ∙ cut_first piece [] whole)
          ∙ cond-true (is_reply n piece) _ _ found,
    )

-- a reading, and the tape of what arrives later
abbrev on_the_tape : Option (Reading × List Arrival) → Option (Reading × Tape)
on_the_tape None = None
on_the_tape (Some (reading, come)) = Some (reading, tape_of_arrivals come)

-- if the reply doesn't come, a timeout or the end is read
lost_reads : (n : ℕ) (bytes : List ℕ) (left : List Arrival) → frames_before_pause left ≡ [] → first_reply n (cut bytes)
    ≡ None → length bytes < reply_byte_limit → answer n (on_tape bytes ++ tape_of_arrivals left)
    ≡ on_the_tape (first_reading n left)
lost_reads n bytes [] none first few = ap (answer n) (append-nil (on_tape bytes)) ∙ reading_waits n bytes first few
lost_reads n bytes (PauseArrives ∷ left) none first few = reading_silent n bytes (tape_of_arrivals left) first few
lost_reads n bytes (EndArrives ∷ left) none first few = reading_ended n bytes (tape_of_arrivals left) first few
lost_reads n bytes (FrameArrives piece ∷ left) none first few = cc

-- what is read of the tape is what arrives
is_read : (n : ℕ) (come : List Arrival) (bytes : List ℕ) → Comes n come bytes ⊎ Lost n come bytes
    → length bytes < reply_byte_limit → answer n (tape_of_arrivals come) ≡ on_the_tape (first_reading n come)
is_read n come bytes e lt = grind (arith, reading_found, lost_reads)

-- ---- the law

module _ {P : Type 0} (m : Device P) (bodies : (bytes : List ℕ) (p : P) → IsFrameBody (m.reply bytes p)) where
  -- what a programmer sends for a command is a frame, or nothing
  given_reply : (n : ℕ) (bytes : List ℕ) (p : P) (execution : Execution)
      → IsReply (frame_of_reply m n bytes p execution)
  given_reply n bytes p NotExecuted = inl refl
  given_reply n bytes p Executed = inr (n, m.reply bytes p, bodies bytes p, refl)
  given_reply n bytes p (ThenRestarted execution) = given_reply n bytes p execution

  -- if only the replies arrive, whole or damaged in one byte, no frame is forged
  pub brings_no_frame : {E R : Type 0} (d : Dialog E R) (n : ℕ) (come : List Arrival) (p : P)
      (executions : List Execution) (before : List (List ℕ)) → AllReplies before
      → BringsReplies m d n come p executions before → ForgesNoFrame m d n (tape_of_arrivals come) p executions before
  brings_no_frame (Done r) n come p executions before all brings = tt
  brings_no_frame (Emit e d) n come p executions before all brings =
      brings_no_frame d n come p executions before all brings
  brings_no_frame (Ask bytes go_on) n come p executions before all (lt, replies, later) =
      subst (on_reading (λ reading left.
      AreNotForged n now (cut (take reply_byte_limit (leading_bytes (tape_of_arrivals come))))
      × ForgesNoFrame m (go_on reading) (next n) left afterwards (later_executions executions) now))
      (sym (is_read n come (bytes_up_to_reply n (frames_before_pause come)) (by_piece n now come all_now replies) lt))
      (by (λ reading left claim. brings_no_frame (go_on reading) (next n) left afterwards (later_executions executions)
      now all_now claim) (first_reading n come) later)
    where
      now : List (List ℕ)
      now = frame_of_reply m n bytes p (first_execution executions) ∷ before

      afterwards : P
      afterwards = after_execution (first_execution executions) (m.after bytes p) p m.reset

      all_now : AllReplies now
      all_now = (given_reply n bytes p (first_execution executions), all)

      were : AreNotForged n now (cut (take reply_byte_limit (leading_bytes (tape_of_arrivals come))))
      were = subst (λ bs. AreNotForged n now (cut (take reply_byte_limit bs))) (sym (bytes_before_pause come))
          (none_forged n reply_byte_limit now (frames_before_pause come) all_now replies (omega (arith, lt)))

      by : ((reading : Reading) (left : List Arrival)
          → BringsReplies m (go_on reading) (next n) left afterwards (later_executions executions) now
          → ForgesNoFrame m (go_on reading) (next n) (tape_of_arrivals left) afterwards (later_executions executions)
          now) → (o : Option (Reading × List Arrival))
          → IfRead (λ reading left. BringsReplies m (go_on reading) (next n) left afterwards
          (later_executions executions) now) o → on_reading (λ reading left.
          AreNotForged n now (cut (take reply_byte_limit (leading_bytes (tape_of_arrivals come))))
          × ForgesNoFrame m (go_on reading) (next n) left afterwards (later_executions executions) now) (on_the_tape o)
      by each None claim = tt
      by each (Some (reading, left)) claim = (were, each reading left claim)
