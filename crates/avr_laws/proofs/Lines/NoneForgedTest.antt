-- No frame is forged, as a test: for worked runs, where it computes.
use Rattle.std.proofs.Common.{◌≡◌, ◌∙◌, ◌⊎◌, sym, rules, ℕ, zero, suc, Bool, true, false, List, [], ◌∷◌, take, inl, inr, Option, Some, None}
use Rattle.std.proofs.lemmas.Slice.Eq.{bytes_eq-Decides}
use Rattle.std.proofs.lemmas.Bool.{true≢false}
use Rattle.std.specs.Prelude.{not, ◌&&◌, ◌||◌}
use Rattle.std.specs.Str.{bytes_eq}
use Rattle.stk_emu.specs.Device.{Device, refusal}
use Rattle.stk_emu.specs.Exchange.{Execution, after_execution}
use Rattle.stk_frame.specs.Cut.{body_of, cut, is_good, seq_of}
use Rattle.stk_host.specs.Tape.{Reading, Tape, answer, is_reply, leading_bytes, reply_byte_limit}
use Rattle.avr_tool.specs.Authentic.{first_execution, later_executions, on_reading}
use Rattle.avr_laws.specs.Kept.{NoneForged}
use Rattle.avr_laws.specs.NoForgedFrame.{AreNotForged, IsAmongFirst, IsNotForged, frame_of_reply}

-- `IsAmongFirst` as a test
abbrev is_among_first : ℕ → List (List ℕ) → List ℕ → Bool
is_among_first zero sent piece = false
is_among_first (suc k) [] piece = false
is_among_first (suc k) (first ∷ sent) piece = bytes_eq piece first || is_among_first k sent piece

-- `IsNotForged` as a test
abbrev is_not_forged : List (List ℕ) → List ℕ → Bool
is_not_forged sent piece = not (is_good piece) || (bytes_eq (body_of piece) refusal || is_among_first 256 sent piece)

-- `AreNotForged` as a test
abbrev are_not_forged : ℕ → List (List ℕ) → List (List ℕ) → Bool
are_not_forged n sent [] = true
are_not_forged n sent (piece ∷ pieces) = is_not_forged sent piece && (is_reply n piece || are_not_forged n sent pieces)

abbrev on_reading_or_true : (Reading → Tape → Bool) → Option (Reading × Tape) → Bool
on_reading_or_true test None = true
on_reading_or_true test (Some (reading, tape)) = test reading tape

-- `NoneForged` as a test
abbrev no_frame_forged : {P : Type 0} → Device P → List (List ℕ) → Tape → P → List Execution → List (List ℕ) → Bool
no_frame_forged m [] tape p executions before = true
no_frame_forged m (piece ∷ pieces) tape p executions before =
    let n = seq_of piece in
    let execution = first_execution executions in
    let replies = frame_of_reply m n (body_of piece) p execution ∷ before in
    on_reading_or_true (λ reading left.
    are_not_forged n replies (cut (take reply_byte_limit (leading_bytes tape)))
    && no_frame_forged m pieces left (after_execution execution (m.after (body_of piece) p) p m.reset)
    (later_executions executions) replies) (answer n tape)

one_of : (a b : Bool) → (a || b) ≡ true → (a ≡ true) ⊎ (b ≡ true)
one_of a b is = search rules

each_true : (a b : Bool) → (a && b) ≡ true → (a ≡ true) × (b ≡ true)
each_true a b is = search rules

equal_bytes : (x y : List ℕ) → bytes_eq x y ≡ true → x ≡ y
equal_bytes x y is = search (rules, bytes_eq-Decides)

-- each test shows what it tests
among : (k : ℕ) (sent : List (List ℕ)) (piece : List ℕ) → is_among_first k sent piece ≡ true → IsAmongFirst k sent piece
among zero sent piece is = cc
among (suc k) [] piece is = cc
among (suc k) (first ∷ sent) piece is =
    elim (one_of (bytes_eq piece first) (is_among_first k sent piece) is) [
      | inl same ↦ inl (equal_bytes piece first same)
      | inr more ↦ inr (among k sent piece more)
    ]

not_forged_by_test : (sent : List (List ℕ)) (piece : List ℕ) → is_not_forged sent piece ≡ true → IsNotForged sent piece
not_forged_by_test sent piece is good =
    elim (one_of (bytes_eq (body_of piece) refusal) (is_among_first 256 sent piece) (by_good (is_good piece) good is)) [
      | inl same ↦ inl (equal_bytes (body_of piece) refusal same)
      | inr more ↦ inr (among 256 sent piece more)
    ]
  where
    by_good : {rest : Bool} (good : Bool) → good ≡ true → (not good || rest) ≡ true → rest ≡ true
    by_good true e is = is
    by_good false e is = cc

-- up to the awaited reply none is forged
none_forged_yet : (n : ℕ) (sent pieces : List (List ℕ)) → are_not_forged n sent pieces ≡ true
    → AreNotForged n sent pieces
none_forged_yet n sent [] is = tt
none_forged_yet n sent (piece ∷ pieces) is =
    let parts = each_true (is_not_forged sent piece) (is_reply n piece || are_not_forged n sent pieces) is in (
      not_forged_by_test sent piece parts.0,
      λ other. elim (one_of (is_reply n piece) (are_not_forged n sent pieces) parts.1) [
        | inl taken ↦ absurd (true≢false (sym taken ∙ other))
        | inr more ↦ none_forged_yet n sent pieces more
      ],
    )

-- by what is read, if anything is
on_true : (Test : Reading → Tape → Bool) (Claim : Reading → Tape → Type 0) (came : Option (Reading × Tape))
    → ((reading : Reading) (left : Tape) → Test reading left ≡ true → Claim reading left)
    → on_reading_or_true Test came ≡ true → on_reading Claim came
on_true Test Claim came each is = search rules

-- so a run whose test is true has no forged frame
pub by_test : {P : Type 0} (m : Device P) (pieces : List (List ℕ)) (tape : Tape) (p : P) (executions : List Execution)
    (before : List (List ℕ)) → no_frame_forged m pieces tape p executions before ≡ true
    → NoneForged m pieces tape p executions before
by_test m [] tape p executions before is = tt
by_test m (piece ∷ pieces) tape p executions before is =
    let n = seq_of piece in
    let execution = first_execution executions in
    let replies = frame_of_reply m n (body_of piece) p execution ∷ before in
    let read = cut (take reply_byte_limit (leading_bytes tape)) in
    let later = λ (left : Tape).
    no_frame_forged m pieces left (after_execution execution (m.after (body_of piece) p) p m.reset)
    (later_executions executions) replies in
    on_true _ _ (answer n tape) (λ reading left passed.
    let parts = each_true (are_not_forged n replies read) (later left) passed in (
      none_forged_yet n replies read parts.0,
      by_test m pieces left (after_execution execution (m.after (body_of piece) p) p m.reset)
          (later_executions executions) replies parts.1,
    )) is
