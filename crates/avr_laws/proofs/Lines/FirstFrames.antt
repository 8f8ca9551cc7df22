-- The first frames of a dialog over a tape: if none of their replies is forged, they go along exchanges.
use Rattle.std.proofs.Common.{◌≡◌, ◌≤◌, ℕ, zero, suc, List, [], ◌∷◌, length, take, refl, sym, ap, ◌∙◌, subst, arith, Option, Some, None, rules}
use Rattle.std.proofs.lemmas.Bool.{cond-true}
use Rattle.stk_frame.specs.Frame.{frame}
use Rattle.stk_frame.specs.Cut.{cut}
use Rattle.stk_frame.proofs.Laws.{frame_is_good, body_of_frame}
use Rattle.stk_host.specs.Tape.{Tape, Reading, answer, leading_bytes, reply_byte_limit}
use Rattle.stk_host.specs.Dialog.{Dialog, Done, Emit, Ask, played, continue_with_reading, next, frames_in}
use Rattle.stk_emu.specs.Device.{Device, after_frame}
use Rattle.stk_emu.specs.Lawful.{IsFrameBody}
use Rattle.stk_emu.specs.Exchange.{Exchange, Execution, NoReply, Disturbed, after_execution}
use Rattle.stk_emu.specs.DialogOverExchanges.{state_after, SendsValidBodies}
use Rattle.avr_laws.specs.AnyTape.{after_sent_frames, exchange_by}
use Rattle.avr_laws.specs.Kept.{NoneForged}
use Rattle.avr_laws.specs.NoForgedFrame.{AreNotForged, frame_of_reply}
use Rattle.avr_tool.specs.Authentic.{first_execution, later_executions, on_reading}
use Rattle.avr_laws.proofs.Lines.AnyTape.{authentic_exchange}
use Rattle.avr_laws.proofs.Lines.NoForgedFrame.{Past, by_reading, more_past}

module _ {P : Type 0} (m : Device P) where
  -- after this many of its frames the programmer is where some exchanges lead it
  abbrev GoesAlong : {E R : Type 0} → Dialog E R → ℕ → List (List ℕ) → P → List Execution → Type 0
  GoesAlong d k sent p executions =
      (exchanges : List Exchange) × ((state_after m k d p exchanges).programmer ≡ after_sent_frames m sent executions p)

  -- without a further command the programmer stays as it is
  not_asked : {E R : Type 0} (d : Dialog E R) (p : P) (exchanges : List Exchange)
      → (state_after m 0 d p exchanges).programmer ≡ p
  not_asked (Emit e d) p exchanges = not_asked d p exchanges
  not_asked z0 p exchanges = refl

  module _ {E R : Type 0} (bytes : List ℕ) (go_on : Reading → Dialog E R) (n : ℕ) (tape : Tape) (p : P)
      (executions : List Execution) (before : List (List ℕ)) (k : ℕ) (valid : IsFrameBody bytes)
      (past : Past n 1 before) where
    -- what happened to the programmer at this frame
    abbrev execution : Execution
    execution = first_execution executions

    -- the programmer after it
    abbrev on_time : P
    on_time = after_execution execution (m.after bytes p) p m.reset

    -- the replies so far, the last one first
    abbrev replies : List (List ℕ)
    replies = frame_of_reply m n bytes p execution ∷ before

    -- the frames that are sent later
    abbrev later_frames : Option (Reading × Tape) → List (List ℕ)
    later_frames o = frames_in (continue_with_reading (λ reading. played (go_on reading) (next n)) o).events

    -- the programmer executes the frame's body
    executed : after_frame m (frame n bytes) p ≡ m.after bytes p
    executed = search (rules, cond-true, frame_is_good, body_of_frame)

    arrives : on_time ≡ after_execution execution (after_frame m (frame n bytes) p) p m.reset
    arrives = ap (λ (q : P). after_execution execution q p m.reset) (sym executed)

    -- by what is read for the first command
    by_answer : (o : Option (Reading × Tape)) → answer n tape ≡ o → k ≤ length (later_frames o)
        → ((reading : Reading) (left : Tape) → k ≤ length (frames_in (played (go_on reading) (next n) left).events)
        → NoneForged m (take k (frames_in (played (go_on reading) (next n) left).events)) left on_time
        (later_executions executions) replies
        → GoesAlong (go_on reading) k (take k (frames_in (played (go_on reading) (next n) left).events)) on_time
        (later_executions executions))
        → on_reading (λ reading left. AreNotForged n replies (cut (take reply_byte_limit (leading_bytes tape)))
        × NoneForged m (take k (later_frames o)) left on_time (later_executions executions) replies) o
        → GoesAlong (Ask bytes go_on) (suc k) (frame n bytes ∷ take k (later_frames o)) p executions
    by_answer None is few each forged = none k few
      where
        none : (i : ℕ) → i ≤ 0 → GoesAlong (Ask bytes go_on) (suc i) (frame n bytes ∷ take i []) p executions
        none zero le = (Disturbed execution NoReply ∷ [], not_asked (go_on _) on_time [] ∙ arrives)
        none (suc i) le = absurd (omega (arith, le))
    by_answer (Some (reading, left)) is few each forged =
        let one_exchange = exchange_by execution reading in
        let same = authentic_exchange m bytes p execution reading
        (by_reading m n bytes p execution before reading tape left is past forged.0) in
        let later = each reading left few forged.1 in (
          one_exchange ∷ later.0,
          search (rules, arrives),
        )

  -- THE LAW
  pub first_go_along : {E R : Type 0} (d : Dialog E R) (n : ℕ) (tape : Tape) (p : P) (executions : List Execution)
      (before : List (List ℕ)) (k : ℕ) → SendsValidBodies d → Past n 1 before
      → k ≤ length (frames_in (played d n tape).events)
      → NoneForged m (take k (frames_in (played d n tape).events)) tape p executions before
      → GoesAlong d k (take k (frames_in (played d n tape).events)) p executions
  first_go_along (Done r) n tape p executions before zero valid past few forged = ([], refl)
  first_go_along (Done r) n tape p executions before (suc k) valid past few forged = ([], refl)
  first_go_along (Emit e d) n tape p executions before k valid past few forged =
      first_go_along d n tape p executions before k valid past few forged
  first_go_along (Ask bytes go_on) n tape p executions before zero valid past few forged = ([], refl)
  first_go_along (Ask bytes go_on) n tape p executions before (suc k) valid past few forged =
      by_answer bytes go_on n tape p executions before k valid.0 past (answer n tape) refl (omega (arith, few))
      (λ reading left few_left forged_left. first_go_along (go_on reading) (next n) left _ (later_executions executions)
      _ k (valid.1 reading) (more_past m n bytes p (first_execution executions) before past) few_left forged_left)
      (subst (λ (b : List ℕ). on_reading (λ reading left.
      AreNotForged n (frame_of_reply m n b p (first_execution executions) ∷ before)
      (cut (take reply_byte_limit (leading_bytes tape)))
      × NoneForged m (take k (frames_in (continue_with_reading (λ reading. played (go_on reading) (next n))
      (answer n tape)).events)) left (after_execution (first_execution executions) (m.after b p) p m.reset)
      (later_executions executions) (frame_of_reply m n b p (first_execution executions) ∷ before)) (answer n tape))
      (body_of_frame n bytes) forged)
