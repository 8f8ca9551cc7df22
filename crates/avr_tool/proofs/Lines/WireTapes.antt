-- A dialog run over what a wire brings runs along the exchanges of its fates, and nothing of the tape is left.
use Rattle.std.proofs.Common.{◌≡◌, ◌≤◌, ℕ, List, [], ◌∷◌, ◌++◌, length, refl, sym, ap, ◌∙◌, subst, arith, Some, None, rules}
use Rattle.std.proofs.lemmas.List.Elements.{All-tail}
use Rattle.stk_frame.specs.Frame.{frame}
use Rattle.stk_host.specs.Tape.{Reading, answer}
use Rattle.stk_host.specs.Dialog.{Dialog, Done, Emit, Ask, Frame, played, prepend_events, next, frames_in}
use Rattle.stk_host.proofs.Tapes.Readings.{reading_waits}
use Rattle.stk_emu.specs.declared.fate.Fate.{Fate}
use Rattle.stk_emu.specs.Device.{Device}
use Rattle.stk_emu.specs.Wire.{first_fate, other_fates, exchange_of_fate, exchanges_of_fates, executions_of_fates, IsLawfulFate, AreLawful, Wire, wire_after_frame, wire_after_frames, tape_of}
use Rattle.stk_emu.specs.Lawful.{NoneHasNumber}
use Rattle.stk_emu.specs.Exchange.{Exchange, after_exchange, reading_of_exchange}
use Rattle.stk_emu.specs.DialogOverExchanges.{state_after, SendsValidBodies}
use Rattle.stk_emu.proofs.Replies.BodySizes.{RepliesFitFrames}
use Rattle.stk_emu.proofs.Wires.Arrivals.{arrival_read, arrival_leaves, arrival_late}
use Rattle.avr_tool.specs.Authentic.{RepliesAreAuthentic}
use Rattle.avr_tool.proofs.Lines.Plays.{played_along, tail_is}

-- The first fate of lawful ones is lawful.
first_lawful : (fates : List Fate) → AreLawful fates → IsLawfulFate (first_fate fates)
first_lawful fates l = search rules

-- So are the others.
others_lawful : (fates : List Fate) → AreLawful fates → AreLawful (other_fates fates)
others_lawful [] l = l
others_lawful (fate ∷ fates) l = All-tail IsLawfulFate fate fates l

-- A dialog that sent frames over a wire: the programmer after it, and its run over all that they bring. Its replies are
-- authentic, by the fates of these frames and of any more.
pub record GoesOver {E R P : Type 0} (m : Device P) (d : Dialog E R) (n : ℕ) (w : Wire P) (sent : List (List ℕ)) (p : P)
    (exchanges : List Exchange) : Type 0 where
  pub programmer : (wire_after_frames m sent w).programmer ≡ (state_after m (length sent) d p exchanges).programmer
  pub play : played d n (tape_of m sent w) ≡ played_along m (length sent) d n p exchanges []
  pub is_authentic : (j : ℕ) → length sent ≤ j → RepliesAreAuthentic m d n (tape_of m sent w) p
      (executions_of_fates j w.fates)

module _ {P : Type 0} (m : Device P) (replies_fit : RepliesFitFrames m) where
  -- a command whose reply came, by its own exchange
  replied : {E R : Type 0} (bytes : List ℕ) (go_on : Reading → Dialog E R) (n : ℕ) (w : Wire P) (sent : List (List ℕ))
      (exchanges : List Exchange) → answer n (tape_of m (frame n bytes ∷ sent) w) ≡ Some (
        reading_of_exchange (exchange_of_fate (first_fate w.fates)) (m.reply bytes w.programmer),
        tape_of m sent (wire_after_frame m (frame n bytes) w),
      ) → GoesOver m (go_on (reading_of_exchange (exchange_of_fate (first_fate w.fates)) (m.reply bytes w.programmer)))
      (next n) (wire_after_frame m (frame n bytes) w) sent
      (after_exchange (exchange_of_fate (first_fate w.fates)) (m.after bytes w.programmer) w.programmer m.reset)
      exchanges → GoesOver m (Ask bytes go_on) n w (frame n bytes ∷ sent) w.programmer
      (exchange_of_fate (first_fate w.fates) ∷ exchanges)
  replied bytes go_on n w sent exchanges read goes = search rules

  -- The exchanges of fates are those of the first and of the others.
  by_fates : {E R : Type 0} (bytes : List ℕ) (go_on : Reading → Dialog E R) (n : ℕ) (w : Wire P) (f : List ℕ)
      (sent : List (List ℕ)) (p : P) (fates : List Fate)
      → GoesOver m (Ask bytes go_on) n w (f ∷ sent) p (exchange_of_fate (first_fate fates)
      ∷ exchanges_of_fates (other_fates fates)) → GoesOver m (Ask bytes go_on) n w (f
      ∷ sent) p (exchanges_of_fates fates)
  by_fates bytes go_on n w f sent p fates goes = search rules

  -- Each dialog that sent frames over a wire went along the exchanges of their fates.
  pub over_wire : {E R : Type 0} (d : Dialog E R) (n : ℕ) (w : Wire P) (sent more : List (List ℕ)) → SendsValidBodies d
      → NoneHasNumber n w.late → AreLawful w.fates → frames_in (played d n (tape_of m sent w)).events ≡ sent ++ more
      → GoesOver m d n w sent w.programmer (exchanges_of_fates w.fates)
  over_wire (Done r) n w [] more asks clear lawful e = search rules
  over_wire (Done r) n w (f ∷ sent) more asks clear lawful e = cc
  over_wire (Emit s d) n w sent more asks clear lawful e = search (rules, over_wire d n w sent more asks clear lawful e)
  over_wire (Ask bytes go_on) n w [] more asks clear lawful e =
      let waits : answer n [] ≡ None = reading_waits n [] refl (omega arith) in search rules
  over_wire {E = E} {R = R} (Ask bytes go_on) n w (f ∷ sent) more asks clear lawful e =
      let is : frame n bytes ≡ f = cc in
      let a = replies_fit bytes w.programmer asks.0 in
      let after = wire_after_frame m (frame n bytes) w in
      let reading = reading_of_exchange (exchange_of_fate (first_fate w.fates)) (m.reply bytes w.programmer) in
      let read : answer n (tape_of m (frame n bytes ∷ sent) w) ≡ Some (reading, tape_of m sent after) =
      arrival_read m n bytes w (tape_of m sent after) asks.0 a clear (first_lawful w.fates lawful) in
      let first : played (Ask bytes go_on) n (tape_of m (f ∷ sent) w)
      ≡ prepend_events (Frame (frame n bytes) ∷ []) (played (go_on reading) (next n) (tape_of m sent after)) =
      search rules in
      let goes = over_wire (go_on reading) (next n) after sent more (asks.1 reading)
      (arrival_late m n bytes w asks.0 a clear) (others_lawful w.fates lawful)
      (tail_is (frame n bytes) f _ (sent ++ more) (sym (ap (λ x. frames_in x.events) first) ∙ e)) in
      subst (λ g. GoesOver m (Ask bytes go_on) n w (g ∷ sent) w.programmer (exchanges_of_fates w.fates)) is
      (by_fates bytes go_on n w (frame n bytes) sent w.programmer w.fates
      (search (rules, replied, arrival_leaves)))
