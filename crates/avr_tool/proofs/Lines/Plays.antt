-- The run of a dialog along exchanges: its output, its end or wait, and the rest of the tape.
use Rattle.std.proofs.Common.{◌≡◌, ℕ, zero, suc, List, [], ◌∷◌, length, refl, sym, ap, Option, Some, None}
use Rattle.std.proofs.lemmas.Option.{none-some}
use Rattle.stk_frame.specs.Frame.{frame}
use Rattle.stk_host.specs.Tape.{Tape}
use Rattle.stk_host.specs.Dialog.{Dialog, Done, Emit, Ask, Frame, Emitted, Played, prepend_events, next, outputs, frames_in}
use Rattle.stk_emu.specs.Device.{Device}
use Rattle.stk_emu.specs.Exchange.{Exchange, after_exchange, reading_of_exchange, first_exchange, later_exchanges}
use Rattle.stk_emu.specs.DialogOverExchanges.{state_after, outputs_after}

-- The run reads some of the exchanges, and then waits; if it is done, this is left of the tape.
abbrev pub played_along : {E R P : Type 0} → Device P → ℕ → Dialog E R → ℕ → P → List Exchange → Tape → Played E R
played_along m k (Done r) n p exchanges left = record { events = []; outcome = Some (r, n, left) }
played_along m k (Emit e d) n p exchanges left = prepend_events (Emitted e ∷ []) (played_along m k d n p exchanges left)
played_along m zero (Ask bytes go_on) n p exchanges left =
    record { events = Frame (frame n bytes) ∷ []; outcome = None }
played_along m (suc k) (Ask bytes go_on) n p exchanges left =
    prepend_events (Frame (frame n bytes) ∷ [])
    (played_along m k (go_on (reading_of_exchange (first_exchange exchanges) (m.reply bytes p))) (next n)
    (after_exchange (first_exchange exchanges) (m.after bytes p) p m.reset) (later_exchanges exchanges) left)

-- the result of an outcome, or another one if there is none
abbrev pub result_of : {R : Type 0} → R → Option (R × ℕ × Tape) → R
result_of other None = other
result_of other (Some (r, seq, tape)) = r

-- what an outcome leaves of the tape
abbrev tape_left : {R : Type 0} → Option (R × ℕ × Tape) → Tape
tape_left None = []
tape_left (Some (r, seq, tape)) = tape

-- equal lists have equal tails
pub tail_is : {A : Type 0} (x y : A) (xs ys : List A) → x ∷ xs ≡ y ∷ ys → xs ≡ ys
tail_is x y xs ys e = cc

module _ {E R P : Type 0} (m : Device P) where
  -- the run along exchanges outputs what the dialog outputs there
  pub emitted_played : (k : ℕ) (d : Dialog E R) (n : ℕ) (p : P) (exchanges : List Exchange) (left : Tape)
      → outputs (played_along m k d n p exchanges left).events ≡ outputs_after m k d p exchanges
  emitted_played k (Emit e d) n p exchanges left = ap (λ emitted. e ∷ emitted) (emitted_played k d n p exchanges left)
  emitted_played (suc k) (Ask bytes go_on) n p exchanges left =
      emitted_played k (go_on _) (next n) _ (later_exchanges exchanges) left
  emitted_played k d n p exchanges left = refl

  -- if the run has a result, the dialog is done with it
  pub done_played : (k : ℕ) (d : Dialog E R) (n : ℕ) (p : P) (exchanges : List Exchange) (left : Tape) (r : R) (seq : ℕ)
      (rest : Tape) → (played_along m k d n p exchanges left).outcome ≡ Some (r, seq, rest)
      → ((state_after m k d p exchanges).dialog ≡ Done r) × (rest ≡ left)
  done_played k (Done q) n p exchanges left r seq rest o = (ap (λ x. Done (result_of q x)) o, sym (ap tape_left o))
  done_played k (Emit e d) n p exchanges left r seq rest o = done_played k d n p exchanges left r seq rest o
  done_played zero (Ask bytes go_on) n p exchanges left r seq rest o = absurd (none-some (r, seq, rest) o)
  done_played (suc k) (Ask bytes go_on) n p exchanges left r seq rest o =
      done_played k (go_on _) (next n) _ (later_exchanges exchanges) left r seq rest o

  -- a run that waits has sent one frame more than it has replies
  pub waits_played : (k : ℕ) (d : Dialog E R) (n : ℕ) (p : P) (exchanges : List Exchange) (left : Tape)
      → (played_along m k d n p exchanges left).outcome ≡ None
      → length (frames_in (played_along m k d n p exchanges left).events) ≡ suc k
  waits_played k (Done r) n p exchanges left none = absurd (none-some (r, n, left) (sym none))
  waits_played k (Emit e d) n p exchanges left none = waits_played k d n p exchanges left none
  waits_played zero (Ask bytes go_on) n p exchanges left none = refl
  waits_played (suc k) (Ask bytes go_on) n p exchanges left none =
      ap suc (waits_played k (go_on _) (next n) _ (later_exchanges exchanges) left none)
