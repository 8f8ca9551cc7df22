-- What a frame brings over the wire, and how the host reads it.
use Rattle.std.proofs.lemmas.Grind.{common_steps}
use Rattle.std.proofs.Common.{◌≡◌, ℕ, ◌*◌, ◌≤◌, ◌<◌, ◌≢◌, List, [], ◌∷◌, ◌++◌, length, refl, sym, ap, ◌∙◌, append_assoc, arith, inl, inr, Some, None, length-append, rules}
use Rattle.stk_frame.specs.declared.protocol.TheConstants.{LARGEST_FRAME}
use Rattle.stk_frame.specs.Frame.{frame}
use Rattle.stk_frame.specs.Cut.{cut}
use Rattle.stk_frame.proofs.Laws.{cut_first, frame_is_piece, frame_is_good, body_of_frame}
use Rattle.stk_host.specs.declared.link.Item.TheVariants.{Silence}
use Rattle.stk_host.specs.Tape.{Tape, Replied, Silent, answer, on_tape, first_reply, past_skipped, reply_byte_limit}
use Rattle.stk_host.specs.Dialog.{next}
use Rattle.stk_host.proofs.Tapes.Readings.{none_good, reading_found, reading_silent, on_tape_append, further_zero}
use Rattle.stk_emu.specs.declared.fate.Fate.{Fate}
use Rattle.stk_emu.specs.declared.fate.Fate.TheVariants.{Good, HeldAnswer, CommandRefused, AnswerSpoiled}
use Rattle.stk_emu.specs.Device.{Device, refusal}
use Rattle.stk_emu.specs.Wire.{IsLawfulFate, first_fate, exchange_of_fate, brought_by_fate, released_replies, late_after, Wire, arrival, wire_after_frame}
use Rattle.stk_emu.specs.Lawful.{IsLawful, IsFrameBody, Late, no_late_replies, waiting, later, IsEmptyOrEarlier, NoneHasNumber}
use Rattle.stk_emu.specs.Exchange.{after_exchange, reading_of_exchange}

frame_cut : (n : ℕ) (bytes more : List ℕ) → IsFrameBody bytes → cut (frame n bytes ++ more) ≡ frame n bytes ∷ cut more
frame_cut n bytes more b = cut_first (frame n bytes) more (frame_is_piece n bytes b.some b.few)

-- Skipped bytes don't change how those after them are read.
pub record Skipped (n : ℕ) (prefix : List ℕ) : Type 0 where
  pub first : (more : List ℕ) → first_reply n (cut (prefix ++ more))
      ≡ past_skipped (length prefix) (first_reply n (cut more))

pub none_skipped : (n : ℕ) → Skipped n []
none_skipped n = record { first = λ more. further_zero (first_reply n (cut more)) }

pub frame_skipped : (n seq : ℕ) (bytes : List ℕ) → seq ≢ n → IsFrameBody bytes → Skipped n (frame seq bytes)
frame_skipped n seq bytes other carried = search (rules, frame_cut)

pub both_skipped : (n : ℕ) (x y : List ℕ) → Skipped n x → Skipped n y → Skipped n (x ++ y)
both_skipped n x y f g = search (rules, append_assoc, length-append)

-- a reply to a frame before this one
late_skipped : (k n : ℕ) (late : List ℕ) → ((seq : ℕ) → later k seq ≡ n → seq ≢ n) → IsEmptyOrEarlier k n late
    → Skipped n late
late_skipped k n late other (inl e) = rw e (none_skipped n)
late_skipped k n late other (inr l) = rw l.is (frame_skipped n l.seq l.bytes (other l.seq l.before) l.carried)

clear_skipped : (n : ℕ) (late : Late) → NoneHasNumber n late → Skipped n (waiting late)
clear_skipped n late c =
    both_skipped n late.first (late.second ++ late.third)
    (late_skipped 3 n late.first (λ seq e. omega (arith, e)) c.first)
    (both_skipped n late.second late.third (late_skipped 2 n late.second (λ seq e. omega (arith, e)) c.second)
    (late_skipped 1 n late.third (λ seq e. omega (arith, e)) c.third))

clear_length : (n : ℕ) (late : Late) → NoneHasNumber n late → length (waiting late) ≤ 3 * LARGEST_FRAME
clear_length n late c = search (rules, length-append)

pub found_frame : (n : ℕ) (bytes : List ℕ) → IsFrameBody bytes
    → first_reply n (cut (frame n bytes)) ≡ Some (bytes, length (frame n bytes))
found_frame n bytes b = grind (arith, common_steps)

reads_frame : (n : ℕ) (prefix bytes : List ℕ) (more : Tape) → Skipped n prefix → length prefix ≤ 3 * LARGEST_FRAME
    → IsFrameBody bytes → answer n ((on_tape prefix ++ on_tape (frame n bytes)) ++ more) ≡ Some (Replied bytes, more)
reads_frame n prefix bytes more skipped short b =
    let found : first_reply n (cut (prefix ++ frame n bytes)) ≡ Some (bytes, length (prefix ++ frame n bytes)) =
    rw (skipped.first (frame n bytes), found_frame n bytes b, length-append prefix (frame n bytes)) refl in
    let few : length (prefix ++ frame n bytes) ≤ reply_byte_limit = search (rules, length-append) in
    rw (← on_tape_append) (reading_found n (prefix ++ frame n bytes) more bytes found few)

reads_silence : (n : ℕ) (prefix noise : List ℕ) (more : Tape) → Skipped n prefix → length prefix ≤ 3 * LARGEST_FRAME
    → IsLawful noise → answer n ((on_tape prefix ++ (on_tape noise ++ Silence ∷ [])) ++ more) ≡ Some (Silent, more)
reads_silence n prefix noise more skipped short lawful =
    let none : first_reply n (cut (prefix ++ noise)) ≡ None =
    skipped.first noise ∙ ap (past_skipped (length prefix)) (none_good n (cut noise) lawful.no_frame) in
    let few : length (prefix ++ noise) < reply_byte_limit = search (rules, length-append) in
    let silent = reading_silent n (prefix ++ noise) more none few in
    simp append_assoc (simp (on_tape_append, append_assoc) at silent)

no_noise : IsLawful []
no_noise = record { few = omega arith; no_frame = refl }

reads_back : (n : ℕ) (fate : Fate) (late : Late) (bytes : List ℕ) (more : Tape) → NoneHasNumber n late
    → IsLawfulFate fate → IsFrameBody bytes
    → answer n ((on_tape (released_replies fate late) ++ brought_by_fate fate (frame n bytes) (frame n refusal))
    ++ more) ≡ Some (reading_of_exchange (exchange_of_fate fate) bytes, more)
reads_back n Good late bytes more clear lawful b = search (rules, reads_frame, clear_skipped, clear_length)
reads_back n HeldAnswer late bytes more clear lawful b =
    reads_silence n [] [] more (none_skipped n) (omega arith) no_noise
reads_back n CommandRefused late bytes more clear lawful b = search (rules, reads_frame, clear_skipped, clear_length)
reads_back n (AnswerSpoiled noise) late bytes more clear lawful b =
    search (rules, reads_silence, clear_skipped, clear_length)
reads_back n _ late bytes more clear lawful b =
    reads_silence n (waiting late) [] more (clear_skipped n late clear) (clear_length n late clear) no_noise

-- The arrival for frame n is read whole, and nothing after it: as the programmer's reply, the refusal or a timeout.
pub arrival_read : {P : Type 0} (m : Device P) (n : ℕ) (bytes : List ℕ) (w : Wire P) (more : Tape) → IsFrameBody bytes
    → IsFrameBody (m.reply bytes w.programmer) → NoneHasNumber n w.late → IsLawfulFate (first_fate w.fates)
    → answer n (arrival m (frame n bytes) w ++ more)
    ≡ Some (reading_of_exchange (exchange_of_fate (first_fate w.fates)) (m.reply bytes w.programmer), more)
arrival_read m n bytes w more b a clear lawful = search (rules, reads_back, frame_is_good, body_of_frame)

-- and the programmer behind it
pub arrival_leaves : {P : Type 0} (m : Device P) (n : ℕ) (bytes : List ℕ) (w : Wire P) → IsFrameBody bytes
    → (wire_after_frame m (frame n bytes) w).programmer
    ≡ after_exchange (exchange_of_fate (first_fate w.fates)) (m.after bytes w.programmer) w.programmer m.reset
arrival_leaves m n bytes w b = search (rules, frame_is_good, body_of_frame)

pub none_clear : (n : ℕ) → NoneHasNumber n no_late_replies
none_clear n = record { first = inl refl; second = inl refl; third = inl refl }

-- a late reply has the sequence number of its frame
late_is : (n : ℕ) (fate : Fate) (bytes : List ℕ) (late : Late) → IsFrameBody bytes → NoneHasNumber n late
    → NoneHasNumber (next n) (late_after fate (frame n bytes) late)
late_is n fate bytes late b c = search rules

pub arrival_late : {P : Type 0} (m : Device P) (n : ℕ) (bytes : List ℕ) (w : Wire P) → IsFrameBody bytes
    → IsFrameBody (m.reply bytes w.programmer) → NoneHasNumber n w.late
    → NoneHasNumber (next n) (wire_after_frame m (frame n bytes) w).late
arrival_late m n bytes w b a clear = search (rules, frame_is_good, body_of_frame, late_is)
