-- A conversation over a link that cuts nothing and has no timeouts: it is in turn.
use Rattle.std.proofs.Common.{◌≡◌, ◌∙◌, ap, refl, arith, ℕ, ◌≤◌, length, List, [], ◌∷◌, ◌++◌, append_assoc, Some, None, rules}
use Rattle.stk_frame.specs.Frame.{frame}
use Rattle.stk_frame.specs.Cut.{cut}
use Rattle.stk_frame.proofs.FedReaders.{cut_whole}
use Rattle.stk_frame.proofs.Laws.{body_of_frame, frame_is_good, frame_is_piece, length_frame}
use Rattle.stk_host.specs.Dialog.{Dialog, Done, Emit, Ask, Event, Frame, Emitted, prepend_events, bytes_sent, next, played}
use Rattle.stk_host.specs.Play.{InTurnFrom}
use Rattle.stk_host.specs.Transcript.{Transcript, Sent, Taken, Got}
use Rattle.stk_host.specs.Tape.{Tape, Replied, Reading, answer, first_reply, reply_byte_limit, on_tape}
use Rattle.stk_host.proofs.Transcripts.InDialogs.{bytes_append}
use Rattle.stk_host.proofs.Tapes.Readings.{reading_found, reading_waits}
use Rattle.stk_emu.proofs.Replies.BodySizes.{replies_fit_frames}
use Rattle.stk_emu.specs.DialogOverExchanges.{SendsValidBodies}
use Rattle.stk_emu.specs.Device.{device}
use Rattle.stk_emu.specs.Lawful.{IsFrameBody}
use Rattle.stk_emu.specs.Programmer.{Programmer}

-- each frame is received and replied to at once
abbrev pub perfect_transcript : {E R : Type 0} → Dialog E R → ℕ → Programmer → Transcript
perfect_transcript (Done r) n p = []
perfect_transcript (Emit e d) n p = perfect_transcript d n p
perfect_transcript (Ask bytes go_on) n p = Sent (frame n bytes) ∷ Got (on_tape (frame n (device.reply bytes p)))
    ∷ perfect_transcript (go_on (Replied (device.reply bytes p))) (next n) (device.after bytes p)

-- a reply with the command's number is the one that is read
own_reply : (n : ℕ) (bytes : List ℕ) (later : Tape) → IsFrameBody bytes
    → answer n (on_tape (frame n bytes) ++ later) ≡ Some (Replied bytes, later)
own_reply n bytes later b =
    let found : first_reply n (cut (frame n bytes)) ≡ Some (bytes, length (frame n bytes)) =
    ap (first_reply n) (cut_whole (frame n bytes) (frame_is_piece n bytes b.some b.few))
    ∙ (search (rules, frame_is_good, body_of_frame)) in
    let few : length (frame n bytes) ≤ reply_byte_limit = search (rules, length_frame) in
    reading_found n (frame n bytes) later bytes found few

-- a command with this reply
asked : {E R : Type 0} (bytes : List ℕ) (go_on : Reading → Dialog E R) (n : ℕ) (reply : List ℕ) (later : Tape)
    → IsFrameBody reply → played (Ask bytes go_on) n (on_tape (frame n reply) ++ later)
    ≡ prepend_events (Frame (frame n bytes) ∷ []) (played (go_on (Replied reply)) (next n) later)
asked bytes go_on n reply later b = search (rules, own_reply)

-- a dialog in turn, as one that continues it
module _ {E R : Type 0} (d e : Dialog E R) (n k : ℕ) (prefix : Tape) (events : List (Event E))
    (goes : (tape : Tape) → played d n (prefix ++ tape) ≡ prepend_events events (played e k tape)) where
  -- after an exchange
  in_turn_after : (transcript : Transcript) (tape : Tape) (bytes : List ℕ) → InTurnFrom e k tape bytes transcript
      → InTurnFrom d n (prefix ++ tape) (bytes_sent events ++ bytes) transcript
  in_turn_after [] tape bytes exchanges = tt
  in_turn_after (Sent more ∷ transcript) tape bytes exchanges =
      search (rules, append_assoc, in_turn_after transcript tape (bytes ++ more) exchanges)
  in_turn_after (Taken more ∷ transcript) tape bytes exchanges = exchanges
  in_turn_after (Got items ∷ transcript) tape bytes exchanges =
      search (rules, bytes_append, append_assoc, in_turn_after transcript (tape ++ items) bytes exchanges.1)

-- so it is for the whole conversation
pub in_turn : {E R : Type 0} (d : Dialog E R) (n : ℕ) (p : Programmer) → SendsValidBodies d
    → InTurnFrom d n [] [] (perfect_transcript d n p)
in_turn (Done r) n p asks = tt
in_turn (Emit e d) n p asks =
    in_turn_after (Emit e d) d n n [] (Emitted e ∷ []) (λ tape. refl) (perfect_transcript d n p) [] []
    (in_turn d n p asks)
in_turn (Ask bytes go_on) n p asks =
    let reply = device.reply bytes p in
    let d = go_on (Replied reply) in
    let transcript = perfect_transcript d (next n) (device.after bytes p) in
    let waits : answer n [] ≡ None = reading_waits n [] refl (omega arith) in
    let later : InTurnFrom (Ask bytes go_on) n (on_tape (frame n reply) ++ []) ((frame n bytes ++ [])
    ++ []) transcript =
    in_turn_after (Ask bytes go_on) d n (next n) (on_tape (frame n reply)) (Frame (frame n bytes) ∷ [])
    (λ tape. asked bytes go_on n reply tape (replies_fit_frames bytes p asks.0)) transcript [] []
    (in_turn (go_on (Replied (device.reply bytes p))) (next n) (device.after bytes p)
    (asks.1 (Replied (device.reply bytes p)))) in search rules
