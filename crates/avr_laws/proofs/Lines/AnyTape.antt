-- A dialog over any tape goes along exchanges.
use Rattle.std.proofs.Common.{◌≡◌, ◌≤◌, ℕ, zero, suc, List, [], ◌∷◌, ◌++◌, length, map, take, refl, sym, ap, ◌∙◌, arith, inl, inr, Option, Some, None, rules}
use Rattle.std.proofs.lemmas.Bool.{cond-true}
use Rattle.std.proofs.lemmas.Slice.Eq.{bytes_eq-Decides}
use Rattle.std.proofs.lemmas.Option.{none-some}
use Rattle.std.specs.Prelude.{filter}
use Rattle.stk_frame.specs.Frame.{frame}
use Rattle.stk_frame.specs.Cut.{frames, is_good}
use Rattle.stk_frame.proofs.Laws.{frame_is_good, body_of_frame}
use Rattle.stk_host.specs.Tape.{Tape, Reading, Replied, answer}
use Rattle.stk_host.specs.Dialog.{Dialog, Done, Emit, Ask, Frame, Played, played, prepend_events, continue_with_reading, next, frames_in}
use Rattle.stk_emu.specs.Device.{Device, after_frame, after_frames}
use Rattle.stk_emu.specs.Lawful.{IsFrameBody}
use Rattle.stk_emu.specs.Exchange.{Execution, NotExecuted, Executed, ThenRestarted, NoReply, Exchange, Disturbed, after_execution, after_exchange, reading_of_exchange, IsAuthentic}
use Rattle.stk_emu.specs.DialogOverExchanges.{state_after, SendsValidBodies}
use Rattle.avr_laws.specs.AnyTape.{after_sent_frames, exchange_by, exchange_with_reply, exchanges_from, exchanges_on_tape, GoesAlongExchanges, FramesByRestart, adding_received, received_frames, good_frames, after_received_bytes, ReceivedSentFrames}
use Rattle.avr_tool.specs.Authentic.{first_execution, later_executions, on_reading, RepliesAreAuthentic}
use Rattle.avr_tool.proofs.StepData.LongerTape.{reading_extends}
use Rattle.avr_tool.proofs.Lines.Plays.{played_along, emitted_played, done_played, waits_played}

-- every authentic reading is an exchange
abbrev IsExchangeOf : {P : Type 0} → Device P → List ℕ → P → Execution → Reading → Exchange → Type 0
IsExchangeOf m bytes p execution reading one_exchange = (reading_of_exchange one_exchange (m.reply bytes p) ≡ reading)
    × (after_exchange one_exchange (m.after bytes p) p m.reset ≡ after_execution execution (m.after bytes p) p m.reset)

-- an authentic reply is that of an exchange
by_reply : {P : Type 0} (m : Device P) (bytes : List ℕ) (p : P) (execution : Execution) (came : List ℕ)
    → IsAuthentic m bytes p execution (Replied came)
    → IsExchangeOf m bytes p execution (Replied came) (exchange_with_reply execution came)
by_reply m bytes p NotExecuted came (inl own) = absurd own.0
by_reply m bytes p NotExecuted came (inr is) = (ap Replied (sym is), refl)
by_reply m bytes p Executed came authentic = search (rules, bytes_eq-Decides)
by_reply m bytes p (ThenRestarted execution) came authentic =
    let inner = by_reply m bytes p execution came authentic in (inner.0, ap m.reset inner.1)

pub authentic_exchange : {P : Type 0} (m : Device P) (bytes : List ℕ) (p : P) (execution : Execution)
    (reading : Reading) → IsAuthentic m bytes p execution reading → IsExchangeOf m bytes p execution reading
    (exchange_by execution reading)
authentic_exchange m bytes p execution (Replied came) authentic = by_reply m bytes p execution came authentic
authentic_exchange m bytes p execution reading authentic = (refl, refl)

-- without a further command the programmer stays as it is
none_further : {E R P : Type 0} (m : Device P) (d : Dialog E R) (p : P) (exchanges : List Exchange)
    → (state_after m 0 d p exchanges).programmer ≡ p
none_further m (Emit e d) p exchanges = none_further m d p exchanges
none_further m z1 p exchanges = refl

-- A run over a tape is the run along these exchanges, of which `reply_count` are read. If it is done, these are as many
-- as its frames. After any first frames the programmer is as the list of what happened to it gives.
record ReadAs {E R P : Type 0} (m : Device P) (d : Dialog E R) (n : ℕ) (tape : Tape) (p : P)
    (executions : List Execution) (exchanges : List Exchange) : Type 0 where
  reply_count : ℕ
  left : Tape
  play : played d n tape ≡ played_along m reply_count d n p exchanges left
  all : (r : R) (seq : ℕ) (rest : Tape) → (played_along m reply_count d n p exchanges left).outcome
      ≡ Some (r, seq, rest) → length (frames_in (played_along m reply_count d n p exchanges left).events) ≡ reply_count
  programmer : (k : ℕ) → k ≤ length (frames_in (played_along m reply_count d n p exchanges left).events)
      → (state_after m k d p exchanges).programmer ≡ after_sent_frames m
      (take k (frames_in (played_along m reply_count d n p exchanges left).events)) executions p

module _ {P : Type 0} (m : Device P) where
  module _ {E R : Type 0} (bytes : List ℕ) (go_on : Reading → Dialog E R) (n : ℕ) (tape : Tape) (p : P)
      (executions : List Execution) (b : IsFrameBody bytes) where
    -- what happened to the programmer at this frame
    abbrev execution : Execution
    execution = first_execution executions

    -- the programmer after it
    abbrev on_time : P
    on_time = after_execution execution (m.after bytes p) p m.reset

    -- after the frame, and what happened to the programmer then
    arrives : on_time ≡ after_execution execution (after_frame m (frame n bytes) p) p m.reset
    arrives = search (rules, cond-true, frame_is_good, body_of_frame)

    abbrev on_asking : Option (Reading × Tape) → Played E R
    on_asking o = prepend_events (Frame (frame n bytes)
        ∷ []) (continue_with_reading (λ reading. played (go_on reading) (next n)) o)

    -- a command that waits for its reply
    awaiting : answer n tape ≡ None → ReadAs m (Ask bytes go_on) n tape p executions (Disturbed execution NoReply ∷ [])
    awaiting e = search (rules, none-some, none_further, arrives)

    -- a command that got its reply, by its exchange
    module _ (one_exchange : Exchange) (later : List Exchange) (left : Tape)
        (read : answer n tape ≡ Some (reading_of_exchange one_exchange (m.reply bytes p), left))
        (leaves : after_exchange one_exchange (m.after bytes p) p m.reset ≡ on_time)
        (goes : ReadAs m (go_on (reading_of_exchange one_exchange (m.reply bytes p))) (next n) left
        (after_exchange one_exchange (m.after bytes p) p m.reset) (later_executions executions) later) where
      by_exchange : ReadAs m (Ask bytes go_on) n tape p executions (one_exchange ∷ later)
      by_exchange = record {
        reply_count = suc goes.reply_count;
        left = goes.left;
        play = ap on_asking read ∙ ap (prepend_events (Frame (frame n bytes) ∷ [])) goes.play;
        all = λ r seq rest o. ap suc (goes.all r seq rest o);
        programmer = search (rules, arrives);
      }

    -- by what is read for the command
    command_read_as : (o : Option (Reading × Tape)) → answer n tape ≡ o
        → ((reading : Reading) (left : Tape) → RepliesAreAuthentic m (go_on reading) (next n) left on_time
        (later_executions executions) → ReadAs m (go_on reading) (next n) left on_time (later_executions executions)
        (exchanges_on_tape (go_on reading) (next n) left (later_executions executions)))
        → on_reading (λ reading left. IsAuthentic m bytes p execution reading
        × RepliesAreAuthentic m (go_on reading) (next n) left on_time (later_executions executions)) o
        → ReadAs m (Ask bytes go_on) n tape p executions
        (exchanges_from execution (λ reading left. exchanges_on_tape (go_on reading) (next n) left
        (later_executions executions)) o)
    command_read_as o e each h = search (rules, awaiting, authentic_exchange, by_exchange)

  -- a run over an authentic tape goes along the tape's exchanges
  read_as : {E R : Type 0} (d : Dialog E R) (n : ℕ) (tape : Tape) (p : P) (executions : List Execution)
      → SendsValidBodies d → RepliesAreAuthentic m d n tape p executions
      → ReadAs m d n tape p executions (exchanges_on_tape d n tape executions)
  read_as (Done r) n tape p executions asks authentic =
      record { reply_count = 0; left = tape; play = refl; all = λ q seq rest o. refl; programmer = none_sent }
    where
      none_sent : (k : ℕ) → k ≤ 0 → p ≡ after_sent_frames m (take k []) executions p
      none_sent zero le = refl
      none_sent (suc k) le = absurd (omega (arith, le))
  read_as (Emit e d) n tape p executions asks authentic = search (rules, read_as d n tape p executions asks authentic)
  read_as (Ask bytes go_on) n tape p executions asks authentic =
      command_read_as bytes go_on n tape p executions asks.0 (answer n tape) refl
      (λ reading left inner. read_as (go_on reading) (next n) left _ (later_executions executions) (asks.1 reading)
      inner) authentic

  -- THE LAW
  pub goes_as : {E R : Type 0} (d : Dialog E R) (n : ℕ) (tape : Tape) (p : P) (executions : List Execution)
      → SendsValidBodies d → RepliesAreAuthentic m d n tape p executions → GoesAlongExchanges m d n tape p executions
  goes_as {R = R} d n tape p executions asks h = search (rules, read_as, emitted_played, done_played, waits_played)

-- ---- the first readings of an authentic tape

-- what was read for this command is authentic, and what is read after it too
abbrev pub AuthenticReading : {E R P : Type 0} → Device P → List ℕ → (Reading → Dialog E R) → ℕ → P → List Execution
    → Option (Reading × Tape) → Type 0
AuthenticReading m bytes go_on n p executions = on_reading (λ reading left.
    IsAuthentic m bytes p (first_execution executions) reading
    × RepliesAreAuthentic m (go_on reading) (next n) left (after_execution (first_execution executions)
    (m.after bytes p) p m.reset) (later_executions executions))

module _ {P : Type 0} (m : Device P) where
  -- by what is read first of the longer tape
  shorter : {E R : Type 0} (bytes : List ℕ) (go_on : Reading → Dialog E R) (n : ℕ) (t u : Tape) (p : P)
      (executions : List Execution) (o : Option (Reading × Tape)) → answer n t ≡ o
      → ((reading : Reading) (left : Tape) (q : P)
      → RepliesAreAuthentic m (go_on reading) (next n) (left ++ u) q (later_executions executions)
      → RepliesAreAuthentic m (go_on reading) (next n) left q (later_executions executions))
      → RepliesAreAuthentic m (Ask bytes go_on) n (t ++ u) p executions
      → AuthenticReading m bytes go_on n p executions o
  shorter bytes go_on n t u p executions None e each h = tt
  shorter bytes go_on n t u p executions (Some (reading, left)) e each h = search (rules, reading_extends)

  pub authentic_prefix : {E R : Type 0} (d : Dialog E R) (n : ℕ) (t u : Tape) (p : P) (executions : List
      Execution) → RepliesAreAuthentic m d n (t ++ u) p executions → RepliesAreAuthentic m d n t p executions
  authentic_prefix (Done r) n t u p executions h = tt
  authentic_prefix (Emit e d) n t u p executions h = authentic_prefix d n t u p executions h
  authentic_prefix (Ask bytes go_on) n t u p executions h = shorter bytes go_on n t u p executions (answer n t) refl
      (λ reading left q inner. authentic_prefix (go_on reading) (next n) left u q (later_executions executions) inner) h

-- ---- what the programmer cuts from the bytes that it got

module _ {P : Type 0} (m : Device P) where
  -- pieces that aren't good frames change nothing
  good_only : (pieces : List (List ℕ)) (p : P) → after_frames m pieces p ≡ after_frames m (filter is_good pieces) p
  good_only [] p = refl
  good_only (piece ∷ pieces) p = search (rules, good_only pieces (after_frame m piece p), good_only pieces p)

  -- the good frames that it got, and those after each restart
  abbrev after_got : List (List ℕ) → List (List (List ℕ)) → P → P
  after_got got [] p = after_frames m got p
  after_got got (first ∷ later) p = after_got first later (m.reset (after_frames m got p))

  -- one more frame that the programmer got
  got_one_more : (piece : List ℕ) (before : List (List ℕ)) (later : List (List (List ℕ))) (p : P)
      → after_got (piece ∷ before) later p ≡ after_got before later (after_frame m piece p)
  got_one_more piece before [] p = refl
  got_one_more piece before (first ∷ later) p = refl

  -- by whether the programmer executed this frame, and restarted then
  getting_after : (execution : Execution) (piece : List ℕ) (got : FramesByRestart) (p : P)
      → after_got (adding_received execution piece got).0 (adding_received execution piece got).1 p
      ≡ after_got got.0 got.1 (after_execution execution (after_frame m piece p) p m.reset)
  getting_after NotExecuted piece got p = refl
  getting_after Executed piece got p = got_one_more piece got.0 got.1 p
  getting_after (ThenRestarted execution) piece got p = getting_after execution piece ([], got.0 ∷ got.1) p

  -- the frames that it got leave it as the sent frames do, by what happened at each
  let_through_after : (executions : List Execution) (sent : List (List ℕ)) (p : P)
      → after_got (received_frames executions sent).0 (received_frames executions sent).1 p
      ≡ after_sent_frames m sent executions p
  let_through_after [] [] p = refl
  let_through_after [] (piece ∷ sent) p = let_through_after [] sent p
  let_through_after (first ∷ more) [] p = refl
  let_through_after (first ∷ more) (piece ∷ sent) p = search (
    rules,
    getting_after,
    let_through_after more sent (after_execution first (after_frame m piece p) p m.reset),
  )

  -- so do the bytes that it got, before and after each restart
  good_later : (got : List ℕ) (later : List (List ℕ)) (p : P)
      → after_received_bytes m got later p ≡ after_got (good_frames got) (map good_frames later) p
  good_later got [] p = good_only (frames got) p
  good_later got (first ∷ later) p =
      search (rules, good_later first later (m.reset (after_frames m (frames got) p)), good_only)

  -- so the bytes that it received leave it as the sent frames do
  pub through_after : (got : List ℕ) (later : List (List ℕ)) (sent : List (List ℕ)) (executions : List Execution)
      (p : P) → ReceivedSentFrames got later sent executions → after_received_bytes m got later p
      ≡ after_sent_frames m sent executions p
  through_after got later sent executions p came = good_later got later p
      ∙ (ap (λ (g : FramesByRestart). after_got g.0 g.1 p) (sym came.good) ∙ let_through_after executions sent p)
