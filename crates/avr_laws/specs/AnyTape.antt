-- What a dialog does over any tape, by the exchanges of its commands: what was read, and what happened to the
-- programmer.
use Rattle.std.specs.Prelude.{ℕ, suc, Bool, true, false, List, [], ◌∷◌, ◌≡◌, ◌≤◌, Option, Some, None, length, filter, map, take, if◌then◌else◌}
use Rattle.std.specs.Str.{bytes_eq}
use Rattle.stk_frame.specs.Cut.{frames, is_good}
use Rattle.stk_host.specs.Tape.{Tape, Reading, Replied, Silent, Ended, Babbled, answer}
use Rattle.stk_host.specs.Dialog.{Dialog, Done, Emit, Ask, played, next, frames_in, outputs}
use Rattle.stk_emu.specs.Device.{Device, after_frame, after_frames, refusal}
use Rattle.stk_emu.specs.Exchange.{Execution, NotExecuted, Executed, ThenRestarted, after_execution, Exchange, AsIntended, Disturbed, ThenRestarts, Refusal, NoReply, Babble, Ending}
use Rattle.stk_emu.specs.DialogOverExchanges.{state_after, outputs_after}
use Rattle.avr_tool.specs.Authentic.{first_execution, later_executions}

-- The device after these frames were sent, given what happened to it at each.
abbrev pub after_sent_frames : {P : Type 0} → Device P → List (List ℕ) → List Execution → P → P
after_sent_frames m [] executions p = p
after_sent_frames m (piece ∷ sent) executions p =
    after_sent_frames m sent (later_executions executions) (after_execution (first_execution executions)
    (after_frame m piece p) p m.reset)

-- The exchange of a command with a reply. The reply to a command that was executed is its own, unless it is the
-- refusal.
abbrev pub exchange_with_reply : Execution → List ℕ → Exchange
exchange_with_reply NotExecuted body = Disturbed NotExecuted Refusal
exchange_with_reply Executed body = if bytes_eq body refusal then Disturbed Executed Refusal else AsIntended
exchange_with_reply (ThenRestarted execution) body = ThenRestarts (exchange_with_reply execution body)

-- The exchange of a command, by what happened to it and what was read.
abbrev pub exchange_by : Execution → Reading → Exchange
exchange_by execution (Replied body) = exchange_with_reply execution body
exchange_by execution Silent = Disturbed execution NoReply
exchange_by execution Ended = Disturbed execution Ending
exchange_by execution Babbled = Disturbed execution Babble

-- If the reply is still awaited, nothing was read.
abbrev pub exchanges_from : Execution → (Reading → Tape → List Exchange) → Option (Reading × Tape) → List Exchange
exchanges_from execution more None = Disturbed execution NoReply ∷ []
exchanges_from execution more (Some (reading, tape)) = exchange_by execution reading ∷ more reading tape

-- THE EXCHANGES of a run over this tape, one for each frame sent.
abbrev pub exchanges_on_tape : {E R : Type 0} → Dialog E R → ℕ → Tape → List Execution → List Exchange
exchanges_on_tape (Done r) n tape executions = []
exchanges_on_tape (Emit e dialog) n tape executions = exchanges_on_tape dialog n tape executions
exchanges_on_tape (Ask bytes go_on) n tape executions =
    exchanges_from (first_execution executions)
    (λ reading left. exchanges_on_tape (go_on reading) (next n) left (later_executions executions)) (answer n tape)

-- A run that waits for a reply: its output is that along the exchanges of all commands but the last.
pub record WaitsAlongExchanges {E R P : Type 0} (m : Device P) (d : Dialog E R) (p : P) (exchanges : List Exchange)
    (sent : List (List ℕ)) (output_events : List E) : Type 0 where
  pub reply_count : ℕ
  pub one_more : length sent ≡ suc reply_count
  pub emitted : output_events ≡ outputs_after m reply_count d p exchanges

-- The run of a dialog over a tape goes along its exchanges. After any first frames the programmer is the one along
-- them. If the run is done, so is the dialog along them, with the same result and output.
pub record GoesAlongExchanges {E R P : Type 0} (m : Device P) (d : Dialog E R) (n : ℕ) (tape : Tape) (p : P)
    (executions : List Execution) : Type 0 where
  pub programmer : (k : ℕ) → k ≤ length (frames_in (played d n tape).events)
      → (state_after m k d p (exchanges_on_tape d n tape executions)).programmer
      ≡ after_sent_frames m (take k (frames_in (played d n tape).events)) executions p
  pub outcome : (r : R) (seq : ℕ) (left : Tape) → (played d n tape).outcome ≡ Some (r, seq, left)
      → ((state_after m (length (frames_in (played d n tape).events)) d p
      (exchanges_on_tape d n tape executions)).dialog ≡ Done r) × (outputs (played d n tape).events
      ≡ outputs_after m (length (frames_in (played d n tape).events)) d p (exchanges_on_tape d n tape executions))
  pub waits : (played d n tape).outcome ≡ None
      → WaitsAlongExchanges m d p (exchanges_on_tape d n tape executions) (frames_in (played d n tape).events)
      (outputs (played d n tape).events)

-- Frames that the programmer receives: those up to its first restart, and those after each restart.
abbrev pub FramesByRestart : Type 0
FramesByRestart = List (List ℕ) × List (List (List ℕ))

-- Puts a frame before those received later, if it was executed. If the programmer restarted then, those are a part of
-- their own.
abbrev pub adding_received : Execution → List ℕ → FramesByRestart → FramesByRestart
adding_received NotExecuted piece got = got
adding_received Executed piece got = (piece ∷ got.0, got.1)
adding_received (ThenRestarted execution) piece got = adding_received execution piece ([], got.0 ∷ got.1)

-- The frames received of those sent, in order, each at most once, given what happened to the programmer at each.
abbrev pub received_frames : List Execution → List (List ℕ) → FramesByRestart
received_frames [] sent = ([], [])
received_frames (execution ∷ more) [] = ([], [])
received_frames (execution ∷ more) (piece ∷ sent) = adding_received execution piece (received_frames more sent)

-- The good frames cut from these bytes.
abbrev pub good_frames : List ℕ → List (List ℕ)
good_frames bytes = filter is_good (frames bytes)

-- A programmer received any bytes, and `later` after each restart. The good frames cut from them are some of those
-- sent, in order, each at most once. Anything else may be between them.
pub record ReceivedSentFrames (got : List ℕ) (later : List (List ℕ)) (sent : List (List ℕ))
    (executions : List Execution) : Type 0 where
  pub good : received_frames executions sent ≡ (good_frames got, map good_frames later)

-- The device after it received these bytes, and these later ones after each restart.
abbrev pub after_received_bytes : {P : Type 0} → Device P → List ℕ → List (List ℕ) → P → P
after_received_bytes m got [] p = after_frames m (frames got) p
after_received_bytes m got (first ∷ later) p =
    after_received_bytes m first later (m.reset (after_frames m (frames got) p))

-- What happened at each frame if the programmer never restarts: true for a frame that arrived.
abbrev pub executions_by_arrival : List Bool → List Execution
executions_by_arrival [] = []
executions_by_arrival (true ∷ more) = Executed ∷ executions_by_arrival more
executions_by_arrival (false ∷ more) = NotExecuted ∷ executions_by_arrival more
