-- The exchange of one command and its reply, whatever the link does to the bytes.
use Rattle.std.specs.Prelude.{ℕ, List, [], ◌∷◌, ◌≡◌, ◌⊎◌}
use Rattle.stk_host.specs.Tape.{Reading, Replied, Silent, Ended, Babbled}
use Rattle.stk_emu.specs.Device.{Device, refusal}

-- What became of the command: it never arrived, or was executed. The programmer may have restarted after that.
pub data Execution : Type 0 where
  NotExecuted : Execution
  Executed : Execution
  ThenRestarted : Execution → Execution

-- What is read in place of the programmer's own reply: the refusal, or nothing, because a timeout, too many bytes or
-- the end of the link came first.
pub data OtherReading : Type 0 where
  Refusal : OtherReading
  NoReply : OtherReading
  Babble : OtherReading
  Ending : OtherReading

-- The command was executed and its own reply read, or something else happened. No exchange reads the reply to another
-- command. The programmer may have restarted after either.
pub data Exchange : Type 0 where
  AsIntended : Exchange
  Disturbed : Execution → OtherReading → Exchange
  ThenRestarts : Exchange → Exchange

-- The programmer after a command: `executed` if it was executed, else `kept`; then any restarts.
abbrev pub after_execution : {P : Type 0} → Execution → P → P → (P → P) → P
after_execution NotExecuted executed kept reset = kept
after_execution Executed executed kept reset = executed
after_execution (ThenRestarted execution) executed kept reset = reset (after_execution execution executed kept reset)

-- The programmer after an exchange.
abbrev pub after_exchange : {P : Type 0} → Exchange → P → P → (P → P) → P
after_exchange AsIntended executed kept reset = executed
after_exchange (Disturbed execution instead) executed kept reset = after_execution execution executed kept reset
after_exchange (ThenRestarts one_exchange) executed kept reset = reset (after_exchange one_exchange executed kept reset)

abbrev pub execution_in : Exchange → Execution
execution_in AsIntended = Executed
execution_in (Disturbed execution instead) = execution
execution_in (ThenRestarts one_exchange) = ThenRestarted (execution_in one_exchange)

-- How listening ends in an exchange, given the body of the programmer's own reply.
abbrev pub reading_of_exchange : Exchange → List ℕ → Reading
reading_of_exchange AsIntended reply = Replied reply
reading_of_exchange (Disturbed execution Refusal) reply = Replied refusal
reading_of_exchange (Disturbed execution NoReply) reply = Silent
reading_of_exchange (Disturbed execution Babble) reply = Babbled
reading_of_exchange (Disturbed execution Ending) reply = Ended
reading_of_exchange (ThenRestarts one_exchange) reply = reading_of_exchange one_exchange reply

-- After the list all exchanges go as intended.
abbrev pub first_exchange : List Exchange → Exchange
first_exchange [] = AsIntended
first_exchange (one_exchange ∷ exchanges) = one_exchange

abbrev pub later_exchanges : List Exchange → List Exchange
later_exchanges [] = []
later_exchanges (one_exchange ∷ exchanges) = exchanges

-- The command was executed.
abbrev pub WasExecuted : Execution → Type 0
WasExecuted NotExecuted = ⊥
WasExecuted Executed = Unit {0}
WasExecuted (ThenRestarted execution) = WasExecuted execution

-- An authentic reading is no reply, the refusal, or the programmer's own reply to this command, which it executed. It
-- may have restarted since.
abbrev pub IsAuthentic : {P : Type 0} → Device P → List ℕ → P → Execution → Reading → Type 0
IsAuthentic m bytes p execution (Replied body) = (WasExecuted execution × (body ≡ m.reply bytes p))
    ⊎ (body ≡ refusal)
IsAuthentic m bytes p execution _ = Unit {0}
