-- A dialog run command by command, given their exchanges: without frames, sequence numbers and late replies.
use Rattle.std.specs.Prelude.{ℕ, suc, List, [], ◌∷◌}
use Rattle.stk_host.specs.Tape.{Reading}
use Rattle.stk_host.specs.Dialog.{Dialog, Done, Emit, Ask}
use Rattle.stk_emu.specs.Exchange.{Exchange, after_exchange, reading_of_exchange, first_exchange, later_exchanges}
use Rattle.stk_emu.specs.Device.{Device}
use Rattle.stk_emu.specs.Lawful.{IsFrameBody}

-- The rest of a dialog, the programmer, the exchanges to come, and how many more commands may be sent.
pub record StateAfter (E R P : Type 0) : Type 0 where
  pub dialog : Dialog E R
  pub programmer : P
  pub exchanges : List Exchange
  pub left : ℕ

-- The state after at most `k` commands; the laws of sessions over any link are about it.
abbrev pub state_after : {E R P : Type 0} → Device P → ℕ → Dialog E R → P → List Exchange → StateAfter E R P
state_after m k (Emit e dialog) p exchanges = state_after m k dialog p exchanges
state_after m (suc k) (Ask bytes go_on) p exchanges =
    state_after m k (go_on (reading_of_exchange (first_exchange exchanges) (m.reply bytes p)))
    (after_exchange (first_exchange exchanges) (m.after bytes p) p m.reset) (later_exchanges exchanges)
state_after m k dialog p exchanges = record { dialog = dialog; programmer = p; exchanges = exchanges; left = k }

-- The output events up to then.
abbrev pub outputs_after : {E R P : Type 0} → Device P → ℕ → Dialog E R → P → List Exchange → List E
outputs_after m k (Emit e dialog) p exchanges = e ∷ outputs_after m k dialog p exchanges
outputs_after m (suc k) (Ask bytes go_on) p exchanges =
    outputs_after m k (go_on (reading_of_exchange (first_exchange exchanges) (m.reply bytes p)))
    (after_exchange (first_exchange exchanges) (m.after bytes p) p m.reset) (later_exchanges exchanges)
outputs_after m k dialog p exchanges = []

-- Each body that a dialog sends fits a frame.
abbrev pub SendsValidBodies : {E R : Type 0} → Dialog E R → Type 0
SendsValidBodies (Done r) = Unit {0}
SendsValidBodies (Emit e dialog) = SendsValidBodies dialog
SendsValidBodies (Ask bytes go_on) = IsFrameBody bytes × ((reading : Reading) → SendsValidBodies (go_on reading))
