-- The replies to one piece: for contracts inside this crate.
use Rattle.std.specs.Prelude.{ℕ, List}
use Rattle.stk_host.specs.Transcript.{Transcript, LinkState, Grows}
use Rattle.stk_host.specs.Reach.{SendsExactly, NothingReceived}
use Rattle.stk_emu.specs.Programmer.{Programmer}
use Rattle.stk_emu.specs.Emulator.{EmulatorState, WasFedText}
use Rattle.avr_tool.specs.Serving.{RepliesToAll, LastReplyFailed}

-- The emulator was fed these bytes, and all replies to them were sent.
pub record SendsAllReplies (old : EmulatorState) (bytes : List ℕ) (before after : LinkState)
    (now : EmulatorState) : Type 0 where
  pub out : List ℕ
  pub sends : SendsExactly out before.transcript after.transcript
  pub replies : (p : Programmer) (text : List ℕ) → WasFedText p text old → RepliesToAll p text bytes out now

-- The emulator was fed a prefix of these bytes, and sending the last reply failed.
pub record SendsPartOfReplies (old : EmulatorState) (bytes : List ℕ) (before after : LinkState)
    (now : EmulatorState) : Type 0 where
  pub during : Transcript
  pub grows : Grows before.transcript during after.transcript
  pub quiet : NothingReceived during
  pub breaks : (p : Programmer) (text : List ℕ) → WasFedText p text old → LastReplyFailed p text bytes during now
