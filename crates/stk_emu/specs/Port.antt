-- A port to an emulated programmer: a client writes frames to it and reads the replies.
use Rattle.std.specs.Prelude.{ℕ, List, ◌++◌, ◌≡◌}
use Rattle.stk_emu.specs.Programmer.{Programmer}
use Rattle.stk_emu.specs.Emulator.{EmulatorState, WasFedText, emulate}

-- The emulator, and its replies that are not yet read.
pub record PortState : Type 0 where
  pub machine : EmulatorState
  pub waits : List ℕ

-- A port that began with this programmer and was fed `written`: what was read, and then what waits, are all replies.
pub record IsPortAfter (p : Programmer) (written read : List ℕ) (port : PortState) : Type 0 where
  pub fed : WasFedText p written port.machine
  pub replies : read ++ port.waits ≡ emulate p written
