-- What a host keeps from call to call.
use Rattle.std.specs.Prelude.{ℕ, List, [], Option, None, Some, Result, Ok, Err}
use Rattle.std.specs.Result.{result_unwrap_or}
use Rattle.avr_part.specs.Part.{Part}
use Rattle.stk_frame.specs.declared.command.Command.{Command}
use Rattle.stk_frame.specs.Cut.{body_of}
use Rattle.stk_frame.specs.Commands.{judge}
use Rattle.stk_host.specs.declared.fault.HostFault.{HostFault}
use Rattle.stk_host.specs.declared.fault.HostFault.TheVariants.{LinkEnded, SendFailed, RecvFailed}
use Rattle.stk_host.specs.Play.{Progress}

-- A conversation's state, and the last frame or the part of one that is held.
pub record ConversationState : Type 0 where
  pub progress : Progress
  pub held : List ℕ

-- A host's part, its conversation's state, and its lasting fault.
pub record HostState : Type 0 where
  pub part : Part
  pub progress : Progress
  pub broken : Option HostFault

-- The data of the reply that is held, if it is a good reply to this command.
abbrev pub data_held : Command → List ℕ → List ℕ
data_held command held = result_unwrap_or (judge command (body_of held)) []

-- The fault that every later call returns.
abbrev pub lasting_fault : {A : Type 0} → Result A HostFault → Option HostFault
lasting_fault (Ok a) = None
lasting_fault (Err LinkEnded) = Some LinkEnded
lasting_fault (Err SendFailed) = Some SendFailed
lasting_fault (Err RecvFailed) = Some RecvFailed
lasting_fault (Err fault) = None
