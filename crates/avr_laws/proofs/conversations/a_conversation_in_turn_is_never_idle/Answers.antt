use Rattle.std.proofs.Common.{rules}
use Rattle.avr_tool.proofs.Lines.InTurn.{never_idle}
use Rattle.avr_laws.proofs.conversations.a_conversation_in_turn_is_never_idle.Goals as goal

pub returns : goal.returns
returns g c = search (rules, never_idle)
