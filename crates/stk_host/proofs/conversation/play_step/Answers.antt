use Rattle.std.proofs.Common.{rules}
use Rattle.stk_host.proofs.Operations.Steps.{goes_quietly}
use Rattle.stk_host.proofs.conversation.play_step.Goals as goal

pub returns : goal.returns
returns g c = search (rules, goes_quietly)
