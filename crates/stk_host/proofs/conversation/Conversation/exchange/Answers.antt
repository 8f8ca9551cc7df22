use Rattle.std.proofs.Common.{rules}
use Rattle.stk_host.proofs.Operations.Attempts.{exchange_done, exchange_unsent, exchange_unreceived}
use Rattle.stk_host.proofs.conversation.Conversation.exchange.Goals as goal

pub returns-in_default : goal.returns-in_default
returns-in_default g c = search (rules, exchange_unsent)

pub returns-in_default-listen : goal.returns-in_default-listen
returns-in_default-listen g c = search (rules, exchange_unreceived)

pub returns : goal.returns
returns g c = search (rules, exchange_done)
