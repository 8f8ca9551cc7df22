use Rattle.stk_host.specs.Steps.{attempt}
use Rattle.std.proofs.Common.{rules}
use Rattle.std.proofs.lemmas.List.{nil_from_length}
use Rattle.std.proofs.lemmas.Result.{err_from_is_err_and}
use Rattle.stk_host.proofs.Operations.Attempts.{attempt_off, gets_one, gets_last, gets_short}
use Rattle.stk_host.proofs.conversation.Conversation.attempt.Goals as goal

pub returns-in-None : goal.returns-in-None
returns-in-None g c = rw c.in-None.is (gets_one _ _ _ _ _ _ c.exchange.ensures)

pub returns-in_err-short-in-Some : goal.returns-in_err-short-in-Some
returns-in_err-short-in-Some g c = search (rules, err_from_is_err_and, attempt_off)

pub returns-in-Data : goal.returns-in-Data
unfolding attempt
returns-in-Data g c = search (rules, gets_last, nil_from_length)

pub returns-in_default : goal.returns-in_default
returns-in_default g c = search (rules, gets_short)
