use Rattle.std.proofs.Common.{length-append, rules}
use Rattle.std.proofs.lemmas.Result.{err_from_is_err_and}
use Rattle.stk_host.proofs.Operations.Steps.{counted_data, goes_with, stops_with}
use Rattle.stk_host.proofs.conversation.read_step.Goals as goal

pub returns-in_err-step-clause-asks : goal.returns-in_err-step-clause-asks
returns-in_err-step-clause-asks g c =
    let p = err_from_is_err_and c.from_residual.result c.from_residual.ensures.1 in
    let played = stops_with _ c.args.out.now.items _ _ _ _ _ c.in_err-step.ensures.asks.played in
    rw (p.1, p.2) (search rules)

pub returns-clause-asks : goal.returns-clause-asks
returns-clause-asks g c = search (rules, goes_with, counted_data)

pub returns-clause-size : goal.returns-clause-size
returns-clause-size g c = search (rules, length-append, counted_data)
