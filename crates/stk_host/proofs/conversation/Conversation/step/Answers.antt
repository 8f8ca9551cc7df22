use Rattle.stk_host.specs.Steps.{attempts_or_fault}
use Rattle.std.proofs.Common.{arith, ◌-◌, ◌+◌, rules}
use Rattle.std.proofs.lemmas.Result.{err_from_is_err_and}
use Rattle.stk_host.proofs.Transcripts.Reached.{reaches_here}
use Rattle.stk_host.proofs.Operations.Attempts.{try_again, try_data, try_stop, try_breaks, try_end}
use Rattle.stk_host.proofs.conversation.Conversation.step.Goals as goal

pub loop-tried-init : goal.loop-tried-init
loop-tried-init g c = search (rules, reaches_here)

pub returns-in-Data-clause-asks : goal.returns-in-Data-clause-asks
returns-in-Data-clause-asks g c =
    let played = try_data {k = 4 - c.loop-tried._tried} (4 - (c.loop-tried._tried + 1)) _ _ (omega arith)
    c.loop-tried.invariant.reaches c.in_ok-attempt.ensures.ok c.in-Data.is in
    search rules

pub returns-in-Stop-clause-asks : goal.returns-in-Stop-clause-asks
returns-in-Stop-clause-asks g c =
    let played = try_stop {k = 4 - c.loop-tried._tried} (4 - (c.loop-tried._tried + 1)) _ _ (omega arith)
    c.loop-tried.invariant.reaches _ c.in_ok-attempt.ensures.ok c.in-Stop.is in
    search rules

pub returns-in_err-attempt-clause-asks : goal.returns-in_err-attempt-clause-asks
returns-in_err-attempt-clause-asks g c =
    let p = err_from_is_err_and c.from_residual.result c.from_residual.ensures.1 in
    rw (p.1, p.2) (
    let played = try_breaks {k = 4 - c.loop-tried._tried} (4 - (c.loop-tried._tried + 1)) _ _ (omega arith)
    c.loop-tried.invariant.reaches c.in_err-attempt.ensures.err in
    search rules)

pub loop-tried-preserved : goal.loop-tried-preserved
loop-tried-preserved g c = search (rules, try_again)

pub returns-clause-asks : goal.returns-clause-asks
unfolding attempts_or_fault
returns-clause-asks g c = search (rules, try_end)
