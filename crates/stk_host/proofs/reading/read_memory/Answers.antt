use Rattle.std.proofs.Common.{rules}
use Rattle.std.proofs.lemmas.Result.{err_from_is_err_and}
use Rattle.stk_host.specs.ReadSteps.{read_step}
use Rattle.stk_host.proofs.Operations.Steps.{begins_at, reaches_next, stops_next, plays_all}
use Rattle.stk_host.proofs.Operations.Reads.{brings_more, sized_read, all_brought}
use Rattle.stk_host.proofs.reading.read_memory.Goals as goal

pub loop-number-init : goal.loop-number-init
loop-number-init g c = search (rules, begins_at)

pub read_step-requires-clause-room : goal.read_step-requires-clause-room
read_step-requires-clause-room g c = search (rules, brings_more)

pub read_step-requires-clause-sized : goal.read_step-requires-clause-sized
read_step-requires-clause-sized g c = search (rules, sized_read)

pub returns-in_err-read_step-clause-is : goal.returns-in_err-read_step-clause-is
returns-in_err-read_step-clause-is g c =
    let p = err_from_is_err_and c.from_residual.result c.from_residual.ensures.1 in
    rw (p.1, p.2) (
    let played = stops_next (read_step c.args.part.now c.args.mem) _ _ _ c.loop-number.invariant.reaches (rw
    c.read_count-number-end.ensures.value at c.loop-number-test.true) _ _ _ (rw (
      c.load_command_at-first.ensures,
      c.read_command_at-last.ensures,
    ) at c.in_err-read_step.ensures.asks.played) in
    search rules)

pub loop-number-preserved : goal.loop-number-preserved
loop-number-preserved g c = search (rules, reaches_next, brings_more)

pub returns-clause-is : goal.returns-clause-is
returns-clause-is g c =
    let played = plays_all (read_step c.args.part.now c.args.mem) _ _ c.loop-number.invariant.reaches (rw
    c.read_count-number-end.ensures.value at c.loop-number-test.false) in
    search rules

pub returns-clause-size : goal.returns-clause-size
returns-clause-size g c = search (rules, all_brought)
