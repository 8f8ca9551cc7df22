use Rattle.stk_host.specs.Steps.{play}
use Rattle.std.proofs.Common.{rules}
use Rattle.std.proofs.lemmas.Result.{err_from_is_err_and}
use Rattle.stk_host.specs.WriteSteps.{place_steps}
use Rattle.stk_host.proofs.Operations.Steps.{begins_at, reaches_next, stops_next, plays_all}
use Rattle.stk_host.proofs.writing.write_places.Goals as goal

pub loop-place-init : goal.loop-place-init
loop-place-init g c = search (rules, begins_at)

pub returns-in_err-write_place : goal.returns-in_err-write_place
returns-in_err-write_place g c =
    let p = err_from_is_err_and c.from_residual.result c.from_residual.ensures.1 in
    rw (p.1, p.2) (
    let played = stops_next (place_steps c.args.part.now c.args.mem c.args.image.now) _ _ _
    c.loop-place.invariant.reaches (rw c.place_count-place-end.ensures at c.loop-place-test.true) _ _ _
    c.in_err-write_place.ensures.played in
    search rules)

pub loop-place-preserved : goal.loop-place-preserved
loop-place-preserved g c = search (rules, reaches_next)

pub returns : goal.returns
unfolding play
returns g c = search (rules, plays_all)
