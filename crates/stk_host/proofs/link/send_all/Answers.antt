use Rattle.std.proofs.Common.{rules, ◌+◌, refl, arith}
use Rattle.std.proofs.lemmas.List.{take_rest}
use Rattle.std.proofs.lemmas.Result.{err_from_is_err_and}
use Rattle.stk_frame.proofs.FedReaders.{within_span}
use Rattle.stk_host.proofs.Transcripts.Sending.{sends_part, part_of, takes_none, fails_since}
use Rattle.stk_host.proofs.link.send_all.Goals as goal

pub returns-in_err-count-clause-sends : goal.returns-in_err-count-clause-sends
returns-in_err-count-clause-sends g c =
    let p = err_from_is_err_and c.from_residual.result c.from_residual.ensures.1 in
    rw p.1 (record {
      ok = tt;
      err = part_of c.args.bytes.now c.loop-done.done _ _ _ _ (omega arith) c.loop-done.invariant.emits
          (take_rest c.args.bytes.now c.loop-done.done) c.in_err-count.ensures.sends.err;
      counts = fails_since _ _ _ _ c.loop-done.invariant.counted c.in_err-count.ensures.sends.counted
          c.in_err-count.ensures.sends.failed;
    })

pub returns-then-count-eq0-clause-sends : goal.returns-then-count-eq0-clause-sends
returns-then-count-eq0-clause-sends g c = record {
  ok = tt;
  err = part_of c.args.bytes.now (c.loop-done.done + c.in_ok-count.count) _ _ _ _ (omega arith)
      (sends_part c.args.bytes.now c.loop-done.done c.in_ok-count.count _ _ _ _ c.loop-done.invariant.emits
      (take_rest c.args.bytes.now c.loop-done.done) c.in_ok-count.ensures.sends.ok) refl (takes_none _ _ _ refl);
  counts = fails_since _ _ _ _ c.loop-done.invariant.counted c.in_ok-count.ensures.sends.counted
      (c.in_ok-count.ensures.sends.stuck (omega arith) (omega arith));
}

pub loop-done-preserved : goal.loop-done-preserved
loop-done-preserved g c = search (rules, sends_part, take_rest, within_span)
