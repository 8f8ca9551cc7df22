use Rattle.std.proofs.lemmas.Bool.Decides.{nat_tests}
use Rattle.std.proofs.Common.{arith}
use Rattle.std.proofs.lemmas.Result.{err_from_is_err_and}
use Rattle.avr_io.proofs.Lines.FailureCounts.{taken_uncounted}
use Rattle.avr_io.proofs.Lines.SentBytes.{sent_on, sent_on_part}
use Rattle.avr_io.proofs.stream.write_all.Goals as goal

pub loop-at-preserved : goal.loop-at-preserved
loop-at-preserved g c = grind (arith, nat_tests, taken_uncounted, sent_on)

pub returns-in_err-count-clause-part : goal.returns-in_err-count-clause-part
returns-in_err-count-clause-part g c =
    let p = err_from_is_err_and c.from_residual.result c.from_residual.ensures.1 in
    rw p.1 (sent_on_part c.args.stream _ _ _ _ c.loop-at.at c.loop-at.invariant.within c.loop-at.invariant.sent
    c.in_err-count.ensures.write.kept)
