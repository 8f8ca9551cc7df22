-- The clauses of `check_reads`, at each exit where no search finds the proof.
use Rattle.std.proofs.lemmas.Result.{err_from_is_err_and}
use Rattle.avr_tool.proofs.Emulating.{read_refused}
use Rattle.avr_tool.proofs.over_emulator.check_reads.Goals as goal

pub returns-in_err-check_read-clause-checks : goal.returns-in_err-check_read-clause-checks
returns-in_err-check_read-clause-checks g c =
    let p = err_from_is_err_and c.from_residual.result c.from_residual.ensures.1 in
    rw p.1 (read_refused _ _ _ _ _ _ _ _ _ _ _ _ c.loop-task-test.true c.task-item.is c.in-Read.is c.as_str.ensures
    c.loop-task.invariant.same p.2 c.in_err-check_read.ensures.checks)
