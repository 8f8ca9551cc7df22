use Rattle.std.proofs.Common.{rules}
use Rattle.std.proofs.lemmas.Result.{err_from_is_err_and}
use Rattle.avr_records.proofs.Readers.Fed.{carries_fault, carries_last}
use Rattle.avr_records.proofs.line_reader.LineReader.feed.Goals as goal

pub returns-in_err-end_line-clause-fault : goal.returns-in_err-end_line-clause-fault
returns-in_err-end_line-clause-fault c =
    let p = err_from_is_err_and c.from_residual.result c.from_residual.ensures.1 in
    let step = rw c.loop-line.invariant.kind at c.in_err-end_line.ensures.is.step in
    rw (p.1, p.2) (λ text r. search (rules, carries_fault, c.loop-line.invariant.carries, c.in-Some.ensures, step))

pub returns-then-self-clause-reads : goal.returns-then-self-clause-reads
returns-then-self-clause-reads c =
    carries_last _ _ _ _ _ _ c.loop-line.invariant.carries (search rules) (search rules) (search rules)

pub returns-clause-reads : goal.returns-clause-reads
returns-clause-reads c =
    carries_last _ _ _ _ _ _ c.loop-line.invariant.carries (search rules) (search rules) (search rules)
