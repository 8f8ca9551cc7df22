-- The clauses of `print_text`, at each exit where no search finds the proof.
use Rattle.std.proofs.Common.{rules}
use Rattle.std.proofs.lemmas.Result.{err_from_is_err_and}
use Rattle.avr_tool.proofs.Printed.{printed_more, printed_part}
use Rattle.avr_tool.proofs.texts.print_text.Goals as goal

pub returns-in_err-write_all-clause-prints : goal.returns-in_err-write_all-clause-prints
returns-in_err-write_all-clause-prints g c =
    let p = err_from_is_err_and c.from_residual.result c.from_residual.ensures.1 in
    let part = c.part_of-part.result.items in
    let sent = rw c.as_slice.ensures.value at c.in_err-write_all.ensures.part in
    rw p.1 (printed_part _ c.args.stream _ _ _ part _ _ _ c.loop-round.invariant.printed c.part_of-part.ensures.part
    sent (search rules) (search rules))

pub loop-round-preserved : goal.loop-round-preserved
loop-round-preserved g c = search (rules, printed_more)
