use Rattle.std.proofs.Common.{sym}
use Rattle.std.proofs.lemmas.Result.{err_from_is_err_and}
use Rattle.avr_records.proofs.Readers.Fed.{whole_bad}
use Rattle.avr_records.proofs.line_reader.LineReader.finish.Goals as goal

pub returns-in_err-end_line-clause-whole : goal.returns-in_err-end_line-clause-whole
returns-in_err-end_line-clause-whole c text r =
    let p = err_from_is_err_and c.from_residual.result c.from_residual.ensures.1 in
    rw (p.1, p.2) (sym (whole_bad _ _ _ text _ c.in_err-end_line.ensures.is.step r))
