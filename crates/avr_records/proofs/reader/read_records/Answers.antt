use Rattle.std.proofs.Common.{inl}
use Rattle.std.proofs.lemmas.Result.{err_from_is_err_and}
use Rattle.avr_records.proofs.Readers.WholeFiles.{new_reader_fault}
use Rattle.avr_records.proofs.reader.read_records.Goals as goal

pub returns-in_err-feed-clause-value : goal.returns-in_err-feed-clause-value
returns-in_err-feed-clause-value c short =
    let p = err_from_is_err_and c.from_residual-in_err-feed.result c.from_residual-in_err-feed.ensures.1 in
    rw (p.1, p.2) (inl (new_reader_fault _ _ _ _ _ c.in_ok-reader.ensures c.in_err-feed.ensures.of_text))
