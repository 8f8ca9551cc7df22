-- The clauses of `chip_of`, at each exit where no search finds the proof.
use Rattle.std.proofs.Common.{rules}
use Rattle.avr_io.proofs.Stages.Played.{runs_without_memory}
use Rattle.avr_tool.proofs.Chips.{chip_given_by_bytes, wrong_length_refused}
use Rattle.avr_tool.proofs.chip_files.chip_of.Goals as goal

pub returns-in-Ok-clause-goes : goal.returns-in-Ok-clause-goes
returns-in-Ok-clause-goes g c =
    let gives = rw c.copied.ensures.value at c.in-Ok.ensures in search (rules, chip_given_by_bytes)

pub returns-in-Err-BadChipFile-clause-goes : goal.returns-in-Err-BadChipFile-clause-goes
returns-in-Err-BadChipFile-clause-goes g c =
    let gives = rw (c.in-Err-BadChipFile.field-0-is, c.copied.ensures.value) at c.in-Err-BadChipFile.ensures in
    let notice = rw (c.length_message.ensures, c.chip_file_size.ensures) at c.refuse.ensures.notice in
    search (rules, wrong_length_refused)

pub returns-in-Err : goal.returns-in-Err
returns-in-Err g c = search (rules, runs_without_memory)
