-- The clauses of `fresh_chip`, at each exit where no search finds the proof.
use Rattle.std.proofs.Common.{rules}
use Rattle.avr_io.proofs.Stages.Played.{runs_without_memory}
use Rattle.avr_tool.proofs.Chips.{fresh_chip_given}
use Rattle.avr_tool.proofs.chip_files.fresh_chip.Goals as goal

pub returns-in-Ok-clause-goes : goal.returns-in-Ok-clause-goes
returns-in-Ok-clause-goes g c = search (rules, fresh_chip_given)

pub returns-in-Err-clause-goes : goal.returns-in-Err-clause-goes
returns-in-Err-clause-goes g c = search (rules, runs_without_memory)
