-- The clauses of `find_part`, at each exit where no search finds the proof.
use Rattle.std.proofs.Common.{rules}
use Rattle.avr_io.proofs.Stages.Played.{runs_first_only}
use Rattle.avr_tool.proofs.ServedRuns.{part_found_in_parts}
use Rattle.avr_tool.proofs.served_run.find_part.Goals as goal

pub returns-in-Err-clause-goes : goal.returns-in-Err-clause-goes
returns-in-Err-clause-goes g c = search (rules, runs_first_only, c.in-Err.ensures.goes)

pub returns-clause-goes : goal.returns-clause-goes
returns-clause-goes g c = search (rules, part_found_in_parts, c.in-Ok.ensures.goes, c.chosen_part.ensures.goes)
