use Rattle.std.proofs.Common.{rules}
use Rattle.avr_laws.proofs.SecondRun.Status.{run_repairs, first_writes_repaired, done_again}
use Rattle.avr_laws.proofs.again.the_same_run_again_repairs.Goals as goal

pub returns-clause-touched : goal.returns-clause-touched
returns-clause-touched c = search (rules, first_writes_repaired)

pub returns-clause-write_operations : goal.returns-clause-write_operations
returns-clause-write_operations c = search (rules, run_repairs)

pub returns-clause-done : goal.returns-clause-done
returns-clause-done c = search (rules, done_again)
