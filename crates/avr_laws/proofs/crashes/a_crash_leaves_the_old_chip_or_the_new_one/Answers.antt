use Rattle.std.proofs.Common.{rules}
use Rattle.avr_laws.proofs.ChipFile.KilledRuns.{run_killed, server_killed}
use Rattle.avr_laws.proofs.crashes.a_crash_leaves_the_old_chip_or_the_new_one.Goals as goal

pub returns-clause-run : goal.returns-clause-run
returns-clause-run g c = search (rules, run_killed)

pub returns-clause-server : goal.returns-clause-server
returns-clause-server g c = search (rules, server_killed)
