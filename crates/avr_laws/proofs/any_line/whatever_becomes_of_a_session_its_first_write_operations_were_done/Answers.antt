use Rattle.std.proofs.Common.{rules}
use Rattle.avr_laws.proofs.AnyLink.{over_any_run}
use Rattle.avr_laws.proofs.any_line.whatever_becomes_of_a_session_its_first_write_operations_were_done.Goals as goal

pub returns : goal.returns
returns c = search (rules, over_any_run)
