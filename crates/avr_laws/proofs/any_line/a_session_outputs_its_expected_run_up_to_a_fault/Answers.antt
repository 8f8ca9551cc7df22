use Rattle.std.proofs.Common.{rules}
use Rattle.avr_laws.proofs.Reports.UpToFault.{expected_now, expected_end, first_prefix}
use Rattle.avr_laws.proofs.any_line.a_session_outputs_its_expected_run_up_to_a_fault.Goals as goal

pub returns-clause-moment : goal.returns-clause-moment
returns-clause-moment c = search (rules, expected_now)

pub returns-clause-end : goal.returns-clause-end
returns-clause-end c = search (rules, expected_end)

pub returns-clause-prefix : goal.returns-clause-prefix
returns-clause-prefix c = first_prefix
