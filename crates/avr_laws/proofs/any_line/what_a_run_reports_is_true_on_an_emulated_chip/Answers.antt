use Rattle.std.proofs.Common.{rules}
use Rattle.avr_laws.proofs.Reports.Truth.{emulated_reports}
use Rattle.avr_laws.proofs.any_line.what_a_run_reports_is_true_on_an_emulated_chip.Goals as goal

pub returns : goal.returns
returns c = search (rules, emulated_reports)
