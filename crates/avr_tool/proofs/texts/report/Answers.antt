-- The clauses of `report`, at each exit where no search finds the proof.
use Rattle.std.proofs.Common.{rules}
use Rattle.avr_tool.proofs.Printed.{reported_by, partly_reported}
use Rattle.avr_tool.proofs.texts.report.Goals as goal

pub returns-in_err-print_text-clause-reports : goal.returns-in_err-print_text-clause-reports
returns-in_err-print_text-clause-reports g c = search (rules, partly_reported)

pub returns-clause-reports : goal.returns-clause-reports
returns-clause-reports g c = search (rules, reported_by)
