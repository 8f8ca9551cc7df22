use Rattle.std.proofs.lemmas.Bool.Decides.{nat_tests}
use Rattle.std.proofs.Common.{arith}
use Rattle.avr_io.proofs.Lines.ReportedAs.{reports_printed_line}
use Rattle.avr_io.proofs.message.refuse.Goals as goal

pub returns-clause-notice : goal.returns-clause-notice
returns-clause-notice g c = grind (arith, nat_tests, reports_printed_line)
