use Rattle.std.proofs.Common.{rules}
use Rattle.avr_session.specs.Lines.{fault_line}
use Rattle.avr_session.proofs.ActionByAction.Reports.{reports_line}
use Rattle.avr_session.proofs.reports.report_fault.Goals as goal

pub returns : goal.returns
unfolding fault_line
returns g c = rw (← c.fault_message-message.ensures, ← c.pieces.ensures) (search (rules, reports_line))
