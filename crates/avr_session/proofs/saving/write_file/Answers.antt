use Rattle.std.proofs.Common.{rules}
use Rattle.avr_session.specs.Runs.{cause_line}
use Rattle.avr_io.proofs.Lines.ReportedAs.{failed_by}
use Rattle.avr_session.proofs.ActionByAction.Saves.{failed_at_file, writes_some}
use Rattle.avr_session.proofs.saving.write_file.Goals as goal

pub returns-in-Err-clause-writes : goal.returns-in-Err-clause-writes
unfolding cause_line
returns-in-Err-clause-writes g c =
    let notice = rw c.not_written_message.ensures at c.refuse.ensures.notice in
    search (rules, writes_some, failed_at_file, failed_by)
