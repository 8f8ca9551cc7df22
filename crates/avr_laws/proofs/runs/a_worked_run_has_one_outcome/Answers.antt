use Rattle.avr_laws.proofs.Outcomes.Refused.{another_status, another_frame, another_line}
use Rattle.avr_laws.proofs.runs.a_worked_run_has_one_outcome.Goals as goal

pub returns-clause-status : goal.returns-clause-status
returns-clause-status c = another_status

pub returns-clause-frames : goal.returns-clause-frames
returns-clause-frames c = another_frame

pub returns-clause-lines : goal.returns-clause-lines
returns-clause-lines c = another_line
