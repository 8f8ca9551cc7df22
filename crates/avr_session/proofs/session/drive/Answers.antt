use Rattle.avr_session.proofs.Runs.Outcomes.{comes_runs}
use Rattle.avr_session.proofs.session.drive.Goals as goal

pub returns-clause-runs : goal.returns-clause-runs
returns-clause-runs g c = rw c.status.ensures (comes_runs _ _ _ _ c.drive_outcome.ensures.comes_to)
