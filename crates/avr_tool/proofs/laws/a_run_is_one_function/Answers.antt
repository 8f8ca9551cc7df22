-- The clauses of `a_run_is_one_function`, at each exit where no search finds the proof.
use Rattle.avr_tool.proofs.Runs.Joined.{is_run, session_is_run}
use Rattle.avr_tool.proofs.laws.a_run_is_one_function.Goals as goal

pub returns-clause-run : goal.returns-clause-run
returns-clause-run c = is_run

pub returns-clause-session : goal.returns-clause-session
returns-clause-session c = session_is_run
