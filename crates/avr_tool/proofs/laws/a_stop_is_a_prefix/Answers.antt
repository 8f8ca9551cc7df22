-- The clauses of `a_stop_is_a_prefix`, at each exit where no search finds the proof.
use Rattle.avr_tool.proofs.Runs.Joined.{stop_prefix, one_status}
use Rattle.avr_tool.proofs.laws.a_stop_is_a_prefix.Goals as goal

pub returns-clause-prefix : goal.returns-clause-prefix
returns-clause-prefix c = stop_prefix

pub returns-clause-one : goal.returns-clause-one
returns-clause-one c = one_status
