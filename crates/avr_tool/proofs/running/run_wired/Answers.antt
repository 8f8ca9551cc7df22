-- The clauses of `run_wired`, at each exit where no search finds the proof.
use Rattle.std.proofs.Common.{inr, rules}
use Rattle.avr_tool.proofs.running.run_wired.Goals as goal

pub returns-in-Err-clause-runs : goal.returns-in-Err-clause-runs
returns-in-Err-clause-runs g c =
    inr (search (rules, rw c.in-Err.is at c.plan.ensures.goes, rw c.in-Err.is at c.plan.ensures.bare))
