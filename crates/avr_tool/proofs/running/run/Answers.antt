-- The clauses of `run`, at each exit where no search finds the proof.
use Rattle.std.proofs.Common.{inl, inr, refl, rules}
use Rattle.avr_tool.proofs.Runs.Joined.{is_run}
use Rattle.avr_tool.proofs.running.run.Goals as goal

pub returns-in-Ok-clause-runs : goal.returns-in-Ok-clause-runs
returns-in-Ok-clause-runs g c = is_run _ _ _ _ _
    (inl (c.in-Ok.plan, rw c.in-Ok.is at c.plan.ensures.goes, c.drive.ensures.runs))

pub returns-in-Ok-clause-between : goal.returns-in-Ok-clause-between
returns-in-Ok-clause-between g c = record {
  between = c.plan.new.desk;
  stays = c.plan.ensures.stays;
  runs = inl (c.in-Ok.plan, rw c.in-Ok.is at c.plan.ensures.goes, c.drive.ensures.runs);
}

pub returns-in-Err-clause-runs : goal.returns-in-Err-clause-runs
returns-in-Err-clause-runs g c = is_run _ _ (g.D.Desk.view c.plan.new.desk) _ _ (inr (
  record { goes = rw c.in-Err.is at c.plan.ensures.goes; bare = rw c.in-Err.is at c.plan.ensures.bare },
  refl,
))

pub returns-in-Err-clause-between : goal.returns-in-Err-clause-between
returns-in-Err-clause-between g c = record {
  between = c.plan.new.desk;
  stays = c.plan.ensures.stays;
  runs =
      inr (record { goes = rw c.in-Err.is at c.plan.ensures.goes; bare = rw c.in-Err.is at c.plan.ensures.bare }, refl);
}
