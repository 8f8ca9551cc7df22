use Rattle.std.proofs.Common.{inr}
use Rattle.avrstk_session.proofs.outline_session.Goals as goal

pub returns-in-Err-clause-outlines : goal.returns-in-Err-clause-outlines
returns-in-Err-clause-outlines g c =
    inr (record { goes = rw c.in-Err.is at c.plan.ensures.goes; bare = rw c.in-Err.is at c.plan.ensures.bare })
