use Rattle.std.proofs.Common.{ap, rules}
use Rattle.stk_host.specs.State.{HostState}
use Rattle.avr_session.proofs.Runs.Outcomes.{session_comes}
use Rattle.avr_session.proofs.session.drive_outcome.Goals as goal

pub returns-clause-comes_to : goal.returns-clause-comes_to
returns-clause-comes_to g c =
    let comes = session_comes c.new-session.result.plan.now c.play.result
    (ap (λ (host : HostState). host.progress) c.new-session.ensures.host) c.play.ensures.performs
    (rw c.play.ensures.plan at c.play.ensures.last_line) in
    rw c.outcome_of.ensures (search rules)
