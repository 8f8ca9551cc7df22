use Rattle.std.proofs.Common.{rules}
use Rattle.avr_session.specs.Session.{ending}
use Rattle.avr_session.specs.Standing.{NoFault, Faulty, Over}
use Rattle.avr_session.proofs.ActionByAction.Sequences.{ends_so, nothing_performs, performs_until}
use Rattle.avr_session.proofs.session.Session.play.Goals as goal

pub returns-in-Ok : goal.returns-in-Ok
returns-in-Ok g c =
    let plays = ends_so c.args.self.now.plan.now NoFault _ (rw c.in-Ok.is at c.work.ensures.performs)
    (rw c.work.ensures.plan at c.close.ensures.performs) in
    search rules

pub returns-in-Err-Faulty : goal.returns-in-Err-Faulty
returns-in-Err-Faulty g c =
    let plays = ends_so c.args.self.now.plan.now Faulty _
    (rw (c.in-Err-Faulty.is, c.in-Err-Faulty.field-0-is) at c.work.ensures.performs)
    c.leave.ensures.performs in
    search rules

pub returns-in-Err-Over : goal.returns-in-Err-Over
returns-in-Err-Over g c =
    let plays = ends_so c.args.self.now.plan.now Over _
    (rw (c.in-Err-Over.is, c.in-Err-Over.field-0-is) at c.work.ensures.performs) (nothing_performs Over _ _ tt) in
    search rules

pub returns-in-Err-Stopped : goal.returns-in-Err-Stopped
returns-in-Err-Stopped g c =
    let plays = performs_until (ending c.args.self.now.plan.now.part c.args.self.now.plan.now.switches) tt
    (rw (c.in-Err-Stopped.is, c.in-Err-Stopped.field-0-is) at c.work.ensures.performs) in
    search rules
