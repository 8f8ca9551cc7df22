use Rattle.std.proofs.Common.{rules}
use Rattle.stk_host.specs.Dialog.{Done}
use Rattle.avr_session.specs.Standing.{NoFault, Faulty, Over}
use Rattle.avr_session.proofs.ActionByAction.Sequences.{quietly_performs, quietly_over, performs_until}
use Rattle.avr_session.proofs.session.Session.leave.Goals as goal

pub returns-in-Ok : goal.returns-in-Ok
returns-in-Ok g c =
    let closes = quietly_performs (g.D.Desk.view c.args.self.now.desk.now) c.requires.serves
    c.close-closed.ensures.calls c.conclude.ensures in
    let left = quietly_over NoFault (rw c.in-Ok.is at closes) in
    search rules

pub returns-in-Err-Faulty : goal.returns-in-Err-Faulty
returns-in-Err-Faulty g c =
    let closes = quietly_performs (g.D.Desk.view c.args.self.now.desk.now) c.requires.serves
    c.close-closed.ensures.calls c.conclude.ensures in
    let left = quietly_over Faulty (rw (c.in-Err-Faulty.is, c.in-Err-Faulty.field-0-is) at closes) in
    search rules

pub returns-in-Err-Over : goal.returns-in-Err-Over
returns-in-Err-Over g c =
    let closes = quietly_performs (g.D.Desk.view c.args.self.now.desk.now) c.requires.serves
    c.close-closed.ensures.calls c.conclude.ensures in
    let left = quietly_over Over (rw (c.in-Err-Over.is, c.in-Err-Over.field-0-is) at closes) in
    search rules

pub returns-in-Err-Stopped : goal.returns-in-Err-Stopped
returns-in-Err-Stopped g c =
    let closes = quietly_performs (g.D.Desk.view c.args.self.now.desk.now) c.requires.serves
    c.close-closed.ensures.calls c.conclude.ensures in
    let left = performs_until (λ _. Done Over) tt (rw (c.in-Err-Stopped.is, c.in-Err-Stopped.field-0-is) at closes) in
    search rules
