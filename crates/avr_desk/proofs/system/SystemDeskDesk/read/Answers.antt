use Rattle.std.proofs.Common.{rules}
use Rattle.avr_desk.proofs.Desks.TwoWriters.{from_inside, is_call, read_true, unread_true}
use Rattle.avr_desk.proofs.system.SystemDeskDesk.read.Goals as goal

pub returns-in-Ok-clause-call : goal.returns-in-Ok-clause-call
returns-in-Ok-clause-call g c = is_call (search rules) (search rules)
    (from_inside _ _ _ _ _ _ c.self.view_is
    (read_true _ _ _ _ _ _ _ _ _ _ _ _ c.then-self-inside.ensures (search rules) c.in-Ok.ensures.ok))

pub returns-in-Err-clause-call : goal.returns-in-Err-clause-call
returns-in-Err-clause-call g c = is_call (search rules) (search rules)
    (from_inside _ _ _ _ _ _ c.self.view_is (unread_true _ _ _ _ _ _ _ _ _ _ (search rules) c.in-Err.ensures.err))
