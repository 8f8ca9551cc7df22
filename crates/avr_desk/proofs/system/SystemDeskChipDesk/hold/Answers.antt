use Rattle.std.proofs.Common.{rules}
use Rattle.avr_desk.proofs.Desks.TwoWriters.{denied_true, from_inside, held_true, is_call, unheld_true}
use Rattle.avr_desk.proofs.system.SystemDeskChipDesk.hold.Goals as goal

pub returns-in-Ok-Some-clause-call : goal.returns-in-Ok-Some-clause-call
returns-in-Ok-Some-clause-call g c =
    let locks = rw c.in-Ok-Some.field-0-is at c.in-Ok-Some.ensures.locks in
    is_call (search rules) (search rules) (from_inside _ _ _ _ _ _ c.self.view_is
    (held_true _ _ _ _ _ _ _ _ _ _ c.as_bytes.ensures.value c.then-self-inside.ensures locks.0 locks.1
    c.release_held.ensures.left c.hold_named.ensures.leaves c.release_held.ensures.keeps))

pub returns-in-Ok-None-clause-call : goal.returns-in-Ok-None-clause-call
returns-in-Ok-None-clause-call g c =
    let denied = rw c.in-Ok-None.field-0-is at c.in-Ok-None.ensures.locks in
    is_call (search rules) (search rules)
    (from_inside _ _ _ _ _ _ c.self.view_is (denied_true _ _ _ _ _ _ _ _ _ _ c.as_bytes-in-Ok-None.ensures.value
    denied.0 c.then-self-inside-in-Ok-None.ensures denied.1 c.hold_named.ensures.leaves))

pub returns-in-Err-clause-call : goal.returns-in-Err-clause-call
returns-in-Err-clause-call g c = is_call (search rules) (search rules)
    (from_inside _ _ _ _ _ _ c.self.view_is
    (unheld_true _ _ _ _ _ _ _ _ _ _ c.in-Err.ensures.locks.1 c.hold_named.ensures.leaves))
