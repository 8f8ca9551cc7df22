use Rattle.std.proofs.Common.{rules}
use Rattle.avr_desk.proofs.Desks.TwoWriters.{from_inside, is_call, replace_true, unreplaced_true}
use Rattle.avr_desk.proofs.system.SystemDeskChipDesk.replace.Goals as goal

pub returns-in-Ok-clause-call : goal.returns-in-Ok-clause-call
returns-in-Ok-clause-call g c = is_call (search rules) (search rules) (from_inside _ _ _ _ _ _ c.self.view_is
    (replace_true _ _ _ _ _ _ _ _ _ _ c.replace_named.new.held c.as_bytes.ensures.value c.release_held.ensures.none
    c.open_next.ensures.opened c.open_next.ensures.noted c.in-Ok.ensures.put.0 c.in-Ok.ensures.stays
    c.open_next.ensures.closed c.in-Ok.ensures.put.1 c.release_held.ensures.left c.open_next.ensures.stays.done
    c.replace_named.ensures.leaves c.release_held.ensures.keeps c.open_next.ensures.stays.kept))

pub returns-in-Err-clause-call : goal.returns-in-Err-clause-call
returns-in-Err-clause-call g c = is_call (search rules) (search rules)
    (from_inside _ _ _ _ _ _ c.self.view_is
    (unreplaced_true _ _ _ _ _ _ _ _ _ _ c.as_bytes-in-Err.ensures.value c.then-self-inside.ensures
    c.replace_named.ensures.stays c.in-Err.ensures.put c.replace_named.ensures.leaves))
