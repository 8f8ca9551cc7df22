use Rattle.std.proofs.Common.{rules}
use Rattle.avr_desk.proofs.Desks.TwoWriters.{created_true, failed_true, from_inside, is_call, output_true}
use Rattle.avr_desk.proofs.system.SystemDeskDesk.create.Goals as goal

pub returns-then-is_dash-clause-call : goal.returns-then-is_dash-clause-call
returns-then-is_dash-clause-call g c = is_call (search rules) (search rules) (from_inside _ _ _ _ _ _ c.self.view_is
    (output_true _ _ _ _ _ _ _ _ _ _ c.open_next.ensures.opened c.as_bytes.ensures.value c.if-is_dash.ensures
    c.open_next.ensures.noted c.open_next.ensures.closed c.open_next.ensures.stays.done
    c.open_next.ensures.stays.kept))

pub returns-in-Ok-clause-call : goal.returns-in-Ok-clause-call
returns-in-Ok-clause-call g c = is_call (search rules) (search rules) (from_inside _ _ _ _ _ _ c.self.view_is
    (created_true _ _ _ _ _ _ _ _ _ _ c.open_next-in-Ok.ensures.opened c.as_bytes.ensures.value c.if-is_dash.ensures
    c.in-Ok.ensures.named c.open_next-in-Ok.ensures.noted c.open_next-in-Ok.ensures.closed c.in-Ok.ensures.creates
    c.open_next-in-Ok.ensures.stays.done _ c.as_ref.ensures.value
    c.create_named.ensures.keeps c.open_next-in-Ok.ensures.stays.kept))

pub returns-in-Err-clause-call : goal.returns-in-Err-clause-call
returns-in-Err-clause-call g c = is_call (search rules) (search rules) (from_inside _ _ _ _ _ _ c.self.view_is
    (failed_true _ _ _ _ _ _ _ _ _ _ _ c.as_ref.ensures.value c.in-Err.ensures.creates c.create_named.ensures.keeps))
