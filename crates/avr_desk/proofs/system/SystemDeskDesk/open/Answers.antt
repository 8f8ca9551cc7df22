use Rattle.std.proofs.Common.{rules}
use Rattle.avr_desk.proofs.Desks.TwoWriters.{absent_true, failed_true, file_true, from_inside, input_true}
use Rattle.avr_desk.proofs.system.SystemDeskDesk.open.Goals as goal

pub returns-then-is_dash-clause-stays : goal.returns-then-is_dash-clause-stays
returns-then-is_dash-clause-stays g c = from_inside _ _ _ _ _ _ c.self.view_is
    (input_true _ _ _ _ _ _ _ _ _ _ c.open_next.ensures.opened c.as_bytes.ensures.value c.if-is_dash.ensures
    c.open_next.ensures.noted c.open_next.ensures.closed c.input.ensures.begins c.input.ensures.gives
    c.open_next.ensures.stays.done c.input.ensures.keeps c.open_next.ensures.stays.kept)

pub returns-in-Ok-clause-stays : goal.returns-in-Ok-clause-stays
returns-in-Ok-clause-stays g c = from_inside _ _ _ _ _ _ c.self.view_is
    (file_true _ _ _ _ _ _ _ _ _ _ _ c.as_ref.ensures.value c.open_next-in-Ok.ensures.opened c.as_bytes.ensures.value
    c.if-is_dash.ensures c.in-Ok.ensures.named c.open_next-in-Ok.ensures.noted c.open_next-in-Ok.ensures.closed
    c.in-Ok.ensures.opens c.open_next-in-Ok.ensures.stays.done c.open_named.ensures.keeps
    c.open_next-in-Ok.ensures.stays.kept)

pub returns-in-Err-clause-stays : goal.returns-in-Err-clause-stays
returns-in-Err-clause-stays g c = from_inside _ _ _ _ _ _ c.self.view_is
    (absent_true _ _ _ _ _ _ _ _ _ _ _ c.as_ref.ensures.value c.open_next-in-Err.ensures.opened
    c.as_bytes-in-Err.ensures.value (λ only. c.in-Err.ensures.named only (search rules)) c.open_next-in-Err.ensures.noted
    c.open_next-in-Err.ensures.closed c.in-Err.ensures.opens c.open_next-in-Err.ensures.stays.done
    c.open_named.ensures.keeps c.open_next-in-Err.ensures.stays.kept)

pub returns-in-Err-2-clause-stays : goal.returns-in-Err-2-clause-stays
returns-in-Err-2-clause-stays g c = from_inside _ _ _ _ _ _ c.self.view_is
    (failed_true _ _ _ _ _ _ _ _ _ _ _ c.as_ref.ensures.value c.in-Err-2.ensures.opens
    (λ only. c.open_named.ensures.keeps))
