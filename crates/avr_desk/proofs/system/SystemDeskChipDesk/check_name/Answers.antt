use Rattle.std.proofs.Common.{rules}
use Rattle.avr_desk.proofs.Desks.TwoWriters.{failed_true, from_inside, is_call}
use Rattle.avr_desk.proofs.system.SystemDeskChipDesk.check_name.Goals as goal

pub returns-in-Err-clause-call : goal.returns-in-Err-clause-call
returns-in-Err-clause-call g c = is_call (search rules) (search rules) (from_inside _ _ _ _ _ _ c.self.view_is
    (failed_true _ _ _ _ _ _ _ _ _ _ _ c.as_ref.ensures.value c.check_named.ensures.stays.done
    (λ only. c.check_named.ensures.stays.kept)))

pub returns-in_default-clause-call : goal.returns-in_default-clause-call
returns-in_default-clause-call g c = is_call (search rules) (search rules) (from_inside _ _ _ _ _ _ c.self.view_is
    (failed_true _ _ _ _ _ _ _ _ _ _ _ c.as_ref.ensures.value c.check_named.ensures.stays.done
    (λ only. c.check_named.ensures.stays.kept)))
