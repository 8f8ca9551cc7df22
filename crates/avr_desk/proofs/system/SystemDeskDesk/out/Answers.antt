use Rattle.std.proofs.Common.{rules}
use Rattle.avr_desk.proofs.Desks.TwoWriters.{from_inside, is_write, out_true}
use Rattle.avr_desk.proofs.system.SystemDeskDesk.out.Goals as goal

pub returns-in-Err-clause-write : goal.returns-in-Err-clause-write
returns-in-Err-clause-write g c =
    let took = c.in-Err.ensures.taken in
    is_write (search rules) (rw (← c.self.view_is) (took.0, took.1, took.2.0)) (search rules) (search rules)
    (from_inside _ _ _ _ _ _ c.self.view_is (out_true _ _ _ _ _ _ _ _ _ _ _ took.2.0 took.2.1))

pub returns-in-Ok-clause-write : goal.returns-in-Ok-clause-write
returns-in-Ok-clause-write g c =
    let took = c.in-Ok.ensures.taken in
    is_write (search rules) (rw (← c.self.view_is) took.0.0) (search rules) (search rules)
    (from_inside _ _ _ _ _ _ c.self.view_is (out_true _ _ _ _ _ _ _ _ _ _ _ took.0.0 took.0.1))
