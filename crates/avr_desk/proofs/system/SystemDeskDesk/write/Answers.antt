use Rattle.std.proofs.Common.{rules}
use Rattle.avr_desk.proofs.Desks.TwoWriters.{counted_true, from_inside, is_write, unwritten_true, write_out_true, write_true}
use Rattle.avr_desk.proofs.system.SystemDeskDesk.write.Goals as goal

pub returns-in-Ok-write_through-clause-write : goal.returns-in-Ok-write_through-clause-write
returns-in-Ok-write_through-clause-write g c =
    let took = c.in-Ok-write_through.ensures.taken in
    is_write (search rules) (rw (← c.self.view_is) took.0.0) (search rules) (search rules)
    (from_inside _ _ _ _ _ _ c.self.view_is (write_out_true _ _ _ _ _ _ _ _ _ _ _ c.in-Output.is took.0.0))

pub returns-in-Err-write_through-clause-write : goal.returns-in-Err-write_through-clause-write
returns-in-Err-write_through-clause-write g c =
    let took = c.in-Err-write_through.ensures.taken in
    is_write (search rules) (rw (← c.self.view_is) (took.0, took.1, took.2.0)) (search rules) (search rules)
    (from_inside _ _ _ _ _ _ c.self.view_is (write_out_true _ _ _ _ _ _ _ _ _ _ _ c.in-Output.is took.2.0))

pub returns-in-Ok-clause-write : goal.returns-in-Ok-clause-write
returns-in-Ok-clause-write g c =
    is_write (search rules) (search rules) (search rules) (search rules) (from_inside _ _ _ _ _ _ c.self.view_is
    (write_true _ _ _ _ _ _ _ _ _ _ _ c.in-ToWrite.is c.in-Ok.ensures.ok c.then-self-inside.ensures))

pub returns-in-Err-clause-write : goal.returns-in-Err-clause-write
returns-in-Err-clause-write g c =
    is_write (search rules) (search rules) (search rules) (search rules) (from_inside _ _ _ _ _ _ c.self.view_is
    (unwritten_true _ _ _ _ _ _ _ _ _ _ c.in-ToWrite.is c.in-Err.ensures.err))

pub returns-in_default-clause-write : goal.returns-in_default-clause-write
returns-in_default-clause-write g c =
    is_write (search rules) (search rules) (search rules) (search rules)
    (from_inside _ _ _ _ _ _ c.self.view_is (counted_true _ _ _ _ _ _ _ _ _ _))
