use Rattle.avr_tool.proofs.OverFaultyLink.WriteOperationOrder.{session_makes}
use Rattle.avr_laws.proofs.any_line.a_run_does_its_write_operations_in_order.Goals as goal

pub returns : goal.returns
returns c = λ plan before p fates sound fitted sizes idle. session_makes plan sound fitted before sizes p fates idle
