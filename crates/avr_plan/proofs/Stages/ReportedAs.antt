-- The last line about a refused plan, seen from an earlier state.
use Rattle.std.proofs.Common.{rules}
use Rattle.avr_plan.specs.declared.update.Update.{Update}
use Rattle.avr_io.specs.Fault.{HasSameCounts}
use Rattle.avr_io.specs.Record.{DeskState}
use Rattle.avr_plan.specs.PlanFaults.{ReportsTaskFault}
use Rattle.avr_plan.specs.declared.plan_fault.TaskFault.{TaskFault}

-- A fault that was reported last is so from an earlier state on, if no call failed in between.
pub fault_since : (u : Update) (fault : TaskFault) (a b c : DeskState) → HasSameCounts a b
    → ReportsTaskFault u b c fault → ReportsTaskFault u a c fault
fault_since u fault a b c same notice = search rules
