use Rattle.avr_tool.proofs.Plans.Items.{items_by_tasks}
use Rattle.avr_laws.proofs.written.a_plan_writes_what_its_tasks_write.Goals as goal

pub returns : goal.returns
returns c = items_by_tasks
