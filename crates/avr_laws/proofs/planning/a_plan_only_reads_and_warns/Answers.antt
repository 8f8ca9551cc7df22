use Rattle.avr_laws.proofs.Plans.OnlyReading.{only_reads}
use Rattle.avr_laws.proofs.planning.a_plan_only_reads_and_warns.Goals as goal

pub returns : goal.returns
returns c = only_reads
