use Rattle.std.proofs.Common.{rules}
use Rattle.stk_host.proofs.Operations.Reads.{few_reads}
use Rattle.stk_host.proofs.reading.read_count.Goals as goal

pub returns-clause-few : goal.returns-clause-few
returns-clause-few c = search (rules, few_reads)
