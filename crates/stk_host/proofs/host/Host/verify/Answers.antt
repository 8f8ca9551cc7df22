use Rattle.std.proofs.Common.{rules}
use Rattle.stk_host.proofs.Operations.Steps.{verifying_ends}
use Rattle.stk_host.proofs.host.Host.verify.Goals as goal

pub returns-clause-calls : goal.returns-clause-calls
returns-clause-calls g c = search (rules, verifying_ends)
