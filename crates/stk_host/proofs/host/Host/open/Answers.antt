use Rattle.std.proofs.Common.{rules}
use Rattle.stk_host.proofs.Operations.StepEnds.{opening_ends}
use Rattle.stk_host.proofs.host.Host.open.Goals as goal

pub returns-clause-calls : goal.returns-clause-calls
returns-clause-calls g c = search (rules, opening_ends)
