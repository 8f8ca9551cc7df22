use Rattle.std.proofs.Common.{rules}
use Rattle.stk_host.proofs.Operations.Steps.{done_ends, alone}
use Rattle.stk_host.proofs.host.Host.erase.Goals as goal

pub returns-clause-calls : goal.returns-clause-calls
returns-clause-calls g c = search (rules, done_ends, alone)
