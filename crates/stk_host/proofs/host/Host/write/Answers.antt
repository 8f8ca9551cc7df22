use Rattle.std.proofs.Common.{rules}
use Rattle.stk_host.proofs.Operations.Steps.{writing_ends, writes_nothing}
use Rattle.stk_host.proofs.host.Host.write.Goals as goal

pub returns-then-not-writable-clause-calls : goal.returns-then-not-writable-clause-calls
returns-then-not-writable-clause-calls g c = search (rules, writes_nothing)

pub returns-clause-calls : goal.returns-clause-calls
returns-clause-calls g c = search (rules, writing_ends)
