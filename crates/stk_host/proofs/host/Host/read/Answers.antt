use Rattle.std.proofs.Common.{rules}
use Rattle.stk_host.proofs.Operations.Steps.{reading_ends, read_sized, read_short, size_fits}
use Rattle.stk_host.proofs.host.Host.read.Goals as goal

pub returns-clause-calls : goal.returns-clause-calls
returns-clause-calls g c = search (rules, reading_ends)

pub returns-clause-sized : goal.returns-clause-sized
returns-clause-sized g c = search (rules, read_sized)

pub returns-clause-short : goal.returns-clause-short
returns-clause-short g c = search (rules, read_short, size_fits)
