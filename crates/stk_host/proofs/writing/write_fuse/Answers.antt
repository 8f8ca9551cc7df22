use Rattle.std.proofs.Common.{rules}
use Rattle.stk_host.proofs.Operations.Steps.{alone, none_played}
use Rattle.stk_host.proofs.writing.write_fuse.Goals as goal

pub returns-in-Some : goal.returns-in-Some
returns-in-Some g c = search (rules, alone)

pub returns-in-None : goal.returns-in-None
returns-in-None g c = search (rules, none_played)
