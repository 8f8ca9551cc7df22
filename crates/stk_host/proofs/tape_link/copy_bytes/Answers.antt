use Rattle.std.proofs.Common.{rules, length-set}
use Rattle.stk_host.proofs.Tapes.Prefixes.{within_bytes, copied_more, copied_all}
use Rattle.stk_host.proofs.tape_link.copy_bytes.Goals as goal

pub returns-in_default-clause-bytes : goal.returns-in_default-clause-bytes
returns-in_default-clause-bytes c = search (rules, copied_all)

pub loop-count-preserved : goal.loop-count-preserved
loop-count-preserved c = search (rules, length-set, within_bytes, copied_more)
