use Rattle.std.proofs.Common.{rules}
use Rattle.stk_host.proofs.Transcripts.Sending.{range_consumed}
use Rattle.stk_host.proofs.listen.Unread.consume.Goals as goal

pub returns-clause-left : goal.returns-clause-left
returns-clause-left c = search (rules, range_consumed)
