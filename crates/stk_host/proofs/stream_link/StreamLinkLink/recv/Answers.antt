use Rattle.std.proofs.Common.{rules}
use Rattle.stk_host.proofs.Transcripts.Streams.{true_on, true_of_received}
use Rattle.stk_host.proofs.stream_link.StreamLinkLink.recv.Goals as goal

pub returns-in-Ok-clause-comes : goal.returns-in-Ok-clause-comes
returns-in-Ok-clause-comes g c = search (rules, true_on, true_of_received)
