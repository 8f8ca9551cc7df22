use Rattle.std.proofs.Common.{rules}
use Rattle.stk_host.proofs.Transcripts.Logs.{received_in}
use Rattle.stk_host.proofs.log.Log.heard.Goals as goal

pub returns : goal.returns
returns c = search (rules, received_in)
