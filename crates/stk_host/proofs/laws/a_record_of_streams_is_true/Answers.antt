use Rattle.stk_host.proofs.Transcripts.Streams.{true_now}
use Rattle.stk_host.proofs.laws.a_record_of_streams_is_true.Goals as goal

pub returns : goal.returns
returns g c = c.requires c.args.before.now
    (true_now g.R.Read.remaining g.R.Inlet.has_timed_out g.W.Write.contents c.args.before.now)
