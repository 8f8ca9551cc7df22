use Rattle.std.proofs.Common.{◌≤◌, Some, refl, subst, rules}
use Rattle.stk_host.specs.Links.{StreamState, TranscriptIsTrueSince}
use Rattle.stk_host.proofs.Transcripts.Streams.{true_on, true_of_sent, true_of_taken}
use Rattle.stk_host.proofs.stream_link.StreamLinkLink.send.Goals as goal

pub returns-in-Ok-clause-comes : goal.returns-in-Ok-clause-comes
returns-in-Ok-clause-comes g c = search (rules, true_on, true_of_sent)

pub returns-in-Err-clause-comes : goal.returns-in-Err-clause-comes
returns-in-Err-clause-comes g c = λ start since.
    let after : StreamState g.row.R.Denot g.row.W.Denot = record {
      reader = c.self.inside.reader;
      writer = c.put_bytes.new.writer;
      failures = c.saturating_add-self-inside.result;
      last_error = Some c.kind.result;
      transcript = c.put_bytes.new.history.items;
    } in
    let counted : c.self.inside.failures ≤ c.saturating_add-self-inside.result = search rules in
    true_on g.R.Read.remaining g.R.Inlet.has_timed_out g.W.Write.contents start c.args.self.now after since
    (subst (λ (mid : StreamState g.row.R.Denot g.row.W.Denot). TranscriptIsTrueSince g.R.Read.remaining
    g.R.Inlet.has_timed_out g.W.Write.contents mid after) c.self.view_is
    (true_of_taken g.R.Read.remaining g.R.Inlet.has_timed_out g.W.Write.contents _ after c.args.bytes.now refl counted
    c.in-Err.ensures.taken))
