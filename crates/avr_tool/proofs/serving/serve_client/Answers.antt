-- The clauses of `serve_client`, at each exit where no search finds the proof.
use Rattle.std.proofs.Common.{inl, rules}
use Rattle.stk_host.proofs.Transcripts.Streams.{true_now}
use Rattle.avr_tool.proofs.serving.serve_client.Goals as goal

pub returns-clause-serves : goal.returns-clause-serves
returns-clause-serves g c = λ listener accepted lacks.
    let new = rw c.in-Ok.is at accepted in
    let serves = rw (new.quiet, new.fresh) at c.serve_part-status.ensures.runs in
    inl (_, search (rules, true_now, c.serve_part-status.ensures.comes), serves)
