-- The clauses of `serve_net`, at each exit where no search finds the proof.
use Rattle.std.proofs.Common.{inl}
use Rattle.avr_tool.proofs.serving.serve_net.Goals as goal

pub returns-clause-serves : goal.returns-clause-serves
returns-clause-serves g c =
    let serves = rw (c.place_of.ensures, c.chip_file.ensures) at c.serve_at.ensures.serves in
    inl (_, _, c.in-Ok.ensures.checks_out, serves)
