-- The clauses of `serve_on`, at each exit where no search finds the proof.
use Rattle.std.proofs.Common.{inl}
use Rattle.avr_tool.proofs.serving.serve_on.Goals as goal

pub returns-clause-serves : goal.returns-clause-serves
returns-clause-serves g c =
    let serves = rw (c.place_of-port.ensures, c.chip_file-file.ensures) at
    c.serve_client.ensures.serves c.args.listener c.accept.ensures.new c.accept.ensures.missed in
    inl (_, _, c.in-Ok.ensures.checks_out, serves)
