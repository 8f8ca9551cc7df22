-- The clauses of `serve_for`, at each exit where no search finds the proof.
use Rattle.std.proofs.Common.{inl}
use Rattle.avr_tool.proofs.served_run.serve_for.Goals as goal

pub returns-in-Ok-clause-runs : goal.returns-in-Ok-clause-runs
returns-in-Ok-clause-runs g c =
    let serves = rw c.chip_file.ensures at c.serve_part.ensures.runs in
    inl (record {
      part = c.in-Ok.part;
      part_desk = g.D.Desk.view c.find_part.new.desk;
      found = c.in-Ok.ensures.goes;
      then_is = serves;
    })
