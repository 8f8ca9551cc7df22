use Rattle.std.proofs.Common.{◌≡◌, ◌++◌, List, ℕ, length}
use Rattle.avr_io.specs.Fault.{HasSameCounts}
use Rattle.avr_io.specs.Record.{ChangesRecord}
use Rattle.avr_io.specs.Stream.{after_sent}
use Rattle.ghosts.specs.Preserves.{Preserves}
use Rattle.avr_session.proofs.file_text.write_pieces.Given as goal

abbrev pub invariant-pieces : goal.invariant-pieces
invariant-pieces g l = record {
  sent : (done : List ℕ) × (g.P.Pieces.rest l.initial.text ≡ done ++ (l.waiting.items ++ g.P.Pieces.rest l.text))
      × ChangesRecord (after_sent l.initial.stream done) (g.D.Desk.view l.initial.desk) (g.D.Desk.view l.desk);
  counted : HasSameCounts (g.D.Desk.view l.initial.desk) (g.D.Desk.view l.desk);
  stays : Preserves g.D.Desk.started_as l.initial.desk l.desk;
}

abbrev pub decreases-pieces : goal.decreases-pieces
decreases-pieces g l = length (g.P.Pieces.rest l.text)
