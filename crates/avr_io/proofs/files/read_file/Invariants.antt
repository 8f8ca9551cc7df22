use Rattle.std.proofs.Common.{◌≡◌, ◌≤◌, ◌-◌, ◌+◌, length, false}
use Rattle.avr_io.specs.Fault.{HasSameCounts}
use Rattle.avr_io.specs.Files.{with_read}
use Rattle.ghosts.specs.Preserves.{Preserves}
use Rattle.avr_io.proofs.files.read_file.Given as goal

abbrev pub invariant-pieces : goal.invariant-pieces
invariant-pieces g l = record {
  read : (g.D.Desk.view l.desk).kept ≡ with_read l.fn.name l.bytes false (g.D.Desk.view l.fn.desk).kept;
  counted : HasSameCounts (g.D.Desk.view l.fn.desk) (g.D.Desk.view l.desk);
  stays : Preserves g.D.Desk.started_as l.fn.desk l.desk;
  bound : length l.bytes ≤ l.limit + 4096;
}

abbrev pub decreases-pieces : goal.decreases-pieces
decreases-pieces g l = l.limit + 1 - length l.bytes
