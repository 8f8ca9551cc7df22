use Rattle.std.proofs.Common.{◌≡◌, ◌≤◌, ◌-◌, length, false}
use Rattle.avr_io.specs.Fault.{HasSameCounts}
use Rattle.avr_io.specs.Files.{after_reading}
use Rattle.ghosts.specs.Preserves.{Preserves}
use Rattle.avr_plan.proofs.image_file.read_first_bytes.Given as goal

abbrev pub invariant-prefix : goal.invariant-prefix
invariant-prefix g l = record {
  read : (g.D.Desk.view l.desk).kept ≡ after_reading l.bytes.items false (g.D.Desk.view l.initial.desk).kept;
  same : HasSameCounts (g.D.Desk.view l.initial.desk) (g.D.Desk.view l.desk);
  bound : length l.bytes.items ≤ 1024;
  stays : Preserves g.D.Desk.started_as l.initial.desk l.desk;
}

abbrev pub decreases-prefix : goal.decreases-prefix
decreases-prefix g l = 1024 - length l.bytes.items
