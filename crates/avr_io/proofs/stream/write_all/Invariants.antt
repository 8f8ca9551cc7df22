use Rattle.std.proofs.Common.{◌≡◌, ◌≤◌, ◌-◌, length, take}
use Rattle.avr_io.specs.Fault.{HasSameCounts}
use Rattle.avr_io.specs.Stream.{after_sent}
use Rattle.ghosts.specs.Preserves.{Preserves}
use Rattle.avr_io.proofs.stream.write_all.Given as goal

abbrev pub invariant-loop-at : goal.invariant-loop-at
invariant-loop-at g l = record {
  within : l.at ≤ length l.bytes;
  sent : (g.D.Desk.view l.desk).kept ≡ after_sent l.fn.stream (take l.at l.bytes) (g.D.Desk.view l.initial.desk).kept;
  counted : HasSameCounts (g.D.Desk.view l.initial.desk) (g.D.Desk.view l.desk);
  stays : Preserves g.D.Desk.started_as l.initial.desk l.desk;
}

abbrev pub decreases-loop-at : goal.decreases-loop-at
decreases-loop-at g l = length l.bytes - l.at
