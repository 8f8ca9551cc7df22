use Rattle.std.proofs.Common.{◌≤◌, ◌+◌}
use Rattle.avr_io.specs.Fault.{HasSameCounts}
use Rattle.avr_plan.specs.Intake.{record_bytes_fed}
use Rattle.ghosts.specs.Preserves.{Preserves}
use Rattle.avr_plan.proofs.Files.Images.{FedSoFar}
use Rattle.avr_plan.proofs.image_file.read_rest.Given as goal

abbrev pub invariant-pieces : goal.invariant-pieces
invariant-pieces g l = record {
  going : FedSoFar (g.D.Desk.view l.initial.desk) (g.D.Desk.view l.desk) l.initial.intake l.intake l.initial.left
      l.left;
  same : HasSameCounts (g.D.Desk.view l.initial.desk) (g.D.Desk.view l.desk);
  room : record_bytes_fed l.intake + l.left ≤ record_bytes_fed l.initial.intake + l.initial.left;
  stays : Preserves g.D.Desk.started_as l.initial.desk l.desk;
}

abbrev pub decreases-pieces : goal.decreases-pieces
decreases-pieces g l = l.left
