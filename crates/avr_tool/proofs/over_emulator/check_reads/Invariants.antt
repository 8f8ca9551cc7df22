-- What holds at each round of the loop in `check_reads`.
use Rattle.std.proofs.Common.{◌≡◌}
use Rattle.ghosts.specs.Preserves.{Preserves}
use Rattle.avr_tool.proofs.over_emulator.check_reads.Given as goal

abbrev pub invariant-loop-task : goal.invariant-loop-task
invariant-loop-task g l = record {
  same : g.D.Desk.view l.desk ≡ g.D.Desk.view l.initial.desk;
  stays : Preserves g.D.Desk.started_as l.initial.desk l.desk;
}
