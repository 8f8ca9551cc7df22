use Rattle.std.proofs.Common.{◌≡◌, ◌+◌, ◌-◌, ◌≤◌, length, drop}
use Rattle.avr_image.specs.Runs.{leading_run}
use Rattle.avr_records_c.specs.Bitmap.{image_of}
use Rattle.avr_records_c.proofs.memory.row_end.Given as goal

abbrev pub invariant-row : goal.invariant-row
invariant-row l = record {
  rises : l.addr ≤ l.end;
  bound : l.end ≤ l.stop;
  run :
      l.addr + length (leading_run (drop l.addr (image_of l.present l.bytes)))
      ≡ l.end + length (leading_run (drop l.end (image_of l.present l.bytes)));
}

abbrev pub decreases-row : goal.decreases-row
decreases-row l = l.stop - l.end
