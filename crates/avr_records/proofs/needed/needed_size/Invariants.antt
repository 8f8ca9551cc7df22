use Rattle.std.proofs.Common.{◌≡◌, ◌+◌, ◌≤◌, length, false}
use Rattle.avr_records.specs.Lines.{lines}
use Rattle.avr_records.specs.Steps.{InRange}
use Rattle.avr_records.proofs.Readers.Extents.{Walked}
use Rattle.avr_records.proofs.needed.needed_size.Given as goal

abbrev pub invariant-loop-line : goal.invariant-loop-line
invariant-loop-line l = record {
  walked : Walked l.kind l.extent l.text (lines l.rest);
  goes_on : l.extent.ended ≡ false;
  range : InRange l.kind l.extent;
  room : l.extent.lines + length l.rest ≤ length l.text;
}

abbrev pub decreases-loop-line : goal.decreases-loop-line
decreases-loop-line l = length l.rest
