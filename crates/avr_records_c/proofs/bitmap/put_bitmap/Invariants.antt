use Rattle.std.proofs.Common.{◌≡◌, ◌-◌, ◌≤◌, length}
use Rattle.avr_records_c.proofs.Maps.{PutUpTo}
use Rattle.avr_records_c.proofs.bitmap.put_bitmap.Given as goal

abbrev pub invariant-loop-next : goal.invariant-loop-next
invariant-loop-next l = record {
  same_length : length l.present ≡ length l.initial.present;
  within : l.next ≤ length l.present;
  so_far : PutUpTo l.image l.next l.present;
}

abbrev pub decreases-loop-next : goal.decreases-loop-next
decreases-loop-next l = length l.present - l.next
