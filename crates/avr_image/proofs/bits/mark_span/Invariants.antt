use Rattle.std.proofs.Common.{◌≡◌, ◌-◌, ◌≤◌, ◌||◌, ℕ, length}
use Rattle.avr_image.specs.Present.{is_present, is_within}
use Rattle.avr_image.proofs.bits.mark_span.Given as goal

abbrev pub decreases-loop-at : goal.decreases-loop-at
decreases-loop-at l = l.end - l.at

abbrev pub invariant-loop-at : goal.invariant-loop-at
invariant-loop-at l = record {
  after : l.from ≤ l.at;
  within : l.at ≤ l.end;
  len : length l.words.items ≡ length l.initial.words.items;
  marked : (k : ℕ) → is_present l.words.items k ≡ (is_within l.from l.at k || is_present l.initial.words.items k);
}
