use Rattle.std.proofs.Common.{◌≡◌, ◌-◌, ◌<◌, ◌≤◌, ℕ, not}
use Rattle.avr_image.specs.Present.{is_present}
use Rattle.avr_image.proofs.bits.first_place.Given as goal

abbrev pub decreases-loop-at : goal.decreases-loop-at
decreases-loop-at l = l.end - l.at

abbrev pub invariant-loop-at : goal.invariant-loop-at
invariant-loop-at l = record {
  after : l.from ≤ l.at;
  others : (k : ℕ) → l.from ≤ k → k < l.at → is_present l.words k ≡ not l.wanted;
}
