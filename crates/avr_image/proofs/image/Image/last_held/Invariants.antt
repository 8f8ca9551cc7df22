use Rattle.std.proofs.Common.{◌≡◌, ◌≤◌, ℕ, None}
use Rattle.avr_image.specs.Image.{byte_at}
use Rattle.avr_image.proofs.image.Image.last_held.Given as goal

abbrev pub invariant-loop-end : goal.invariant-loop-end
invariant-loop-end l = (k : ℕ) → l.end ≤ k → byte_at l.self k ≡ None

abbrev pub decreases-loop-end : goal.decreases-loop-end
decreases-loop-end l = l.end
