use Rattle.std.proofs.Common.{◌≡◌, ◌<◌, ℕ, false}
use Rattle.avr_image.specs.Overlap.{hold_both}
use Rattle.avr_image.proofs.image.Image.first_overlap.Given as goal

abbrev pub invariant-loop-addr : goal.invariant-loop-addr
invariant-loop-addr l = (lower : ℕ) → lower < l.addr → hold_both l.self l.other lower ≡ false
