use Rattle.std.proofs.Common.{◌≡◌, ◌<◌, ℕ}
use Rattle.avr_image.specs.Image.{byte_at}
use Rattle.avr_image.proofs.image.ImagePartialEq.eq.Given as goal

abbrev pub invariant-loop-addr : goal.invariant-loop-addr
invariant-loop-addr l = (lower : ℕ) → lower < l.addr → byte_at l.self lower ≡ byte_at l.other lower
