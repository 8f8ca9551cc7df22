use Rattle.std.proofs.Common.{◌≡◌, ◌<◌, ℕ, get_or, false}
use Rattle.avr_image.specs.Values.{is_separator}
use Rattle.avr_image.proofs.values.piece_len.Given as goal

abbrev pub invariant-loop-i : goal.invariant-loop-i
invariant-loop-i l = (k : ℕ) → k < l.i → is_separator (get_or l.text k 0) ≡ false
