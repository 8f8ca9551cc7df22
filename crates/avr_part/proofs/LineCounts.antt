-- Lines of a text.
use Rattle.std.proofs.Common.{◌≤◌, ◌==◌, arith, cond, ℕ}
use Rattle.std.proofs.lemmas.List.Sums.{sum_by-take-le}
use Rattle.avr_part.specs.PartFile.{Bytes, line_at, line_count}

-- the line of a place is one of the text's
pub line_within : (text : Bytes) (place : ℕ) → line_at text place ≤ line_count text
line_within text place = let fewer = sum_by-take-le (λ byte. cond (byte == 10) 1 0) text place in omega (arith, fewer)
