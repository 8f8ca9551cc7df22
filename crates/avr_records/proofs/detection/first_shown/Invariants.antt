use Rattle.std.proofs.Common.{◌≡◌, length}
use Rattle.avr_records.proofs.Readers.FirstBytes.{first_of}
use Rattle.avr_records.proofs.detection.first_shown.Given as goal

abbrev pub invariant-loop-line : goal.invariant-loop-line
invariant-loop-line l = first_of l.rest ≡ first_of l.prefix

abbrev pub decreases-loop-line : goal.decreases-loop-line
decreases-loop-line l = length l.rest
