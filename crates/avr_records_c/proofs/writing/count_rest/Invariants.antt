use Rattle.std.proofs.Common.{◌≡◌, ◌+◌, length}
use Rattle.avr_records.specs.Writing.{text_left}
use Rattle.avr_records_c.proofs.writing.count_rest.Given as goal

abbrev pub invariant-lines : goal.invariant-lines
invariant-lines l = l.count + length (text_left l.left l.memory) ≡ length (text_left l.fn.lines l.memory)

abbrev pub decreases-lines : goal.decreases-lines
decreases-lines l = length (text_left l.left l.memory)
