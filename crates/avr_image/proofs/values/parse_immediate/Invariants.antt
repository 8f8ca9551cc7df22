use Rattle.std.proofs.Common.{◌≡◌, ◌+◌, length}
use Rattle.avr_image.specs.Image.{empty}
use Rattle.avr_image.specs.Values.{pieces}
use Rattle.avr_image.proofs.Texts.Values.{with_pieces}
use Rattle.avr_image.proofs.values.parse_immediate.Given as goal

abbrev pub decreases-loop-rest : goal.decreases-loop-rest
decreases-loop-rest l = length l.rest

abbrev pub invariant-loop-rest : goal.invariant-loop-rest
invariant-loop-rest l = record {
  size : length l.image ≡ l.size;
  onward : with_pieces l.image l.addr (pieces l.rest) ≡ with_pieces (empty l.size) 0 (pieces l.text);
  count : l.addr + length (pieces l.rest) ≡ length (pieces l.text);
}
