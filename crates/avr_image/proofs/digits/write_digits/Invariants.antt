use Rattle.std.proofs.Common.{◌≡◌, ◌^◌, ◌<◌, ◌≤◌, length}
use Rattle.avr_image.proofs.Texts.Digits.{IsWritten}
use Rattle.avr_image.proofs.digits.write_digits.Given as goal

abbrev pub decreases-loop-buffer : goal.decreases-loop-buffer
decreases-loop-buffer l = l.at

abbrev pub invariant-loop-buffer : goal.invariant-loop-buffer
invariant-loop-buffer l = record {
  size : length l.buffer ≡ 8;
  bound : l.at ≤ 8;
  some : 0 < l.at;
  small : l.rest < 2 ^ l.at;
  written : IsWritten l.radix l.byte l.rest l.at l.buffer;
}
