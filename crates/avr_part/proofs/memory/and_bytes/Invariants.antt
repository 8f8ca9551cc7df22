use Rattle.std.proofs.Common.{◌≡◌, ◌<◌, ◌≤◌, ◌+◌, ◌-◌, ℕ, length, get_or, bit_and}
use Rattle.avr_part.specs.Memory.{AreBytes}
use Rattle.avr_part.proofs.memory.and_bytes.Given as goal

abbrev pub invariant-loop-i : goal.invariant-loop-i
invariant-loop-i l = record {
  small : AreBytes l.bytes;
  same_length : length l.bytes ≡ length l.initial.bytes;
  before : (a : ℕ) → a < l.start → get_or l.bytes a 0 ≡ get_or l.initial.bytes a 0;
  within : (a : ℕ) → l.start ≤ a → a < l.start + l.i
      → get_or l.bytes a 0 ≡ bit_and (get_or l.initial.bytes a 0) (get_or l.page (a - l.start) 0);
  after : (a : ℕ) → l.start + l.i ≤ a → get_or l.bytes a 0 ≡ get_or l.initial.bytes a 0;
}
