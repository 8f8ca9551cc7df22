use Rattle.std.proofs.Common.{◌≡◌, ◌<◌, ◌≤◌, ◌+◌, ◌-◌, ℕ, length, get_or, unwrap_or, None}
use Rattle.avr_part.specs.Memory.{AreBytes}
use Rattle.avr_part.proofs.memory.Memory.overlay_page.Given as goal

abbrev pub invariant-loop-place : goal.invariant-loop-place
invariant-loop-place l = record {
  small : AreBytes l.self-inside.bytes.items;
  same_length : length l.self-inside.bytes.items ≡ length l.initial.self-inside.bytes.items;
  before : (a : ℕ) → a < l.start → get_or l.self-inside.bytes.items a 0 ≡ get_or l.initial.self-inside.bytes.items a 0;
  within : (a : ℕ) → l.start ≤ a → a < l.start + l.place
      → get_or l.self-inside.bytes.items a 0 ≡ unwrap_or (get_or l.loads (a - l.start) None)
      (get_or l.initial.self-inside.bytes.items a 0);
  after : (a : ℕ) → l.start + l.place ≤ a → get_or l.self-inside.bytes.items a 0
      ≡ get_or l.initial.self-inside.bytes.items a 0;
}
