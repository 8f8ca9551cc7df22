use Rattle.std.proofs.Common.{◌≡◌, length, take, ◌-◌, ◌≤◌}
use Rattle.stk_host.specs.Tape.{leading_bytes}
use Rattle.stk_host.proofs.tape_link.copy_bytes.Given as goal

abbrev pub invariant-loop-count : goal.invariant-loop-count
invariant-loop-count l = record {
  in_range : l.count ≤ length l.buffer;
  there : l.count ≤ length (leading_bytes l.tape);
  copied : take l.count l.buffer ≡ take l.count (leading_bytes l.tape);
}

abbrev pub decreases-loop-count : goal.decreases-loop-count
decreases-loop-count l = length l.buffer - l.count
