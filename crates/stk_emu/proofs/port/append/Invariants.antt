-- The bytes so far are at the back, and there is room for the others.
use Rattle.std.proofs.Common.{◌≡◌, ◌+◌, ◌≤◌, ◌++◌, take}
use Rattle.std.specs.VecDeque.{deque_len, deque_capacity}
use Rattle.stk_emu.proofs.port.append.Given as goal

abbrev pub invariant-loop-byte : goal.invariant-loop-byte
invariant-loop-byte l = record {
  items : l.waits.items ≡ l.fn.waits.items ++ take l.byte-index l.bytes;
  len : deque_len l.waits ≡ deque_len l.fn.waits + l.byte-index;
  room : deque_capacity l.fn.waits ≤ deque_capacity l.waits;
}
