use Rattle.std.proofs.Common.{length, take, ◌-◌, ◌≤◌}
use Rattle.stk_emu.specs.Emulator.{AppendsReplies}
use Rattle.stk_emu.proofs.emulator.Emulator.reply_to_all.Given as goal

abbrev pub invariant-loop-used : goal.invariant-loop-used
invariant-loop-used l = record {
  within : l.used ≤ length l.bytes;
  appends : AppendsReplies l.fn.self (take l.used l.bytes) l.self l.fn.replies.items l.replies.items;
}

abbrev pub decreases-loop-used : goal.decreases-loop-used
decreases-loop-used l = length l.bytes - l.used
