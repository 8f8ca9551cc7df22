use Rattle.std.proofs.Common.{take, [], ◌-◌, ◌≤◌, length}
use Rattle.stk_frame.specs.Reader.{Fed}
use Rattle.stk_frame.proofs.reader.FrameReader.feed.Given as goal

abbrev pub invariant-loop-used : goal.invariant-loop-used
invariant-loop-used l = record { within : l.used ≤ length l.piece; fed : Fed l.fn.self (take l.used l.piece) l.self [] }

abbrev pub decreases-loop-used : goal.decreases-loop-used
decreases-loop-used l = length l.piece - l.used
