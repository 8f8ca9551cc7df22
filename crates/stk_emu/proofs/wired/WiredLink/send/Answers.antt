use Rattle.std.proofs.Common.{take, rules}
use Rattle.stk_emu.proofs.Replies.Texts.{found_frames}
use Rattle.stk_emu.proofs.Wires.Kept.{keeps_sending}
use Rattle.stk_emu.proofs.wired.WiredLink.send.Goals as goal

pub returns-clause-passes : goal.returns-clause-passes
returns-clause-passes g c = rw (← c.self.view_is) (search (rules, found_frames))

pub returns-clause-comes : goal.returns-clause-comes
returns-clause-comes g c = λ start keeps.
    keeps_sending c.args.self.now _ (take c.feed-used.result.0 c.args.bytes.now) start.programmer start.fates
    (returns-clause-passes g c) keeps
