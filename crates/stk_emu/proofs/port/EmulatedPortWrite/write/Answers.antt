use Rattle.std.proofs.Common.{rules, ap, ◌∙◌, ◌++◌}
use Rattle.stk_emu.proofs.Replies.Texts.{appends_one, appends_fed, appends_all}
use Rattle.stk_emu.proofs.port.EmulatedPortWrite.write.Goals as goal

pub returns-clause-replies : goal.returns-clause-replies
returns-clause-replies c =
    rw (← c.self.view_is)
    (appends_one _ _ _ c.feed-used.new.out.items c.self.inside.waits.items _ c.feed-used.ensures.one
    (c.append.ensures
    ∙ (ap (λ o. o ++ c.as_slice.result.now) c.reserve.ensures.items
    ∙ ap (λ o. c.self.inside.waits.items ++ o) c.as_slice.ensures.value)))

pub returns-clause-passed : goal.returns-clause-passed
returns-clause-passed c = λ p written given passed.
    let replies = returns-clause-replies c in search (rules, appends_fed, appends_all)
