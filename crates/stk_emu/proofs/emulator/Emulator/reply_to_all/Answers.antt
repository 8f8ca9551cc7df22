use Rattle.std.proofs.Common.{rules, [], ◌≡◌, ◌++◌, arith, take_all}
use Rattle.std.proofs.lemmas.List.{take_rest}
use Rattle.std.proofs.lemmas.Result.{err_from_is_err_and}
use Rattle.stk_frame.proofs.FedReaders.{within_span}
use Rattle.stk_emu.proofs.Replies.Texts.{appends_none, appends_one, appends_on, appends_fed, appends_all}
use Rattle.stk_emu.proofs.emulator.Emulator.reply_to_all.Goals as goal

pub loop-used-init : goal.loop-used-init
loop-used-init c = record { within = omega arith; appends = appends_none c.args.self.now c.args.replies.now.items }

pub loop-used-preserved : goal.loop-used-preserved
loop-used-preserved c =
    let put : c.extend_from_slice-there_is_room.new.self.items
    ≡ c.loop-used.replies.items ++ c.feed-used.new.out.items = search rules in
    let one = appends_one _ _ _ c.feed-used.new.out.items c.loop-used.replies.items _ c.feed-used.ensures.one put in
    search (rules, take_rest, within_span, appends_on)

pub returns-clause-appends : goal.returns-clause-appends
returns-clause-appends c = search (rules, take_all)

pub returns-clause-fed : goal.returns-clause-fed
returns-clause-fed c = λ p text f. appends_fed _ _ _ _ _ p text (returns-clause-appends c) f

pub returns-clause-all : goal.returns-clause-all
returns-clause-all c = λ p text f e. appends_all _ _ _ _ _ p text [] (returns-clause-appends c) f e

pub returns-in_err-reserve-clause-prefix : goal.returns-in_err-reserve-clause-prefix
returns-in_err-reserve-clause-prefix c =
    let p = err_from_is_err_and c.from_residual.result c.from_residual.ensures.1 in
    rw p.1
    (rw c.in_err-reserve.ensures.items
    (record { count = _; some_left = c.loop-used-test.true; appends = c.loop-used.invariant.appends }))
