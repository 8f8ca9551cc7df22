use Rattle.std.proofs.Common.{rules}
use Rattle.stk_emu.proofs.Replies.Texts.{found_frames, found_few, reply_ends, is_fed, emulated, none_found}
use Rattle.stk_emu.proofs.emulator.Emulator.feed.Goals as goal

pub returns-clause-all : goal.returns-clause-all
returns-clause-all c = search (rules, none_found)

pub returns-clause-one : goal.returns-clause-one
returns-clause-one c = rw (← c.self.view_is) (search (rules, found_frames, found_few, reply_ends))

pub returns-clause-fed : goal.returns-clause-fed
returns-clause-fed c = λ p text f. is_fed _ _ _ _ p text (returns-clause-one c) f

pub returns-clause-emulated : goal.returns-clause-emulated
returns-clause-emulated c = λ p text f. emulated _ _ _ _ p text (returns-clause-one c) f
