use Rattle.std.proofs.Common.{rules}
use Rattle.std.proofs.lemmas.List.{drop_more, drop_all}
use Rattle.std.proofs.lemmas.Result.{err_from_is_err_and}
use Rattle.avr_session.proofs.ActionByAction.Parts.{both_done, first_ends, none_done}
use Rattle.avr_session.proofs.session.Session.perform_all.Goals as goal

pub loop-task-init : goal.loop-task-init
loop-task-init g c = search rules

pub loop-task-preserved : goal.loop-task-preserved
loop-task-preserved g c = search (rules, drop_more, both_done)

pub perform-requires : goal.perform-requires
perform-requires g c = search rules

pub returns-in_err-perform : goal.returns-in_err-perform
returns-in_err-perform g c = search (rules, err_from_is_err_and, drop_more, first_ends)

pub returns : goal.returns
returns g c = search (rules, drop_all, none_done, c.loop-task-test.false, c.loop-task.invariant.completes)
