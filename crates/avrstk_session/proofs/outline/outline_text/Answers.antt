use Rattle.std.proofs.Common.{rules, append_assoc, append-nil}
use Rattle.std.proofs.lemmas.List.{drop_more, drop_all}
use Rattle.avrstk_session.proofs.outline.outline_text.Goals as goal

pub loop-task-init : goal.loop-task-init
loop-task-init c = search (rules, append_assoc)

pub loop-task-preserved : goal.loop-task-preserved
loop-task-preserved c = search (rules, drop_more, append_assoc)

pub returns : goal.returns
returns c = search (rules, drop_all, append-nil)
