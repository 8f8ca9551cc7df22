use Rattle.std.proofs.Common.{◌∷◌, ◌++◌, [], rules}
use Rattle.std.proofs.lemmas.Result.{err_from_is_err_and}
use Rattle.avr_session.specs.Actions.{OpenSession, erase_actions, tasks_actions}
use Rattle.avr_session.proofs.ActionByAction.Parts.{first_ends}
use Rattle.avr_session.proofs.ActionByAction.Sequences.{does_then, does_last}
use Rattle.avr_session.proofs.session.Session.work.Goals as goal

pub returns-in_err-open : goal.returns-in_err-open
returns-in_err-open g c =
    let p = err_from_is_err_and c.from_residual.result c.from_residual.ensures.1 in
    rw (p.1, p.2) (first_ends g.L.Link g.D.Desk (OpenSession ∷ []) _ c.in_err-open.ensures)

pub returns-in_err-erase_if_due : goal.returns-in_err-erase_if_due
returns-in_err-erase_if_due g c =
    let p = err_from_is_err_and c.from_residual-in_err-erase_if_due.result
    c.from_residual-in_err-erase_if_due.ensures.1 in
    let plan = c.args.self.now.plan.now in
    let erase = erase_actions plan.switches plan.tasks in
    let tasks = tasks_actions plan.switches plan.tasks in
    let does = does_then plan (OpenSession ∷ []) (erase ++ tasks) _ c.in_ok-open.ensures.performs
    (does_last plan erase tasks _ (rw c.in_ok-open.ensures.plan at c.in_err-erase_if_due.ensures.performs)) in
    rw (p.1, p.2) (search rules)

pub returns : goal.returns
returns g c =
    let plan = c.args.self.now.plan.now in
    let erase = erase_actions plan.switches plan.tasks in
    let tasks = tasks_actions plan.switches plan.tasks in
    let does = does_then plan (OpenSession ∷ []) (erase ++ tasks) _ c.in_ok-open.ensures.performs
    (does_then plan erase tasks _ (rw c.in_ok-open.ensures.plan at c.in_ok-erase_if_due.ensures.performs)
    (rw (c.tasks.ensures.value, c.in_ok-erase_if_due.ensures.plan, c.in_ok-open.ensures.plan) at
    c.perform_all.ensures.performs)) in
    search rules
