use Rattle.std.proofs.Common.{◌∙◌, refl, rules}
use Rattle.avr_plan.proofs.Stages.Plans.{plan_lacks_parts, plan_lacks_part, plan_lacks_tasks, plan_made}
use Rattle.avr_plan.proofs.planning.plan_or_fault.Goals as goal

pub returns-in-Err-clause-goes : goal.returns-in-Err-clause-goes
returns-in-Err-clause-goes g c = plan_lacks_parts c.args.settings.now _ _ 1 c.in-Err.ensures.goes

pub returns-in-Err-chosen_part-clause-goes : goal.returns-in-Err-chosen_part-clause-goes
returns-in-Err-chosen_part-clause-goes g c =
    plan_lacks_part c.args.settings.now _ _ _ 1 c.in-Ok.parts c.in-Ok.ensures.goes
    (refl, (rw c.as_str.ensures at c.in-Err-chosen_part.ensures.goes).1)

pub returns-in-Err-update_tasks-clause-goes : goal.returns-in-Err-update_tasks-clause-goes
returns-in-Err-update_tasks-clause-goes g c =
    plan_lacks_tasks _ _ _ _ _ 1 _ _ c.in-Ok.ensures.goes (rw c.as_str.ensures at c.in-Ok-chosen_part.ensures.goes)
    (rw c.as_slice.ensures at c.in-Err-update_tasks.ensures.goes)

pub returns-clause-goes : goal.returns-clause-goes
returns-clause-goes g c =
    let found = rw c.as_str.ensures at c.in-Ok-chosen_part.ensures.goes in
    let made = rw c.as_slice.ensures at c.in-Ok-update_tasks.ensures.goes in
    search (rules, plan_made, c.in-Ok.ensures.goes)

pub returns-in-Err-clause-bare : goal.returns-in-Err-clause-bare
returns-in-Err-clause-bare g c = λ none empty. let given = (c.in-Err.ensures.none none).0 in absurd (cc)

pub returns-in-Err-update_tasks-clause-bare : goal.returns-in-Err-update_tasks-clause-bare
returns-in-Err-update_tasks-clause-bare g c = λ none empty. let made =
    c.in-Err-update_tasks.ensures.none (c.as_slice.ensures ∙ empty) in absurd (cc)
