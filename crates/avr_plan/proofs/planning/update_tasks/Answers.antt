use Rattle.std.proofs.lemmas.Grind.{common_steps}
use Rattle.std.proofs.Common.{◌∙◌, sym, ap, arith, ◌∷◌, ◌+◌, drop, length-append, Err, slice_get, rules}
use Rattle.avr_plan.proofs.Stages.ReportedAs.{fault_since}
use Rattle.std.proofs.lemmas.List.{drop_more, drop_all}
use Rattle.std.proofs.lemmas.List.Elements.{All-append}
use Rattle.std.proofs.lemmas.Option.{slice_get-get_or}
use Rattle.avr_plan.specs.declared.update.Update.{Update}
use Rattle.avr_io.proofs.Stages.Played.{completed_without_events}
use Rattle.avr_plan.proofs.Stages.Tasks.{next_task_made, next_task_refused, all_one}
use Rattle.avr_plan.proofs.planning.update_tasks.Goals as goal

pub loop-update-preserved : goal.loop-update-preserved
loop-update-preserved g c = grind (arith, common_steps, drop_more, next_task_made, All-append, all_one, length-append)

pub returns-in-Err-clause-goes : goal.returns-in-Err-clause-goes
returns-in-Err-clause-goes g c =
    let us = c.args.updates.now in
    let i = c.loop-update.update-index in
    let u = c.update-item.result in
    let cut = drop_more us i u c.loop-update-test.true
    ∙ ap (λ (x : Update). x ∷ drop (i + 1) us) (sym c.update-item.is) in
    c.loop-update.invariant.completes _ (Err 1)
    (next_task_refused c.args.switches c.args.part.now c.loop-update.tasks.items us i u _ _ 1 cut c.in-Err.ensures.goes)

pub returns-in-Err-clause-notice : goal.returns-in-Err-clause-notice
returns-in-Err-clause-notice g c = search (rules, slice_get, slice_get-get_or, fault_since)

pub returns-clause-goes : goal.returns-clause-goes
returns-clause-goes g c =
    search (
      rules,
      drop_all,
      completed_without_events,
      c.loop-update-test.false,
      c.of.ensures,
      c.loop-update.invariant.completes,
    )
