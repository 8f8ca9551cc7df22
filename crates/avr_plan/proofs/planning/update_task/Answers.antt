use Rattle.std.proofs.Common.{refl, rules, Ok}
use Rattle.avr_io.proofs.Stages.Played.{completed_good_result, runs_first_only, runs_to_refusal, runs_without_memory}
use Rattle.avr_io.specs.Stage.{result_stage}
use Rattle.avr_plan.specs.Planning.{update_image}
use Rattle.avr_plan.specs.declared.planned.Task.TheVariants.{Write, Verify}
use Rattle.avr_plan.proofs.planning.update_task.Goals as goal

pub returns-then-not-writable-clause-goes : goal.returns-then-not-writable-clause-goes
returns-then-not-writable-clause-goes g c =
    rw (c.in-Write.is, ← c.if-not-writable.ensures) (runs_to_refusal _ _ _ _ _ refl
    (rw c.read_only_message.ensures at c.refuse.ensures.notice))

pub returns-in-Err-clause-goes : goal.returns-in-Err-clause-goes
returns-in-Err-clause-goes g c =
    let u = c.args.update.now in
    rw (c.in-Write.is, ← c.if-not-writable.ensures) (runs_first_only _ (update_image c.args.switches c.args.part.now u)
    (λ image. result_stage (Ok (Write u.memory image))) _ _ 1 c.in-Err.ensures.goes)

pub returns-in-Err-update_image-clause-goes : goal.returns-in-Err-update_image-clause-goes
returns-in-Err-update_image-clause-goes g c =
    let u = c.args.update.now in
    rw c.in-Verify.is (runs_first_only _ (update_image c.args.switches c.args.part.now u)
    (λ image. result_stage (Ok (Verify u.memory image))) _ _ 1 c.in-Err-update_image.ensures.goes)

pub returns-in-Err-read_task-clause-goes : goal.returns-in-Err-read_task-clause-goes
returns-in-Err-read_task-clause-goes g c = rw c.in-Read.is (search (rules, runs_without_memory))

pub returns-in-Ok-read_task-clause-goes : goal.returns-in-Ok-read_task-clause-goes
returns-in-Ok-read_task-clause-goes g c =
    rw (c.in-Read.is, c.in-Ok-read_task.ensures.made) (search (rules, completed_good_result))
