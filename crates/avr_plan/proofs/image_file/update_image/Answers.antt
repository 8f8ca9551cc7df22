use Rattle.std.proofs.Common.{refl, sym, rules}
use Rattle.avr_part.specs.Part.{size_of}
use Rattle.avr_plan.proofs.Stages.Tasks.{stage_of_file_image}
use Rattle.avr_plan.proofs.Stages.Values.{values_made, bad_values_refused, values_lack_room}
use Rattle.avr_plan.proofs.image_file.update_image.Goals as goal

pub returns-in_default-clause-goes : goal.returns-in_default-clause-goes
returns-in_default-clause-goes g c = search (rules, stage_of_file_image)

pub returns-in_default-clause-notice : goal.returns-in_default-clause-notice
returns-in_default-clause-notice g c = c.file_image.ensures.notice c.args.update.now (sym c.as_str-text.ensures)

pub returns-in-Ok-clause-goes : goal.returns-in-Ok-clause-goes
returns-in-Ok-clause-goes g c =
    let value = rw (c.as_str-text.ensures, c.size_of-size.ensures.value) at c.in-Ok.ensures.value in
    rw c.in-Immediate.is (values_made c.args.switches c.args.update.now.memory
    (size_of c.args.update.now.memory c.args.part.now) c.args.update.now.file _ _ value)

pub returns-in-Err-clause-goes : goal.returns-in-Err-clause-goes
returns-in-Err-clause-goes g c =
    let value = rw (c.as_str-text.ensures, c.size_of-size.ensures.value) at c.in-Err.ensures.value in
    rw c.in-Immediate.is (bad_values_refused c.args.switches c.args.update.now.memory
    (size_of c.args.update.now.memory c.args.part.now) c.args.update.now.file _ _ 1 _ value refl
    (rw c.values_message.ensures at c.refuse-in-Err.ensures.notice))

pub returns-then-is_err-clause-goes : goal.returns-then-is_err-clause-goes
returns-then-is_err-clause-goes g c =
    rw c.in-Immediate.is (values_lack_room c.args.switches c.args.update.now.memory
    (size_of c.args.update.now.memory c.args.part.now) c.args.update.now.file _ _ 1 refl
    (rw c.memory_message.ensures at c.refuse.ensures.notice))
