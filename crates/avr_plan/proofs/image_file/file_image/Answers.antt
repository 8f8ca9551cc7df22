use Rattle.std.proofs.Common.{refl, rules}
use Rattle.avr_plan.proofs.Stages.ReportedAs.{fault_since}
use Rattle.avr_plan.proofs.Stages.Images.{file_image_made, warning_fails, file_image_refused, file_image_lacks_room}
use Rattle.avr_plan.proofs.Files.Sizes.{image-size}
use Rattle.avr_plan.proofs.image_file.file_image.Goals as goal

pub returns-in-Ok-warn_of_ending-clause-goes : goal.returns-in-Ok-warn_of_ending-clause-goes
returns-in-Ok-warn_of_ending-clause-goes g c =
    search (rules, file_image_made, c.in-Ok.ensures.read, c.in-Ok.ensures.sound, c.in-Ok-warn_of_ending.ensures.goes)

pub returns-in-Ok-warn_of_ending-clause-sized : goal.returns-in-Ok-warn_of_ending-clause-sized
returns-in-Ok-warn_of_ending-clause-sized g c = let reads = c.in-Ok.ensures.read in search (rules, image-size)

pub returns-in-Err-warn_of_ending-clause-goes : goal.returns-in-Err-warn_of_ending-clause-goes
returns-in-Err-warn_of_ending-clause-goes g c =
    search (rules, warning_fails, c.in-Ok.ensures.read, c.in-Ok.ensures.sound, c.in-Err-warn_of_ending.ensures.goes)

pub returns-then-is_err-clause-goes : goal.returns-then-is_err-clause-goes
returns-then-is_err-clause-goes g c =
    file_image_lacks_room c.args.switches _ _ c.args.size _ _ _ _ _ _ c.in-Ok.ensures.read c.in-Ok.ensures.sound refl
    (rw c.memory_message.ensures at c.refuse.ensures.notice)

pub returns-in-Err-clause-goes : goal.returns-in-Err-clause-goes
returns-in-Err-clause-goes g c =
    file_image_refused c.args.switches _ _ c.args.size _ _ _ _ _ c.in-Err.ensures.read c.in-Err.ensures.follows
    c.in-Err.ensures.counted refl (rw c.image_message.ensures at c.refuse-in-Err.ensures.notice)

pub returns-in-Err-warn_of_ending-clause-notice : goal.returns-in-Err-warn_of_ending-clause-notice
returns-in-Err-warn_of_ending-clause-notice g c = λ update named.
    search (rules, fault_since, c.in-Ok.ensures.sound, c.in-Err-warn_of_ending.ensures.notice)
