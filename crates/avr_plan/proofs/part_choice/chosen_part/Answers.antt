use Rattle.std.proofs.Common.{sym, ap, false}
use Rattle.avr_io.specs.StageRuns.{OnlyAtStart}
use Rattle.avr_io.specs.Lines.{error}
use Rattle.avr_plan.specs.Lines.{no_part_pieces}
use Rattle.avr_plan.specs.Planning.{or_line}
use Rattle.avr_io.proofs.Stages.Played.{completed_good_result, runs_bad_result}
use Rattle.avr_plan.proofs.part_choice.chosen_part.Goals as goal

pub returns-in-Ok-clause-goes : goal.returns-in-Ok-clause-goes
returns-in-Ok-clause-goes g c =
    completed_good_result _ _ _ (ap (or_line (λ fault. no_part_pieces _)) (sym c.in-Ok.ensures.value))

pub returns-in-Err-clause-goes : goal.returns-in-Err-clause-goes
returns-in-Err-clause-goes g c =
    runs_bad_result (OnlyAtStart false) _ (error (no_part_pieces _)) _ _ _
    (ap (or_line (λ fault. no_part_pieces _)) (sym c.in-Err.ensures.value))
    c.refuse.ensures.status (rw c.no_part_message.ensures at c.refuse.ensures.notice)
