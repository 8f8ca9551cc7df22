use Rattle.avr_plan.proofs.Files.Prefixes.{record-decides}
use Rattle.avr_plan.proofs.intake.Intake.fed.Goals as goal

pub returns-in-Err-clause-feeds : goal.returns-in-Err-clause-feeds
returns-in-Err-clause-feeds c = λ found size text was_fed.
    let reads = rw c.in-Records.is at was_fed in
    record-decides found size _ _ text c.args.piece.now reads (c.in-Err.ensures.of_text text reads.stands)
