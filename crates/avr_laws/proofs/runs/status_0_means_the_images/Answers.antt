use Rattle.avr_laws.proofs.Table.Kept.{promised_by_any}
use Rattle.avr_laws.proofs.runs.status_0_means_the_images.Goals as goal

pub returns : goal.returns
returns g c =
    let t = g.T.AnyProgrammer in
    record { promise = promised_by_any t.part t.device t.view t.IsIn t.IsReady t.becomes _ _ _ _ c.run.ensures.runs }
