use Rattle.avr_laws.proofs.Outcomes.Kept.{promised}
use Rattle.avr_laws.proofs.runs.status_0_means_the_images_on_an_emulated_chip.Goals as goal

pub returns : goal.returns
returns g c = record { promise = promised _ _ _ _ c.run.ensures.runs }
