use Rattle.avr_laws.proofs.Table.Emulated.{emulated_meets}
use Rattle.avr_laws.proofs.any_programmer.the_emulated_programmer_keeps_the_table.Goals as goal

pub returns : goal.returns
returns c = record { keeps = λ part sound. emulated_meets part sound _ }
