use Rattle.avr_records.proofs.Readers.NeededSize.{enough}
use Rattle.avr_records.proofs.needed.a_needed_size_is_the_least.Goals as goal

pub returns-clause-enough : goal.returns-clause-enough
returns-clause-enough c = enough
