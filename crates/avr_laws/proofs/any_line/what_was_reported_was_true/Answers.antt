use Rattle.avr_laws.proofs.AnyWire.{played_truly, stopped_truly}
use Rattle.avr_laws.proofs.any_line.what_was_reported_was_true.Goals as goal

pub returns-clause-played : goal.returns-clause-played
returns-clause-played c = played_truly

pub returns-clause-stopped : goal.returns-clause-stopped
returns-clause-stopped c = stopped_truly
