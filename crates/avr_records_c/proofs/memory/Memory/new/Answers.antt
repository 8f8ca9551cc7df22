use Rattle.std.proofs.Common.{rules}
use Rattle.avr_records_c.proofs.Walks.{length_image}
use Rattle.avr_records_c.proofs.memory.Memory.new.Goals as goal

pub returns-clause-short : goal.returns-clause-short
returns-clause-short c = search (rules, length_image)
