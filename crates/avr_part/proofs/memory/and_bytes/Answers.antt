use Rattle.std.proofs.Common.{rules}
use Rattle.avr_part.proofs.Changes.{changed_is, anded_is}
use Rattle.avr_part.proofs.memory.and_bytes.Goals as goal

pub returns : goal.returns
returns c = record { bytes = search (rules, changed_is, anded_is); len = search rules; small = search rules }
