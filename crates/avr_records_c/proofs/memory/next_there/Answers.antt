use Rattle.std.proofs.lemmas.Grind.{common_steps}
use Rattle.std.proofs.Common.{arith}
use Rattle.avr_records_c.proofs.RoundTrip.{is_memory}
use Rattle.avr_records_c.proofs.memory.next_there.Goals as goal

pub returns-then-is_marked-clause-memory : goal.returns-then-is_marked-clause-memory
returns-then-is_marked-clause-memory c = grind (arith, common_steps, is_memory)

pub returns-clause-memory : goal.returns-clause-memory
returns-clause-memory c = grind (arith, common_steps, is_memory)
