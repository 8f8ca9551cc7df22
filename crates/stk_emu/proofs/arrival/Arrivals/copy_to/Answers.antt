use Rattle.std.proofs.Common.{rules}
use Rattle.std.proofs.lemmas.List.{take_at}
use Rattle.stk_emu.proofs.Wires.Waiting.{bytes_taken}
use Rattle.stk_emu.proofs.arrival.Arrivals.copy_to.Goals as goal

pub returns-clause-taken : goal.returns-clause-taken
returns-clause-taken c = search (rules, take_at, bytes_taken)
