-- The clauses of `check_part`, at each exit where no search finds the proof.
use Rattle.std.proofs.Common.{rules}
use Rattle.avr_tool.proofs.served_run.check_part.Goals as goal

pub returns-in-Err-hold_chip-clause-checks_out : goal.returns-in-Err-hold_chip-clause-checks_out
returns-in-Err-hold_chip-clause-checks_out g c =
    let found = c.in-Ok.ensures.goes in
    let loads = rw c.chip_file.ensures at c.in-Err-hold_chip.ensures.loads in search rules
