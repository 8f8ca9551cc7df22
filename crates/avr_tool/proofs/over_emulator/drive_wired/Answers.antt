-- The clauses of `drive_wired`, at each exit where no search finds the proof.
use Rattle.std.proofs.Common.{rules}
use Rattle.avr_tool.proofs.WirePlays.{over_any_line}
use Rattle.avr_tool.proofs.over_emulator.drive_wired.Goals as goal

pub returns-clause-line : goal.returns-clause-line
returns-clause-line g c =
    let sound = rw c.chip.ensures at c.is_sound-2.ensures in search (rules, over_any_line, c.drive.ensures.comes)
