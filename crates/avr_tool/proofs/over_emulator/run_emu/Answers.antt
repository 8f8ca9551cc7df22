-- The clauses of `run_emu`, at each exit where no search finds the proof.
use Rattle.std.proofs.Common.{inl, inr, rules}
use Rattle.avr_tool.proofs.Emulating.{runs_over_emulator}
use Rattle.avr_tool.proofs.over_emulator.run_emu.Goals as goal

pub returns-in-Err-clause-runs : goal.returns-in-Err-clause-runs
returns-in-Err-clause-runs g c =
    inr (inr (search (rules, rw c.in-Err.is at c.plan.ensures.goes, rw c.in-Err.is at c.plan.ensures.bare)))

pub returns-in-Err-take_chip-clause-runs : goal.returns-in-Err-take_chip-clause-runs
returns-in-Err-take_chip-clause-runs g c =
    let made = rw c.in-Ok.is at c.plan.ensures.goes in
    let takes = rw (c.chip_file-file.ensures, c.in-Err-take_chip.is) at c.take_chip.ensures.takes in
    inr (inl (search rules))

pub returns-clause-runs : goal.returns-clause-runs
returns-clause-runs g c =
    let begun = c.unlogged-wire.ensures in
    let made = rw c.in-Ok.is at c.plan.ensures.goes in
    let part = rw c.in-Ok-take_chip.is at c.take_chip.ensures.part in
    let takes = rw (c.chip_file-file.ensures, c.in-Ok-take_chip.is) at c.take_chip.ensures.takes in
    let saved = rw c.chip_file-file.ensures at c.save_if_sent.ensures.saved in
    let ran = c.drive_wired-status.ensures in
    inl (runs_over_emulator _ _ _ _ _ _ begun.held (rw c.none.ensures at begun.wire) begun.waits begun.transcript
    begun.sound c.is_sound.ensures part c.is_sound-2.ensures _ _ _ _ _ _ _ made takes
    c.save_if_sent.ensures.follows ran.runs ran.comes ran.line saved)

pub returns-clause-stays : goal.returns-clause-stays
returns-clause-stays g c = λ start comes.
    c.save_if_sent.ensures.stays start (c.drive_wired-status.ensures.stays start
    (c.take_chip.ensures.stays start (c.plan.ensures.stays start comes)))
