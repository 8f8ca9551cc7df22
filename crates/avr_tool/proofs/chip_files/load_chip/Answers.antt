-- The clauses of `load_chip`, at each exit where no search finds the proof.
use Rattle.std.proofs.Common.{refl, true, rules}
use Rattle.avr_io.specs.StageRuns.{OnlyAtStart}
use Rattle.avr_io.specs.declared.record.Opening.TheVariants.{Absent}
use Rattle.avr_io.proofs.Stages.Openings.{breaks_as, runs_open, runs_until_break}
use Rattle.avr_tool.specs.Loading.{AtOpened, chip_given}
use Rattle.avr_tool.proofs.Chips.{opened_at, ended_file_checked, long_file_refused}
use Rattle.avr_tool.proofs.chip_files.load_chip.Goals as goal

pub returns-in-Absent-clause-goes : goal.returns-in-Absent-clause-goes
returns-in-Absent-clause-goes g c =
    runs_open (OnlyAtStart true) AtOpened c.args.file.now (chip_given c.args.part.now c.args.file.now)
    (Absent c.args.file.now) _ _ _ _ refl (rw c.in-Absent.is at c.in-Err.ensures.kept)
    (rw c.in-Absent.is at c.in-Err.ensures.counts).1 (opened_at (Absent c.args.file.now)) c.fresh_chip.ensures.goes

pub returns-in_default-clause-goes : goal.returns-in_default-clause-goes
returns-in_default-clause-goes g c =
    let counts = c.in-Err.ensures.counts in
    runs_until_break AtOpened c.args.file.now (chip_given c.args.part.now c.args.file.now) c.in-Err.fault _ _ _ _
    c.in_default.not-Absent (breaks_as _ _ _ c.in-Err.fault c.in-Err.ensures.kept) counts.0
    counts.1 (search rules) (rw c.file_message.ensures at c.refuse.ensures.notice)

pub returns-then-not-contents-clause-goes : goal.returns-then-not-contents-clause-goes
returns-then-not-contents-clause-goes g c =
    let notice = rw c.too_long_message.ensures at c.refuse-then-not-contents.ensures.notice in
    search (rules, long_file_refused, c.in-Ok.ensures.kept, c.in-Ok.ensures.whole, c.in-Ok.ensures.counts.1)

pub returns-clause-goes : goal.returns-clause-goes
returns-clause-goes g c =
    let goes = rw c.as_slice.ensures at c.chip_of.ensures.goes in
    search (rules, ended_file_checked, c.in-Ok.ensures.kept, c.in-Ok.ensures.whole, c.in-Ok.ensures.counts.1)
