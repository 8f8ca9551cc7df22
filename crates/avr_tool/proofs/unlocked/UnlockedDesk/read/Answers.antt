-- The clauses of `Unlocked::read`, at each exit where no search finds the proof.
use Rattle.std.proofs.Common.{rules}
use Rattle.avr_tool.proofs.Reopened.{read_kept, reads_kept}
use Rattle.avr_tool.proofs.unlocked.UnlockedDesk.read.Goals as goal

pub returns-then-has_file-clause-kept : goal.returns-then-has_file-clause-kept
returns-then-has_file-clause-kept g c =
    let has = rw (c.has_file.ensures, ← c.self.view_is) at c.if-has_file.true in
    rw (← c.self.view_is) (search (rules, read_kept))

pub returns-then-has_file-clause-has_file : goal.returns-then-has_file-clause-has_file
returns-then-has_file-clause-has_file g c =
    let has = rw (c.has_file.ensures, ← c.self.view_is) at c.if-has_file.true in
    rw (← c.self.view_is) (reads_kept c.read.result c.self.inside.is_open c.self.inside.is_broken
    c.self.inside.notes.noted (g.D.Desk.view c.self.inside.inner).kept has c.read.ensures.has_file)
