-- The clauses of `Unlocked::write`, at each exit where no search finds the proof.
use Rattle.std.proofs.Common.{rules}
use Rattle.avr_tool.proofs.Reopened.{sends_kept, writes_kept}
use Rattle.avr_tool.proofs.unlocked.UnlockedDesk.write.Goals as goal

pub returns-then-has_file-clause-write : goal.returns-then-has_file-clause-write
returns-then-has_file-clause-write g c =
    let has = rw (c.has_file.ensures, ← c.self.view_is) at c.if-has_file.true in
    let u = c.self.inside in
    record {
      bound = search rules;
      kept = rw (← c.self.view_is) (sends_kept g.D.Desk.view c.args.bytes.now c.write.result (record {
        inner = u.inner;
        is_open = u.is_open;
        is_broken = u.is_broken;
        noted = u.notes.noted;
        refused = u.refused;
      }) c.write.new.self has c.write.ensures.write.kept c.write.ensures.has_file);
      call = search rules;
    }

pub returns-then-has_file-clause-has_file : goal.returns-then-has_file-clause-has_file
returns-then-has_file-clause-has_file g c =
    let has = rw (c.has_file.ensures, ← c.self.view_is) at c.if-has_file.true in
    rw (← c.self.view_is) (writes_kept c.write.result c.self.inside.is_open c.self.inside.is_broken
    c.self.inside.notes.noted (g.D.Desk.view c.self.inside.inner).kept has c.write.ensures.has_file)
