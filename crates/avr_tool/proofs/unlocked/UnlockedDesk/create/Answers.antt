-- The clauses of `Unlocked::create`, at each exit where no search finds the proof.
use Rattle.avr_tool.proofs.Reopened.{created_kept}
use Rattle.avr_tool.proofs.unlocked.UnlockedDesk.create.Goals as goal

pub returns-clause-kept : goal.returns-clause-kept
returns-clause-kept g c = rw (← c.self.view_is) (created_kept c.args.name.now c.self.inside.is_open c.self.inside.is_broken
    c.self.inside.notes.noted _ _ c.if-self.false c.in_ok-create.ensures.kept)
