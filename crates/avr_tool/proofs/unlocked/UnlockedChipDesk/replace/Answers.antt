-- The clauses of `Unlocked::replace`, at each exit where no search finds the proof.
use Rattle.std.proofs.Common.{inr, rules}
use Rattle.avr_tool.proofs.Reopened.{replaced_kept, tried_kept, writes_whole, writes_part}
use Rattle.avr_tool.proofs.unlocked.UnlockedChipDesk.replace.Goals as goal

pub returns-in-Ok-clause-kept : goal.returns-in-Ok-clause-kept
returns-in-Ok-clause-kept g c = rw (c.note.ensures, ← c.self.view_is) (search (rules, replaced_kept))

pub returns-in-Err-clause-kept : goal.returns-in-Err-clause-kept
returns-in-Err-clause-kept g c = inr (rw (c.note-in-Err.ensures, ← c.self.view_is) (search (rules, tried_kept)))

pub returns-in-Ok-clause-writes : goal.returns-in-Ok-clause-writes
returns-in-Ok-clause-writes g c = rw (c.note.ensures, ← c.self.view_is) (search (rules, writes_whole))

pub returns-in-Err-clause-writes : goal.returns-in-Err-clause-writes
returns-in-Err-clause-writes g c = inr (rw (c.note-in-Err.ensures, ← c.self.view_is) (search (rules, writes_part)))
