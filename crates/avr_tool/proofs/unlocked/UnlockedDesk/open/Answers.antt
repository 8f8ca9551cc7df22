-- The clauses of `Unlocked::open`, at each exit where no search finds the proof.
use Rattle.std.proofs.Common.{rules}
use Rattle.avr_tool.proofs.Reopened.{opened_kept}
use Rattle.avr_tool.proofs.unlocked.UnlockedDesk.open.Goals as goal

pub returns-clause-kept : goal.returns-clause-kept
returns-clause-kept g c = search (rules, opened_kept)
