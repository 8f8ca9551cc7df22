use Rattle.std.proofs.Common.{rules}
use Rattle.avr_laws.proofs.Lines.AnyTape.{goes_as, through_after}
use Rattle.avr_laws.proofs.conversations.over_any_tape_a_conversation_follows_its_exchanges.Goals as goal

pub returns-clause-goes : goal.returns-clause-goes
returns-clause-goes g c = search (rules, goes_as)

pub returns-clause-got : goal.returns-clause-got
returns-clause-got g c = search (rules, through_after)
