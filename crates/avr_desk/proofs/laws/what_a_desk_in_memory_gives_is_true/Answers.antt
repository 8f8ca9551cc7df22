use Rattle.avr_desk.proofs.Desks.InMemory.{all_true}
use Rattle.avr_desk.proofs.laws.what_a_desk_in_memory_gives_is_true.Goals as goal

pub returns-clause-gives : goal.returns-clause-gives
returns-clause-gives c = λ stock holds. all_true stock c.args.after.now (c.requires stock holds)
