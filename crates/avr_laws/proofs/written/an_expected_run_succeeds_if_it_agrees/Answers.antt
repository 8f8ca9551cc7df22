use Rattle.avr_tool.proofs.Memories.ExpectedAgrees.{expected_status, expected_memories}
use Rattle.avr_laws.proofs.written.an_expected_run_succeeds_if_it_agrees.Goals as goal

pub returns-clause-status : goal.returns-clause-status
returns-clause-status c = λ plan m. expected_status plan m

pub returns-clause-memories : goal.returns-clause-memories
returns-clause-memories c = λ plan m agree. expected_memories plan m agree
