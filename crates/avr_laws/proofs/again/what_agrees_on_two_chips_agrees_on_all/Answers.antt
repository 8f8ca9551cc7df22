use Rattle.std.proofs.Common.{rules}
use Rattle.avr_laws.proofs.SecondRun.EveryChip.{agrees_anyway}
use Rattle.avr_laws.proofs.SecondRun.Status.{two_of_all}
use Rattle.avr_tool.proofs.Memories.ExpectedAgrees.{expected_status}
use Rattle.avr_laws.proofs.again.what_agrees_on_two_chips_agrees_on_all.Goals as goal

pub returns-clause-agrees : goal.returns-clause-agrees
returns-clause-agrees c = search (rules, agrees_anyway)

pub returns-clause-status : goal.returns-clause-status
returns-clause-status c = search (rules, expected_status, agrees_anyway)

pub returns-clause-needed : goal.returns-clause-needed
returns-clause-needed c = λ plan all. two_of_all plan all
