use Rattle.std.proofs.Common.{rules}
use Rattle.stk_host.specs.Steps.{play}
use Rattle.stk_host.specs.Operations.{closing, no_result, erasing}
use Rattle.stk_host.specs.Bound.{erasing_steps, closing_steps}
use Rattle.stk_host.proofs.Dialogs.Questions.{bounded, play_most, operation_most, opening_most, closing_most, writing_most}
use Rattle.stk_host.proofs.laws.a_call_sends_at_most_four_times_its_commands.Goals as goal

pub returns-clause-plays : goal.returns-clause-plays
returns-clause-plays c = λ steps before. bounded steps (play steps before) (play_most steps before)

pub returns-clause-opens : goal.returns-clause-opens
returns-clause-opens c = search (rules, bounded, opening_most)

pub returns-clause-erases : goal.returns-clause-erases
returns-clause-erases c = bounded erasing_steps erasing (operation_most erasing_steps no_result)

pub returns-clause-writes : goal.returns-clause-writes
returns-clause-writes c = search (rules, bounded, writing_most)

pub returns-clause-reads : goal.returns-clause-reads
returns-clause-reads c = search (rules, bounded, operation_most)

pub returns-clause-verifies : goal.returns-clause-verifies
returns-clause-verifies c = search (rules, bounded, operation_most)

pub returns-clause-closes : goal.returns-clause-closes
returns-clause-closes c = bounded closing_steps closing closing_most
