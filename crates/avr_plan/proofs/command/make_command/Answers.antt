use Rattle.std.proofs.Common.{rules}
use Rattle.avr_plan.specs.Command.{avrstk, options}
use Rattle.avr_plan.proofs.command.make_command.Goals as goal

pub returns-clause-app : goal.returns-clause-app
unfolding avrstk options
returns-clause-app c = search rules
