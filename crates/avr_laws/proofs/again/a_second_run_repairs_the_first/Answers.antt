use Rattle.std.proofs.Common.{rules}
use Rattle.avr_laws.proofs.SecondRun.ErasesTwice.{plan_again}
use Rattle.avr_laws.proofs.again.a_second_run_repairs_the_first.Goals as goal

pub returns : goal.returns
returns c = search (rules, plan_again)
