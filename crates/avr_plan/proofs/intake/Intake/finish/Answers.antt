use Rattle.std.proofs.Common.{rules}
use Rattle.avr_plan.proofs.Files.Prefixes.{decided-whole}
use Rattle.avr_plan.proofs.intake.Intake.finish.Goals as goal

pub returns-in-Faulty : goal.returns-in-Faulty
returns-in-Faulty c = search (rules, decided-whole)
