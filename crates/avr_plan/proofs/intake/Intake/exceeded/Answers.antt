use Rattle.std.proofs.Common.{rules}
use Rattle.avr_plan.proofs.Files.Prefixes.{records-long, raw-too-long, decided-long}
use Rattle.avr_plan.proofs.intake.Intake.exceeded.Goals as goal

pub returns-in-Records : goal.returns-in-Records
returns-in-Records c = search (rules, records-long)

pub returns-in-Raw : goal.returns-in-Raw
returns-in-Raw c = search (rules, raw-too-long)

pub returns : goal.returns
returns c = search (rules, decided-long)
