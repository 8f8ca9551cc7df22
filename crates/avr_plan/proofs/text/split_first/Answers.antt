use Rattle.avr_plan.proofs.TextCuts.{splits_first}
use Rattle.avr_plan.proofs.text.split_first.Goals as goal

pub returns : goal.returns
returns c = splits_first c.args.text.now c.split_once.result c.split_once.ensures.cases
