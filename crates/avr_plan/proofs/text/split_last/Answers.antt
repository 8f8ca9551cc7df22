use Rattle.avr_plan.proofs.TextCuts.{splits_last}
use Rattle.avr_plan.proofs.text.split_last.Goals as goal

pub returns : goal.returns
returns c = splits_last c.args.text.now c.rsplit_once.result c.rsplit_once.ensures.cases
