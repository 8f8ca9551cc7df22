use Rattle.avr_plan.proofs.TextCuts.{strips_prefix}
use Rattle.avr_plan.proofs.text.after_prefix.Goals as goal

pub returns : goal.returns
returns c = strips_prefix c.args.prefix.now c.args.text.now c.strip_prefix.result c.strip_prefix.ensures.cases
