use Rattle.std.proofs.Common.{rules}
use Rattle.std.proofs.lemmas.List.{drop_more, drop_all}
use Rattle.avr_plan.proofs.ParsedCommands.{option_added}
use Rattle.avr_plan.proofs.command.with_options.Goals as goal

pub loop-option-preserved : goal.loop-option-preserved
loop-option-preserved c =
    option_added c.loop-option.option-index c.args.options.now _ _ c.in_ok-command.ensures c.option_arg.ensures
    (drop_more c.args.options.now c.loop-option.option-index _ c.loop-option-test.true) c.loop-option.invariant

pub returns : goal.returns
returns c = search (rules, drop_all)
