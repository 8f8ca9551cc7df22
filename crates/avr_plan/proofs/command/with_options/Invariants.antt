use Rattle.std.proofs.Common.{◌≡◌, drop, fold, map}
use Rattle.clap.specs.Words.{app_of, with_rule}
use Rattle.avr_plan.specs.Command.{option_rule}
use Rattle.avr_plan.proofs.command.with_options.Given as goal

-- the remaining options make the whole command
abbrev pub invariant-loop-option : goal.invariant-loop-option
invariant-loop-option l =
    fold with_rule (app_of l.command) (map option_rule (drop l.option-index l.options))
    ≡ fold with_rule (app_of l.initial.command) (map option_rule l.options)
