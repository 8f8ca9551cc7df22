-- What parsing a known command gives.
use Rattle.std.proofs.Common.{ap, true, ◌≡◌, ◌∙◌, refl, List, ℕ, ◌+◌, ◌∷◌, drop, fold, map}
use Rattle.std.specs.Prelude.{⊤}
use Rattle.clap.specs.Words.{App, Rule, Text, AddsArg, HasMatchesOf, app_of, is_simple, is_simple_and_free, matches_of}
use Rattle.clap.specs.Words.{rows_of, found_of, with_rule}
use Rattle.clap.specs.declared.builder.arg.Arg.{Arg}
use Rattle.clap.specs.declared.builder.command.Command.{Command}
use Rattle.clap.specs.declared.parser.matches.ArgMatches.{ArgMatches}
use Rattle.clap.proofs.OnLiterals.{clap_on_literals}
use Rattle.avr_plan.specs.Command.{IsOption, avrstk, options, option_rule}
use Rattle.avr_plan.specs.declared.command.CommandOption.{CommandOption}

-- what a proof unfolds to compute the command
unfoldable pub whole_command : ⊤
unfolding clap_on_literals avrstk options
whole_command = tt

-- The command has only what the definitions of `clap` cover.
pub is_simple-avrstk : is_simple avrstk ≡ true
unfolding whole_command
is_simple-avrstk = refl

-- No option of the command needs another one.
pub is_free-avrstk : is_simple_and_free avrstk ≡ true
unfolding whole_command
is_free-avrstk = refl

-- A command with the same definition finds the same options.
pub rows_given : (a b : App) (words : List Text) → a ≡ b → is_simple b ≡ true → (m : ArgMatches)
    → HasMatchesOf a words m → rows_of (found_of m) ≡ matches_of b words
rows_given a b words is simple m h = (h (ap is_simple is ∙ simple)).0 ∙ ap (λ (c : App). matches_of c words) is

-- An option with this rule extends the command by the rule.
arg_added : {a b : Command} {x : Arg} {r : Rule} → AddsArg a x b → IsOption x r → app_of b ≡ with_rule (app_of a) r
arg_added {a} adds is = adds.shape is.local ∙ ap (with_rule (app_of a)) is.shape

-- One more option of the list was added, so the remaining ones make the same command.
pub option_added : {a b : Command} {x : Arg} (i : ℕ) (os : List CommandOption) (o : CommandOption) (whole : App)
    → AddsArg a x b → IsOption x (option_rule o) → drop i os ≡ o ∷ drop (i + 1) os
    → fold with_rule (app_of a) (map option_rule (drop i os)) ≡ whole
    → fold with_rule (app_of b) (map option_rule (drop (i + 1) os)) ≡ whole
option_added i os o whole adds is cut before = rw (arg_added adds is) (rw cut at before)
