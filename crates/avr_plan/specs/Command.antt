-- The command line: its options, as `clap` reads them, and what they give.
use Rattle.std.specs.Prelude.{ℕ, true, false, List, [], ◌∷◌, ◌≡◌, Some, codes, pos, Result, unwrap_or}
use Rattle.clap.specs.declared.builder.arg.Arg.{Arg}
use Rattle.clap.specs.Words.{App, Row, Rule, rule_of, new_app, new_rule, matches_of, first_of, all_of}
use Rattle.clap.specs.declared.builder.ArgAction.{ArgAction}
use Rattle.clap.specs.declared.builder.ArgAction.TheVariants.{SetTrue, Append, Count}
use Rattle.clap.specs.declared.builder.value_parser.ValueParser.TheVariants.{Signed}
use Rattle.avr_part.specs.PartFile.{Bytes}
use Rattle.avr_plan.specs.Settings.{Entries, settings_of, switches_of}
use Rattle.avr_plan.specs.declared.settings.Settings.{Settings}
use Rattle.avr_plan.specs.declared.settings.SettingsFault.{SettingsFault}
use Rattle.avr_plan.specs.declared.command.CommandOption.{CommandOption}
use Rattle.avr_plan.specs.declared.command.OptionKind.{OptionKind}
use Rattle.avr_plan.specs.declared.command.OptionKind.TheVariants as kind
use Rattle.avr_plan.specs.declared.command.Values.TheVariants as values

-- an option of one letter with a value; if given again, its last value counts
abbrev pub value_rule : Bytes → ℕ → Rule
value_rule id short = record (new_rule id) { short = Some short; value_names = 1 }

-- an option of one letter without a value: it sets a switch, or counts how often it is given
abbrev pub flag_rule : Bytes → ℕ → ArgAction → Rule
flag_rule id short action = record (new_rule id) { short = Some short; action = Some action }

-- an option named by its id, with a value
abbrev pub long_rule : Bytes → Rule
long_rule id = record (new_rule id) { long = Some id; value_names = 1 }

-- -p, -c, -P and -U; -e, -D and -V; -n, -F and -A; -q, -b and -v; --parts, --serve and --chip. -U collects its values,
-- and that of -b is a number below 2 to the power 32.
unfoldable pub options : List Rule
options =
    value_rule (codes "part") 112 ∷ value_rule (codes "programmer") 99 ∷ value_rule (codes "port") 80
    ∷ record (value_rule (codes "update") 85) { action = Some Append }
    ∷ flag_rule (codes "erase") 101 SetTrue ∷ flag_rule (codes "keep-flash") 68 SetTrue
    ∷ flag_rule (codes "no-verify") 86 SetTrue
    ∷ flag_rule (codes "dry") 110 SetTrue ∷ flag_rule (codes "force") 70 SetTrue ∷ flag_rule (codes "all") 65 SetTrue
    ∷ flag_rule (codes "quiet") 113 Count
    ∷ record (value_rule (codes "baud") 98) { parser = Some (Signed (pos 0) (pos 4294967295)) }
    ∷ flag_rule (codes "verbose") 118 Count
    ∷ long_rule (codes "parts") ∷ long_rule (codes "serve") ∷ long_rule (codes "chip") ∷ []

-- inside: the rule of an option as the code's table has it
abbrev pub kind_rule : Bytes → OptionKind → Rule
kind_rule id (kind.Value short name values.Last) = value_rule id short
kind_rule id (kind.Value short name values.All) = record (value_rule id short) { action = Some Append }
kind_rule id (kind.Value short name values.Number) =
    record (value_rule id short) { parser = Some (Signed (pos 0) (pos 4294967295)) }
kind_rule id (kind.Flag short action) = flag_rule id short action
kind_rule id (kind.LongValue name) = long_rule id

-- inside: the rule of an option by its row in the code's table
abbrev pub option_rule : CommandOption → Rule
option_rule o = kind_rule o.id.now o.kind

-- an option with this rule, of its own command alone
pub record IsOption (arg : Arg) (rule : Rule) : Type 0 where
  pub shape : rule_of arg ≡ rule
  pub local : arg.global ≡ false

-- The command. If an option is given again, its last value counts.
unfoldable pub avrstk : App
avrstk =
    let new = new_app (codes "avrstk") in
    record new { top = record new.top { args_override_self = true; rules = options } }

-- the options that `clap` found in the arguments
abbrev pub entries_of : List Row → Entries
entries_of rows = record {
  part = first_of (codes "part") rows;
  programmer = first_of (codes "programmer") rows;
  port = first_of (codes "port") rows;
  updates = unwrap_or (all_of (codes "update") rows) [];
  switches = switches_of rows;
  parts = first_of (codes "parts") rows;
  serve = first_of (codes "serve") rows;
  chip = first_of (codes "chip") rows;
}

-- the settings of a command line's arguments, the program's name first, or why there are none
abbrev pub settings_from_arguments : List Bytes → Result Settings SettingsFault
settings_from_arguments words = settings_of (entries_of (matches_of avrstk words))
