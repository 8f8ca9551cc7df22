-- The settings of a run, as a function of the options given.
use Rattle.std.specs.Prelude.{◌≡◌, ◌⊎◌, ◌||◌, ◌+◌, ℕ, Bool, true, false, nat_le, nat_lt, List, [], ◌∷◌, length, count_by, Option, Some, None, Result, Ok, Err, codes}
use Rattle.std.specs.Prelude.{if◌then◌else◌, ⊤, ok_or}
use Rattle.std.specs.Option.{option_map_or}
use Rattle.std.specs.Result.{result_map_both}
use Rattle.std.specs.Str.{bytes_eq}
use Rattle.avr_io.specs.Named.{is_dash}
use Rattle.clap.specs.Words.{Row, first_of, count_of}
use Rattle.avr_part.specs.PartFile.{Bytes, ◌>>=◌}
use Rattle.avr_plan.specs.Port.{port_number, port_of_option, port_to_serve}
use Rattle.avr_plan.specs.Standard.{is_port_taken, uses_input}
use Rattle.avr_plan.specs.Update.{update_of}
use Rattle.avr_plan.specs.declared.update.Update.{Update}
use Rattle.avr_plan.specs.declared.settings.Port.{Port}
use Rattle.avr_plan.specs.declared.settings.Switches.{Switches}
use Rattle.avr_plan.specs.declared.settings.Settings.{Settings}
use Rattle.avr_plan.specs.declared.settings.SettingsFault.{SettingsFault}
use Rattle.avr_plan.specs.declared.settings.SettingsFault.TheVariants.{NoPart, BadProgrammer, BadPort, NoChip, TooMany, BadUpdate}
use Rattle.avr_plan.specs.declared.settings.SettingsFault.TheVariants.{StandardTaken, Memory}

-- the texts that the command line gave, and its switches
pub record Entries : Type 0 where
  pub part : Option Bytes
  pub programmer : Option Bytes
  pub port : Option Bytes
  pub updates : List Bytes
  pub switches : Switches
  pub parts : Option Bytes
  pub serve : Option Bytes
  pub chip : Option Bytes

-- the contract of calls that make settings: the wanted result, or allocation failed
abbrev pub GivesUnlessOutOfMemory : {T : Type 0} → Result T SettingsFault → Result T SettingsFault → Type 0
GivesUnlessOutOfMemory want got = (got ≡ want) ⊎ (got ≡ Err Memory)

-- a fault that holds no text and comes before any text is copied
abbrev pub is_reported_anyway : {T : Type 0} → Result T SettingsFault → Bool
is_reported_anyway (Err NoPart) = true
is_reported_anyway (Err (BadPort None)) = true
is_reported_anyway (Err NoChip) = true
is_reported_anyway result = false

-- such a fault is returned even if allocation fails
abbrev pub ReportsAnyway : {T : Type 0} → Result T SettingsFault → Result T SettingsFault → Type 0
ReportsAnyway want got = is_reported_anyway want ≡ true → got ≡ want

-- `stk500v2` is the default and the only programmer
abbrev pub checked_programmer : Option Bytes → Result ⊤ SettingsFault
checked_programmer None = Ok tt
checked_programmer (Some name) = if bytes_eq name (codes "stk500v2") then Ok tt else Err (BadProgrammer name)

-- the updates of texts, or the first fault with its update's number; the first text has the number n
abbrev pub updates_from : ℕ → List Bytes → Result (List Update) SettingsFault
updates_from n [] = Ok []
updates_from n (text ∷ rest) = do
  update ← result_map_both (λ update. update) (BadUpdate n) (update_of text)
  updates ← updates_from (n + 1) rest
  Ok (update ∷ updates)

-- at most 16 updates, numbered from 1
abbrev pub updates_of : List Bytes → Result (List Update) SettingsFault
updates_of texts = if nat_lt 16 (length texts) then Err TooMany else updates_from 1 texts

-- refused if a standard stream is asked for twice, or in place of a file: by the port and the updates, or by the files
-- of `--parts` and `--chip`
abbrev pub checked_streams : Port → List Update → Option Bytes → Option Bytes → Result ⊤ SettingsFault
checked_streams port updates parts chip =
    if (option_map_or is_dash parts false || option_map_or is_dash chip false)
    || (is_port_taken port updates || nat_le 2 (count_by uses_input updates)) then Err StandardTaken else Ok tt

-- inside: the standard streams are free, and these are the part and the part file; or why there are none
abbrev pub KeepsTexts : Bytes → Port → List Update → Entries → Result (Bytes × Option Bytes) SettingsFault → Type 0
KeepsTexts part port updates e (Ok kept) =
    (checked_streams port updates e.parts e.chip ≡ Ok tt) × (kept ≡ (part, e.parts))
KeepsTexts part port updates e (Err fault) =
    (checked_streams port updates e.parts e.chip ≡ Err fault) ⊎ (fault ≡ Memory)

-- the switch of this id was given
abbrev pub is_on : Bytes → List Row → Bool
is_on id rows = option_map_or (λ text. bytes_eq text (codes "true")) (first_of id rows) false

-- the switches among the options given
abbrev pub switches_of : List Row → Switches
switches_of rows = record {
  erase = is_on (codes "erase") rows;
  keep_flash = is_on (codes "keep-flash") rows;
  no_verify = is_on (codes "no-verify") rows;
  dry = is_on (codes "dry") rows;
  force = is_on (codes "force") rows;
  all = is_on (codes "all") rows;
  quiet = count_of (codes "quiet") rows;
}

-- the settings of a run
abbrev pub run_settings : Bytes → Entries → Result Settings SettingsFault
run_settings part e = do
  programmer ← checked_programmer e.programmer
  port ← port_of_option e.port
  updates ← updates_of e.updates
  streams ← checked_streams port updates e.parts e.chip
  Ok (record { part = part; port = port; parts = e.parts; updates = updates; switches = e.switches })

-- the settings of an emulator that serves at a port; programmer, updates and switches don't count
abbrev pub serve_settings : Bytes → Bytes → Entries → Result Settings SettingsFault
serve_settings part text e = do
  port ← port_to_serve text (port_number text) e.chip
  streams ← checked_streams port [] e.parts e.chip
  Ok (record { part = part; port = port; parts = e.parts; updates = []; switches = switches_of [] })

-- the settings of a service if `--serve` is given, else of a run
abbrev pub settings_of : Entries → Result Settings SettingsFault
settings_of e = do
  part ← ok_or e.part NoPart
  option_map_or (λ text. serve_settings part text e) e.serve (run_settings part e)
