-- The settings that a command line asks for. Only a command line that is accepted has settings here. Which fault another
-- one has is said by its reader, in avr_plan.
use Rattle.std.specs.Prelude.{◌≡◌, ◌⊎◌, ◌&&◌, ◌<◌, ◌≤◌, ℕ, Bool, true, false, List, [], ◌∷◌, ◌++◌, codes, count_by, length, unwrap_or, Some, None}
use Rattle.std.specs.Char.{is_ascii_digit}
use Rattle.std.specs.List.{list_all, list_any}
use Rattle.std.specs.Str.Parse.{digits_value}
use Rattle.clap.specs.Words.{Row, all_of, first_of}
use Rattle.avr_io.specs.Named.{is_dash}
use Rattle.avr_io.specs.Record.{Bytes}
use Rattle.avr_part.specs.Mem.{name_of}
use Rattle.avr_part.specs.declared.part.Mem.TheVariants.{Flash}
use Rattle.avr_plan.specs.Settings.{switches_of}
use Rattle.avr_plan.specs.Split.{colon}
use Rattle.avr_plan.specs.Update.{format_of, op_name}
use Rattle.avr_plan.specs.declared.settings.Port.{Port}
use Rattle.avr_plan.specs.declared.settings.Port.TheVariants.{Stdio, Emulated, Network, Served}
use Rattle.avr_plan.specs.declared.settings.Settings.{Settings}
use Rattle.avr_plan.specs.declared.update.Format.TheVariants.{Auto, Immediate}
use Rattle.avr_plan.specs.declared.update.Op.TheVariants.{Read, Write}
use Rattle.avr_plan.specs.declared.update.Update.{Update}

-- Decimal digits, with a value from 1 to 65535.
abbrev pub IsPortNumber : Bytes → Type 0
IsPortNumber digits =
    (list_all is_ascii_digit digits ≡ true) × (0 < digits_value 10 digits) × (digits_value 10 digits < 65536)

-- `HOST:PORT`: a host that isn't empty, and the number of a port.
abbrev pub IsAddress : Bytes → Type 0
IsAddress text =
    (host : Bytes) × (digits : Bytes) × (text ≡ host ++ colon ∷ digits) × (0 < length host) × IsPortNumber digits

-- The text of `-P` names this port.
abbrev pub NamesPort : Bytes → Port → Type 0
NamesPort text Stdio = text ≡ codes "stdio:"
NamesPort text (Emulated file) = (text ≡ codes "emu:" ++ file) × (0 < length file)
NamesPort text (Network address) = (text ≡ codes "net:" ++ address) × IsAddress address
NamesPort text (Served port chip) = ⊥

-- `MEMORY:OP:`, and what follows it.
abbrev pub update_head : Update → Bytes → Bytes
update_head u rest = name_of u.memory ++ colon ∷ (op_name u.op ++ colon ∷ rest)

-- The text of `-U` asks for this update: `MEMORY:OP:FILE:FORMAT`, or `MEMORY:OP:FILE` in the operation's default format,
-- or a file alone, which is written to flash. The name of the file isn't empty. A format is one letter.
abbrev pub AsksForUpdate : Bytes → Update → Type 0
AsksForUpdate text u =
    (0 < length u.file)
    × (((letter : ℕ) × (text ≡ update_head u (u.file ++ colon ∷ letter ∷ []))
    × (format_of u.op (Some letter) ≡ Some u.format))
    ⊎ (((text ≡ update_head u u.file) × (format_of u.op None ≡ Some u.format)
    × ((name : Bytes) (letter : ℕ) → u.file ≡ name ++ colon ∷ letter ∷ [] → ⊥))
    ⊎ ((u ≡ record { memory = Flash; op = Write; format = Auto; file = text })
    × ((before after : Bytes) → text ≡ before ++ colon ∷ after → ⊥))))

-- One update for each text, in order.
abbrev pub AskForUpdates : List Bytes → List Update → Type 0
AskForUpdates [] [] = Unit {0}
AskForUpdates (text ∷ texts) (u ∷ updates) = AsksForUpdate text u × AskForUpdates texts updates
AskForUpdates texts updates = ⊥

-- The file of an update is standard input or output. Values are no file.
abbrev pub uses_standard : Update → Bool
uses_standard u = is_dash u.file && elim (u.format) [ Immediate ↦ false | format ↦ true ]

-- THE SETTINGS that these options ask for, without `--serve`.
pub record AsksFor (rows : List Row) (settings : Settings) : Type 0 where
  pub part : first_of (codes "part") rows ≡ Some settings.part
  pub port : (text : Bytes) × (first_of (codes "port") rows ≡ Some text) × NamesPort text settings.port
  pub parts : first_of (codes "parts") rows ≡ settings.parts
  pub updates : AskForUpdates (unwrap_or (all_of (codes "update") rows) []) settings.updates
  pub switches : settings.switches ≡ switches_of rows
  -- what else is refused: a service, another programmer, more updates, and a standard stream that is asked for twice or
  -- in place of a file
  pub runs : first_of (codes "serve") rows ≡ None
  pub programmer : (name : Bytes) → first_of (codes "programmer") rows ≡ Some name → name ≡ codes "stk500v2"
  pub few : length settings.updates ≤ 16
  pub parts_file : settings.parts ≡ Some (codes "-") → ⊥
  pub chip : first_of (codes "chip") rows ≡ Some (codes "-") → ⊥
  pub chip_file : settings.port ≡ Emulated (codes "-") → ⊥
  pub streams : settings.port ≡ Stdio → list_any uses_standard settings.updates ≡ false
  pub input : count_by (λ (u : Update). uses_standard u && elim (u.op) [ Read ↦ false | op ↦ true ])
      settings.updates ≤ 1

-- These options ask for a service: of a part, at the port of a number, with a chip file. It is no standard stream.
pub record AsksToServe (rows : List Row) : Type 0 where
  pub part : (id : Bytes) × (first_of (codes "part") rows ≡ Some id)
  pub number : (digits : Bytes) × (first_of (codes "serve") rows ≡ Some digits) × IsPortNumber digits
  pub chip : (file : Bytes) × (first_of (codes "chip") rows ≡ Some file) × (file ≡ codes "-" → ⊥)
  pub parts_file : first_of (codes "parts") rows ≡ Some (codes "-") → ⊥
