-- The settings of an accepted command line are those that its options ask for.
use Rattle.std.proofs.Common.{◌≡◌, ◌⊎◌, inr, ℕ, [], refl, false, List, rules, codes, count_by, Option, Some, None, Result, Ok, Err, nat_le, ok_or}
use Rattle.std.specs.Prelude.{⊤}
use Rattle.std.specs.List.{list_any}
use Rattle.std.specs.Option.{option_map_or}
use Rattle.std.proofs.lemmas.Bool.{cases_Bool}
use Rattle.std.proofs.lemmas.Slice.Eq.{bytes_eq-Decides}
use Rattle.clap.specs.Words.{Row, first_of, matches_of}
use Rattle.avr_part.specs.PartFile.{Bytes, ◌>>=◌}
use Rattle.avr_plan.specs.Port.{port_number, port_of_option}
use Rattle.avr_plan.specs.Settings.{Entries, checked_programmer, checked_streams, settings_of, run_settings, serve_settings, switches_of, updates_of}
use Rattle.avr_io.specs.Named.{is_dash}
use Rattle.avr_plan.specs.Standard.{is_port_taken, uses_input, uses_standard}
use Rattle.avr_plan.specs.declared.settings.Port.{Port}
use Rattle.avr_plan.specs.declared.settings.Port.TheVariants.{Stdio, Emulated, Served}
use Rattle.avr_plan.specs.declared.settings.Settings.{Settings}
use Rattle.avr_plan.specs.declared.settings.SettingsFault.{SettingsFault}
use Rattle.avr_plan.specs.declared.update.Update.{Update}
use Rattle.avr_plan.specs.declared.settings.SettingsFault.TheVariants.{NoPart}
use Rattle.avr_plan.specs.Command.{avrstk, entries_of, settings_from_arguments}
use Rattle.avr_laws.proofs.Asked.Ports.{number_is, port_is, port_read}
use Rattle.avr_laws.proofs.Asked.Updates.{all_are, all_read}
use Rattle.avr_laws.specs.AskedSettings.{AsksFor, AsksToServe, NamesPort}

-- ---- standard streams

-- no stream is used twice
record StreamsAreFree (port : Port) (updates : List Update) (parts chip : Option Bytes) : Type 0 where
  parts_file : option_map_or is_dash parts false ≡ false
  chip_file : option_map_or is_dash chip false ≡ false
  port_free : is_port_taken port updates ≡ false
  input : nat_le 2 (count_by uses_input updates) ≡ false

-- streams that pass the check are used once each
streams_free : (port : Port) (updates : List Update) (parts chip : Option Bytes)
    → checked_streams port updates parts chip ≡ Ok tt → StreamsAreFree port updates parts chip
streams_free port updates parts chip is = search (rules, cases_Bool)

-- and conversely
streams_checked : (port : Port) (updates : List Update) (parts chip : Option Bytes)
    → StreamsAreFree port updates parts chip → checked_streams port updates parts chip ≡ Ok tt
streams_checked port updates parts chip are = rw (are.parts_file, are.chip_file, are.port_free, are.input) refl

-- a name that passes the test isn't `-`
not_standard : (name : Option Bytes) → option_map_or is_dash name false ≡ false → name ≡ Some (codes "-") → ⊥
not_standard name none is = search rules

-- and conversely
names_file : (name : Option Bytes) → (name ≡ Some (codes "-") → ⊥) → option_map_or is_dash name false ≡ false
names_file name other = search (rules, bytes_eq-Decides, cases_Bool)

-- the port takes no stream that an update uses
port_apart : (text : Bytes) (port : Port) (updates : List Update) → NamesPort text port
    → (port ≡ Stdio → list_any uses_standard updates ≡ false) → (port ≡ Emulated (codes "-") → ⊥)
    → is_port_taken port updates ≡ false
port_apart text port updates names over file = search (rules, names_file)

-- the programmer's name is stk500v2, if one is given
programmer_is : (name : Option Bytes) (other : Bytes) → checked_programmer name ≡ Ok tt → name ≡ Some other
    → other ≡ codes "stk500v2"
programmer_is name other is same = search (rules, bytes_eq-Decides, cases_Bool)

-- and conversely
programmer_read : (name : Option Bytes) → ((other : Bytes) → name ≡ Some other → other ≡ codes "stk500v2")
    → checked_programmer name ≡ Ok tt
programmer_read name is = search rules

-- ---- the settings

-- the checks that the settings of a run pass, and what their entries give
record EntriesGive (part : Bytes) (e : Entries) (s : Settings) : Type 0 where
  programmer : checked_programmer e.programmer ≡ Ok tt
  port : port_of_option e.port ≡ Ok s.port
  updates : updates_of e.updates ≡ Ok s.updates
  streams : checked_streams s.port s.updates e.parts e.chip ≡ Ok tt
  part_is : s.part ≡ part
  parts_are : s.parts ≡ e.parts
  switches_are : s.switches ≡ e.switches

-- the settings of a run
abbrev settings_with : Bytes → Entries → Port → List Update → Settings
settings_with part e port updates =
    record { part = part; port = port; parts = e.parts; updates = updates; switches = e.switches }

-- settings that are made of entries
run_is : (part : Bytes) (e : Entries) (s : Settings) → run_settings part e ≡ Ok s → EntriesGive part e s
run_is part e s is = by (checked_programmer e.programmer) (port_of_option e.port) (updates_of e.updates) refl refl refl
    is
  where
    by_streams : (port : Port) (updates : List Update) (checks : Result ⊤ SettingsFault)
        → checks >>= (λ streams. Ok (settings_with part e port updates)) ≡ Ok s
        → (checks ≡ Ok tt) × (s ≡ settings_with part e port updates)
    by_streams port updates (Err fault) is = absurd (cc is)
    by_streams port updates (Ok unit) is = (refl, cc is)

    by : (programmer : Result ⊤ SettingsFault) (port : Result Port SettingsFault)
        (updates : Result (List Update) SettingsFault) → checked_programmer e.programmer ≡ programmer
        → port_of_option e.port ≡ port → updates_of e.updates ≡ updates → programmer >>= (λ programmer.
        port >>= (λ port. updates >>= (λ updates. checked_streams port updates e.parts e.chip
        >>= (λ streams. Ok (settings_with part e port updates))))) ≡ Ok s → EntriesGive part e s
    by (Err fault) port updates from_programmer from_port from_updates is = absurd (cc is)
    by (Ok unit) (Err fault) updates from_programmer from_port from_updates is = absurd (cc is)
    by (Ok unit) (Ok port) (Err fault) from_programmer from_port from_updates is = absurd (cc is)
    by (Ok unit) (Ok port) (Ok updates) from_programmer from_port from_updates is =
        let all = by_streams port updates (checked_streams port updates e.parts e.chip) is in
        search rules

-- and conversely
run_read : (part : Bytes) (e : Entries) (s : Settings) → EntriesGive part e s → run_settings part e ≡ Ok s
run_read part e s are = search rules

-- a port was given, and its text names this one
port_given : (given : Option Bytes) (port : Port) → port_of_option given ≡ Ok port
    → (text : Bytes) × (given ≡ Some text) × NamesPort text port
port_given given port is = search (rules, port_is)

-- without `--serve`
of_run : (e : Entries) (s : Settings) (part serve : Option Bytes) → serve ≡ None
    → ok_or part NoPart >>= (λ part. option_map_or (λ text. serve_settings part text e) serve (run_settings part e)) ≡
    Ok s
    → (id : Bytes) × (part ≡ Some id) × (run_settings id e ≡ Ok s)
of_run e s part serve none is = search rules

-- the settings of a run are those that the command line asks for
pub settings_are : (rows : List Row) (s : Settings) → settings_of (entries_of rows) ≡ Ok s
    → first_of (codes "serve") rows ≡ None → AsksFor rows s
settings_are rows s is none =
    let e = entries_of rows in
    let r = of_run e s e.part e.serve none is in
    let run = run_is r.0 e s r.2 in
    let updates = all_are e.updates s.updates run.updates in
    let streams = streams_free s.port s.updates e.parts e.chip run.streams in
    search (rules, port_given, programmer_is, not_standard)

-- and conversely
pub settings_read : (rows : List Row) (s : Settings) → AsksFor rows s → settings_of (entries_of rows) ≡ Ok s
settings_read rows s a =
    search (rules, programmer_read, port_read, all_read, streams_checked, names_file, port_apart, ok_or, run_read)

-- ---- with `--serve`

-- the checks that the settings of a service pass, and what their entries give
record IsServed (text : Bytes) (e : Entries) (s : Settings) : Type 0 where
  number : (n : ℕ) × (port_number text ≡ Some n)
  chip : Bytes
  chip_is : e.chip ≡ Some chip
  streams : checked_streams (Served text chip) [] e.parts e.chip ≡ Ok tt
  port : s.port ≡ Served text chip

-- the settings of a service
abbrev served_with : Bytes → Entries → Port → Settings
served_with part e port = record { part = part; port = port; parts = e.parts; updates = []; switches = switches_of [] }

-- settings that are made for a service
served_at : (part text : Bytes) (e : Entries) (s : Settings) → serve_settings part text e ≡ Ok s → IsServed text e s
served_at part text e s is = search (rules, streams_free)

of_service : (e : Entries) (s : Settings) (text : Bytes) (part serve : Option Bytes) → serve ≡ Some text
    → ok_or part NoPart >>= (λ part. option_map_or (λ text. serve_settings part text e) serve (run_settings part e)) ≡
    Ok s
    → (id : Bytes) × (part ≡ Some id) × IsServed text e s
of_service e s text part serve given is = search (rules, served_at)

abbrev ServesOrAsks : List Row → Settings → Type 0
ServesOrAsks rows s =
    (AsksToServe rows × ((port : Bytes) × (chip : Bytes) × (s.port ≡ Served port chip))) ⊎ AsksFor rows s

-- by what was given for `--serve`
by_serve : (rows : List Row) (s : Settings) (serve : Option Bytes) → settings_of (entries_of rows) ≡ Ok s
    → first_of (codes "serve") rows ≡ serve → ServesOrAsks rows s
by_serve rows s None asked given = inr (settings_are rows s asked given)
by_serve rows s (Some text) asked given = search (rules, of_service, streams_free, number_is, not_standard)

-- so accepted words ask for a service or for a run
pub serves_or_asks : (words : List Bytes) (s : Settings) → Ok s ≡ settings_from_arguments words
    → ServesOrAsks (matches_of avrstk words) s
serves_or_asks words s asked = search (rules, by_serve)
