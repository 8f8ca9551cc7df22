-- Which results keep a text, or follow a text that was kept.
use Rattle.std.proofs.Common.{◌≡◌, refl, ℕ, ◌+◌, true, false, List, [], ◌∷◌, length, Result, Ok, Err, ⊎_elim, rules}
use Rattle.std.specs.Prelude.{nat_lt}
use Rattle.std.proofs.lemmas.Bool.{cases_Bool}
use Rattle.avr_part.specs.PartFile.{Bytes, ◌>>=◌}
use Rattle.avr_plan.specs.Port.{port_of_option}
use Rattle.avr_plan.specs.Settings.{Entries, GivesUnlessOutOfMemory, ReportsAnyway, checked_streams, is_reported_anyway, run_settings, updates_from, updates_of}
use Rattle.avr_plan.specs.declared.settings.Port.{Port}
use Rattle.avr_plan.specs.declared.settings.Settings.{Settings}
use Rattle.avr_plan.specs.declared.settings.SettingsFault.{SettingsFault}

-- If neither of two steps has a fault that is reported anyway, both together have none.
then_keeps : {A B : Type 0} (r : Result A SettingsFault) (f : A → Result B SettingsFault) → is_reported_anyway r ≡ false
    → ((x : A) → is_reported_anyway (f x) ≡ false) → is_reported_anyway (r >>= f) ≡ false
then_keeps r f e h = search rules

-- No fault of updates is reported anyway.
updates_keep : (n : ℕ) (texts : List Bytes) → is_reported_anyway (updates_from n texts) ≡ false
updates_keep n [] = refl
updates_keep n (text ∷ rest) = search (rules, then_keeps, updates_keep (n + 1) rest)

-- No fault of all updates is reported anyway.
all_keep : (texts : List Bytes) → is_reported_anyway (updates_of texts) ≡ false
all_keep texts = ⊎_elim (λ e. rw e refl) (λ e. rw e (updates_keep 1 texts)) (cases_Bool (nat_lt 16 (length texts)))

-- the settings of a run, after the programmer and the port
abbrev behind_port : Bytes → Entries → Port → Result Settings SettingsFault
behind_port part e port =
    updates_of e.updates >>= (λ updates. checked_streams port updates e.parts e.chip
    >>= (λ _. Ok (record { part = part; port = port; parts = e.parts; updates = updates; switches = e.switches })))

-- No fault after the port is reported anyway.
behind_port_keeps : (part : Bytes) (e : Entries) (port : Port) → is_reported_anyway (behind_port part e port) ≡ false
behind_port_keeps part e port = search (rules, then_keeps, all_keep, cases_Bool)

-- If a fault is reported anyway, the settings have it from the port.
by_port : (part : Bytes) (e : Entries) → is_reported_anyway (run_settings part e) ≡ true
    → run_settings part e ≡ port_of_option e.port >>= behind_port part e
by_port part e notice = search (rules, cases_Bool)

-- If the port reports its fault anyway, the settings do.
pub port_is_reported : (part : Bytes) (e : Entries) (fault : SettingsFault)
    → ReportsAnyway (port_of_option e.port) (Err fault) → ReportsAnyway (run_settings part e) (Err fault)
port_is_reported part e fault is_reported notice = search (rules, by_port, behind_port_keeps)

-- If the port has no fault, none is reported anyway.
pub nothing_behind_port : (part : Bytes) (e : Entries) (port : Port) → GivesUnlessOutOfMemory (port_of_option e.port)
    (Ok port) → is_reported_anyway (run_settings part e) ≡ true → ⊥
nothing_behind_port part e port gives notice = search (rules, ⊎_elim, behind_port_keeps, by_port)
