-- Updates that are read one after another.
use Rattle.std.proofs.Common.{List, ◌++◌, Result, Ok, Err}
use Rattle.avr_plan.specs.declared.update.Update.{Update}
use Rattle.avr_plan.specs.declared.settings.SettingsFault.{SettingsFault}

-- The result, with these updates before its own.
abbrev pub onto : List Update → Result (List Update) SettingsFault → Result (List Update) SettingsFault
onto us (Ok vs) = Ok (us ++ vs)
onto us (Err e) = Err e
