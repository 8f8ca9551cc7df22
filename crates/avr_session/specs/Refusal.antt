-- The messages of faults of the settings.
use Rattle.std.specs.Prelude.{ℕ, List, [], ◌∷◌, Some, None, codes, decimal}
use Rattle.avr_io.specs.Record.{Bytes}
use Rattle.avr_plan.specs.declared.settings.SettingsFault.{SettingsFault}
use Rattle.avr_plan.specs.declared.settings.SettingsFault.TheVariants.{NoPart, BadProgrammer, BadPort, NoChip, TooMany, BadUpdate, StandardTaken, Memory}
use Rattle.avr_plan.specs.declared.update.UpdateFault.{UpdateFault}
use Rattle.avr_plan.specs.declared.update.UpdateFault.TheVariants as update
use Rattle.avr_io.specs.Lines.{error, memory_pieces}

-- The fault of the update with this number.
abbrev pub in_update_pieces : ℕ → Bytes → List Bytes
in_update_pieces n text = codes "update " ∷ decimal n ∷ text ∷ []

-- The message of each fault of an update.
abbrev pub update_pieces : ℕ → UpdateFault → List Bytes
update_pieces n update.BadMemory = in_update_pieces n (codes ": no such memory")
update_pieces n update.BadOp = in_update_pieces n (codes ": no such operation")
update_pieces n update.BadFormat = in_update_pieces n (codes ": no such format here")
update_pieces n update.NoFile = in_update_pieces n (codes ": no file named")
update_pieces n update.Memory = memory_pieces

-- There is no programmer or port of this name.
abbrev pub unknown_pieces : Bytes → Bytes → List Bytes
unknown_pieces what name = what ∷ name ∷ codes " is not known" ∷ []

-- The message of each fault of the settings.
abbrev pub refusal_pieces : SettingsFault → List Bytes
refusal_pieces NoPart = codes "no part given (-p)" ∷ []
refusal_pieces (BadProgrammer name) = unknown_pieces (codes "programmer ") name
refusal_pieces (BadPort None) = codes "no port given (-P)" ∷ []
refusal_pieces (BadPort (Some text)) = unknown_pieces (codes "port ") text
refusal_pieces NoChip = codes "no chip file given (--chip)" ∷ []
refusal_pieces TooMany = codes "more than 16 updates" ∷ []
refusal_pieces (BadUpdate n fault) = update_pieces n fault
refusal_pieces StandardTaken = codes "standard streams are taken" ∷ []
refusal_pieces Memory = memory_pieces

-- The line that reports a fault of the settings.
unfoldable pub refusal_line : SettingsFault → Bytes
refusal_line fault = error (refusal_pieces fault)
