-- The record of a desk in memory is true of the files that it began with.
use Rattle.std.specs.Prelude.{◌≡◌, Bool, true, List, [], ◌∷◌, ◌++◌, Option, Some, None}
use Rattle.avr_io.specs.declared.record.FileUse.{FileUse}
use Rattle.avr_io.specs.declared.record.FileUse.TheVariants.{Opened, Created}
use Rattle.avr_desk.specs.Memory.{MemDeskState, Stock, stock_of, content_of_name}
use Rattle.avr_io.specs.Record.{Bytes, files_among}
use Rattle.avr_io.specs.declared.record.Open.{Open}
use Rattle.avr_io.specs.declared.record.Open.TheVariants.{ToRead}
use Rattle.avr_io.specs.declared.record.Opening.{Opening}
use Rattle.avr_io.specs.declared.record.Opening.TheVariants.{Absent, Found}
use Rattle.avr_io.specs.declared.record.Writing.{Writing}

-- `bytes` is a prefix of the file, and all of it if the end was seen
pub record IsReadPrefix (stood : Option Bytes) (bytes : Bytes) (ended : Bool) : Type 0 where
  pub unread : Bytes
  pub whole : stood ≡ Some (bytes ++ unread)
  pub ends : ended ≡ true → unread ≡ []

-- after these files were made, the opening gave what its name meant
abbrev pub IsTrueOpening : Stock → List Writing → Opening → Type 0
IsTrueOpening stock made (Absent name) = content_of_name stock made name ≡ None
IsTrueOpening stock made (Found reading) = IsReadPrefix (content_of_name stock made reading.name) reading.bytes
    reading.ended

-- Each opening gave what its name meant then, by the files made before it: `made`, and those among the uses.
abbrev pub OpeningsAreTrue : Stock → List Writing → List FileUse → Type 0
OpeningsAreTrue stock made [] = Unit {0}
OpeningsAreTrue stock made (Opened opening ∷ uses) = IsTrueOpening stock made opening × OpeningsAreTrue stock made uses
OpeningsAreTrue stock made (Created file ∷ uses) = OpeningsAreTrue stock (made ++ file ∷ []) uses

-- The open file has the bytes that its name meant when it was opened, and gave a prefix of them.
abbrev pub IsOpenTrue : Stock → MemDeskState → Open → Type 0
IsOpenTrue stock m (ToRead reading) =
    (content_of_name stock (files_among m.kept.uses) reading.name ≡ Some m.opened)
    × IsReadPrefix (Some m.opened) reading.bytes reading.ended
IsOpenTrue stock m current = Unit {0}

-- The desk began with `stock`, and its record is true of it. Every call of a desk in memory preserves this.
pub record HoldsTrue (stock : Stock) (m : MemDeskState) : Type 0 where
  pub began : stock_of m ≡ stock
  pub uses : OpeningsAreTrue stock [] m.kept.uses
  pub current : IsOpenTrue stock m m.kept.current
