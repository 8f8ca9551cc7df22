-- Files by their names.
use Rattle.std.specs.Prelude.{Bool, false, List, [], codes, Option, Some, fold, if◌then◌else◌}
use Rattle.std.specs.Option.{option_map, unwrap_or}
use Rattle.std.specs.Str.{bytes_eq}
use Rattle.avr_io.specs.Record.{Bytes, Record}
use Rattle.avr_io.specs.declared.record.Open.{Open}
use Rattle.avr_io.specs.declared.record.Open.TheVariants.{ToRead}
use Rattle.avr_io.specs.declared.record.Writing.{Writing}

-- `-` means standard input or output, not a file
abbrev pub is_dash : Bytes → Bool
is_dash name = bytes_eq name (codes "-")

-- this file's bytes if it has the name, else `older`
abbrev pub or_older : Bytes → Option Bytes → Writing → Option Bytes
or_older name older f = if bytes_eq f.name name then Some f.bytes else older

-- the bytes of the newest file of this name, else `older`
abbrev pub newest : Bytes → Option Bytes → List Writing → Option Bytes
newest name = fold (or_older name)

-- the file of this name is held
abbrev pub holds : Bytes → Record → Bool
holds name r = unwrap_or (option_map (λ (held : Bytes). bytes_eq held name) r.held) false

-- what an open file has given so far
abbrev pub bytes_given : Open → Bytes
bytes_given (ToRead x) = x.bytes
bytes_given o = []
