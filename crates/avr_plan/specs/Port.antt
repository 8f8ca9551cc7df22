-- The port that the text of `-P` or of `--serve` names.
use Rattle.std.specs.Prelude.{◌==◌, ◌&&◌, ℕ, Bool, false, not, is_some, nat_le, nat_lt, length, Option, Some, None, Result, Ok, ok_or}
use Rattle.std.specs.Prelude.{Err, codes, if◌then◌else◌}
use Rattle.std.specs.List.{list_all}
use Rattle.std.specs.Option.{option_map_or}
use Rattle.std.specs.Char.{is_ascii_digit}
use Rattle.std.specs.Str.{bytes_eq}
use Rattle.std.specs.Str.Parse.{digits_value}
use Rattle.avr_part.specs.PartFile.{Bytes, ◌>>=◌}
use Rattle.avr_plan.specs.Split.{after_prefix, split_last}
use Rattle.avr_plan.specs.declared.settings.Port.{Port}
use Rattle.avr_plan.specs.declared.settings.Port.TheVariants.{Stdio, Emulated, Network, Served}
use Rattle.avr_plan.specs.declared.settings.SettingsFault.{SettingsFault}
use Rattle.avr_plan.specs.declared.settings.SettingsFault.TheVariants.{BadPort, NoChip}

-- only decimal digits, with a value from 1 to 65535
abbrev pub port_number : Bytes → Option ℕ
port_number text =
    if list_all is_ascii_digit text && nat_le 1 (digits_value 10 text) && nat_lt (digits_value 10 text) 65536
    then Some (digits_value 10 text) else None

-- a host that isn't empty, the last colon, and a port number
abbrev pub is_address : Bytes → Bool
is_address text =
    option_map_or (λ parts. not (length parts.0 == 0) && is_some (port_number parts.1)) (split_last text) false

-- the port that the text of `-P` names
abbrev pub port_of : Bytes → Result Port SettingsFault
port_of text =
    if bytes_eq text (codes "stdio:") then Ok Stdio
    else elim (after_prefix (codes "emu:") text) [
      | Some file ↦ if length file == 0 then Err (BadPort (Some text)) else Ok (Emulated file)
      | None ↦ elim (after_prefix (codes "net:") text) [
        | Some address ↦ if is_address address then Ok (Network address) else Err (BadPort (Some text))
        | None ↦ Err (BadPort (Some text))
      ]
    ]

-- the port of `-P`, which has to be given
abbrev pub port_of_option : Option Bytes → Result Port SettingsFault
port_of_option given = ok_or given (BadPort None) >>= port_of

-- the port of `--serve`, by its number, with the file of `--chip`
abbrev pub port_to_serve : Bytes → Option ℕ → Option Bytes → Result Port SettingsFault
port_to_serve text None chip = Err (BadPort (Some text))
port_to_serve text (Some n) None = Err NoChip
port_to_serve text (Some n) (Some chip) = Ok (Served text chip)
