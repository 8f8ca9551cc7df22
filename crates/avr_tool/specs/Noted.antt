-- What a desk of six calls can't record.
use Rattle.std.specs.Prelude.{ℕ, List, [], Option, None}
use Rattle.avr_io.specs.Record.{Bytes}
use Rattle.avr_io.specs.declared.record.Writing.{Writing}

-- The held file, the replacements that created their file, also failed ones, and how many releases were asked for.
pub record Noted : Type 0 where
  pub held : Option Bytes
  pub tried : List Writing
  pub releases : ℕ

abbrev pub nothing_noted : Noted
nothing_noted = record { held = None; tried = []; releases = 0 }
