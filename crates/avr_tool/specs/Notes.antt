-- What one call adds to the notes of a desk of six calls.
use Rattle.std.specs.Prelude.{◌+◌, ◌++◌, ◌∷◌, [], Some, None}
use Rattle.avr_tool.specs.Noted.{Noted}
use Rattle.avr_tool.specs.declared.noted.Note.{Note}
use Rattle.avr_tool.specs.declared.noted.Note.TheVariants.{Held, Released, Replaced, Tried}

abbrev pub after_note : Note → Noted → Noted
after_note (Held name) n = record n { held = Some name.now }
after_note Released n = record n { held = None; releases = n.releases + 1 }
after_note (Replaced name bytes) n =
    record n { held = None; tried = n.tried ++ record { name = name.now; bytes = bytes.now } ∷ [] }
after_note (Tried name bytes) n = record n { tried = n.tried ++ record { name = name.now; bytes = bytes.now } ∷ [] }
