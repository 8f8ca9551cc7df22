-- The messages about a port that cannot be opened, and about a chip file that is in use or has the wrong length. Those
-- about any file are in avr_io.
use Rattle.std.specs.Prelude.{ℕ, List, [], ◌∷◌, codes, decimal}
use Rattle.avr_io.specs.Record.{Bytes}

-- The port as it was given: `net:` and a name for `-P`, nothing and a name for `--serve`.
abbrev pub unopened_pieces : Bytes → Bytes → List Bytes
unopened_pieces scheme name = codes "port " ∷ scheme ∷ name ∷ codes " cannot be opened" ∷ []

abbrev pub in_use_pieces : Bytes → List Bytes
in_use_pieces file = file ∷ codes ": in use by another run" ∷ []

abbrev pub length_pieces : Bytes → ℕ → ℕ → List Bytes
length_pieces file found expected =
    file ∷ codes ": " ∷ decimal found ∷ codes " bytes, " ∷ decimal expected ∷ codes " expected" ∷ []
