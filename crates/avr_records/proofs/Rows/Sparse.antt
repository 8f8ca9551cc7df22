-- What isn't a line of a record file.
use Rattle.std.proofs.Common.{◌++◌, [], ◌∷◌}
use Rattle.std.specs.Prelude.{ℕ, List, codes}
use Rattle.avr_records.specs.Text.{IsLine}

-- the end of a line
abbrev lf : List ℕ
lf = 10 ∷ []

-- two records are no line
pub two_lines_are_none : IsLine (codes ":00000001FF" ++ lf ++ codes "S9030000FC" ++ lf) → ⊥
two_lines_are_none is = cc is

-- a record without LF is no line
pub a_line_without_its_end_is_none : IsLine (codes ":00000001FF") → ⊥
a_line_without_its_end_is_none is = cc is
