-- Lists of numbers on one line, as AVRDUDE's formats `d`, `h`, `o` and `b` have them.
use Rattle.std.specs.Prelude.{ℕ, nat_lt, Bool, false, List, [], ◌∷◌, ◌++◌, map, if◌then◌else◌}
use Rattle.std.specs.List.{join_with_byte}
use Rattle.std.specs.Fmt.{digits}
use Rattle.avr_image.specs.declared.list.Base.{Base}
use Rattle.avr_image.specs.declared.list.Base.TheVariants.{Dec, Hex, Oct, Bin}

-- How many digits a base has.
abbrev pub radix : Base → ℕ
radix Dec = 10
radix Hex = 16
radix Oct = 8
radix Bin = 2

-- The characters before a number's digits: none, `0x`, `0` from 8 on, or `0b`.
abbrev pub prefix : Base → ℕ → List ℕ
prefix Dec n = []
prefix Hex n = 48 ∷ 120 ∷ []
prefix Oct n = if nat_lt n 8 then [] else 48 ∷ []
prefix Bin n = 48 ∷ 98 ∷ []

-- One number, with its prefix.
abbrev pub number_text : Base → ℕ → List ℕ
number_text base n = prefix base n ++ digits (radix base) false n

-- The numbers joined by commas.
abbrev pub list_line : Base → List ℕ → List ℕ
list_line base bytes = join_with_byte 44 (map (number_text base) bytes)

-- The line of numbers joined by commas, with its line end: the file that is written.
abbrev pub list_text : Base → List ℕ → List ℕ
list_text base bytes = list_line base bytes ++ 10 ∷ []

-- The text that `ListWriter` has not written yet. `ended` is true once it wrote all.
abbrev pub list_rest : Bool → Base → List ℕ → List ℕ
list_rest ended base bytes = if ended then [] else list_text base bytes
