-- Texts split at a colon or after a prefix.
use Rattle.std.specs.Prelude.{◌==◌, ℕ, [], ◌∷◌, Option, Some, None, option_map, if◌then◌else◌}
use Rattle.std.specs.Option.{option_or}
use Rattle.avr_part.specs.PartFile.{Bytes}

-- what follows this prefix, if the text begins with it
abbrev pub after_prefix : Bytes → Bytes → Option Bytes
after_prefix [] text = Some text
after_prefix (p ∷ ps) [] = None
after_prefix (p ∷ ps) (c ∷ cs) = if p == c then after_prefix ps cs else None

-- the code of `:`
abbrev pub colon : ℕ
colon = 58

-- the two texts, the first one with this byte before it
abbrev pub with_byte_before : ℕ → Option (Bytes × Bytes) → Option (Bytes × Bytes)
with_byte_before c = option_map (λ p. (c ∷ p.0, p.1))

-- the texts before and after the first colon
abbrev pub split_first : Bytes → Option (Bytes × Bytes)
split_first [] = None
split_first (c ∷ cs) = if c == colon then Some ([], cs) else with_byte_before c (split_first cs)

-- the texts before and after the last colon
abbrev pub split_last : Bytes → Option (Bytes × Bytes)
split_last [] = None
split_last (c ∷ cs) = option_or (with_byte_before c (split_last cs)) (if c == colon then Some ([], cs) else None)
