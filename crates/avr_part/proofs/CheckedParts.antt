-- Parts of a file, which are checked one after another.
use Rattle.std.proofs.Common.{◌≡◌, List, [], ◌∷◌, ◌++◌, Result, Ok, Err, String, Global, string_bytes, append_assoc, false, rules}
use Rattle.std.specs.Str.{is_utf8, IsUtf8}
use Rattle.std.proofs.lemmas.Bool.{false_from_ne_true}
use Rattle.std.proofs.lemmas.Str.{is_utf8-from_IsUtf8, IsUtf8-from_is_utf8}
use Rattle.toml.specs.View.{view, members_view}
use Rattle.toml.specs.declared.value.Value.{Value}
use Rattle.avr_part.specs.Part.{Part}
use Rattle.avr_part.proofs.LineCounts.{line_within}
use Rattle.avr_part.specs.PartFile.{Bytes, NamedFault, ◌>>=◌, in_part, part_of, parts_in}

-- these parts, then those of the result
abbrev pub onto : List Part → Result (List Part) NamedFault → Result (List Part) NamedFault
onto ps (Ok qs) = Ok (ps ++ qs)
onto ps (Err e) = Err e

-- one more part in front of the result is one more behind these
pub onto_next : (ps : List Part) (p : Part) (r : Result (List Part) NamedFault)
    → onto ps (r >>= (λ qs. Ok (p ∷ qs))) ≡ onto (ps ++ p ∷ []) r
onto_next ps p r = search (rules, append_assoc)

-- a good part goes behind those that were checked
pub checked_next : (all : Result (List Part) NamedFault) (ps : List Part) (left next : List (String Global × Value))
    (k : String Global) (v : Value) (p : Part) → left ≡ (k, v) ∷ next → all ≡ onto ps (parts_in (members_view left))
    → Ok p ≡ in_part (string_bytes k) (part_of (string_bytes k) (view v))
    → all ≡ onto (ps ++ p ∷ []) (parts_in (members_view next))
checked_next all ps left next k v p split so_far is = search (rules, onto_next)

-- bytes that aren't text
pub no_text : (bytes : Bytes) → (IsUtf8 bytes → ⊥) → is_utf8 bytes ≡ false
no_text bytes h = false_from_ne_true (is_utf8 bytes) (λ e. h (IsUtf8-from_is_utf8 bytes e))

-- whether bytes are text, and the line at which they stop being text
pub ruleset checks_text = (is_utf8-from_IsUtf8, no_text, line_within)
