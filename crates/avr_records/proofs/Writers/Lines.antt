-- A written line reads back as its record, and is the first line of the text.
use Rattle.std.proofs.Common.{◌≡◌, ◌∙◌, ap, refl, arith, ℕ, ◌≤◌, nat_lt, Bool, true, false, not, ◌&&◌, List, [], ◌∷◌, ◌++◌, length, Ok, Err, rules}
use Rattle.std.specs.Prelude.{if◌then◌else◌}
use Rattle.std.specs.List.{list_all}
use Rattle.std.proofs.lemmas.Bool.{and_parts}
use Rattle.std.proofs.lemmas.Bool.Decides.{nat_tests}
use Rattle.std.proofs.lemmas.List.{take_all, take_at, append_assoc, length-append}
use Rattle.std.proofs.lemmas.List.Sums.{list_all-from_AllPass, AllPass-from_list_all, suffix_len_is}
use Rattle.hex.specs.Hex.{IsBytes, is_hex_digit, encode_upper}
use Rattle.hex.proofs.HexLemmas.{decode_of-encode_upper, decode_of-ok}
use Rattle.avr_records.specs.Lines.{lines, is_line_end, is_blank, trimmed_line}
use Rattle.avr_records.specs.Text.{IsLine}
use Rattle.avr_records.specs.Record.{bytes_of_digits, longest, unless_long}
use Rattle.avr_records.specs.Line.{trimmed_line_record}
use Rattle.std.proofs.lemmas.List.Folds.{list_all-append}
use Rattle.avr_records.specs.Reading.{line_result, trimmed_line_result, record_meaning}
use Rattle.avr_records.specs.declared.kind.Kind.{Kind}
use Rattle.avr_records.specs.declared.fault.LineFault.TheVariants.{TooLong}

-- the character is neither a line end nor a blank
abbrev pub is_plain : ℕ → Bool
is_plain c = not (is_line_end c) && not (is_blank c)

-- a digit is neither a line end nor a blank
plain_digit : (c : ℕ) → is_hex_digit c ≡ true → is_plain c ≡ true
plain_digit c digit = grind (arith, nat_tests)

-- nor is one of several digits
pub plain_digits : (cs : List ℕ) → list_all is_hex_digit cs ≡ true → list_all is_plain cs ≡ true
plain_digits [] all = refl
plain_digits (c ∷ cs) all =
    let parts = and_parts (is_hex_digit c) (list_all is_hex_digit cs) all in
    rw (plain_digit c parts.0) (plain_digits cs parts.1)

-- bytes are written as digits
pub encode_digits : (bytes : List ℕ) → IsBytes bytes → list_all is_hex_digit (encode_upper bytes) ≡ true
encode_digits bytes all =
    list_all-from_AllPass is_hex_digit (encode_upper bytes)
    (decode_of-ok (encode_upper bytes) bytes (decode_of-encode_upper bytes all)).1

-- the digits of bytes read as those bytes
pub bytes_of_encode : (bytes : List ℕ) → IsBytes bytes → bytes_of_digits (encode_upper bytes) ≡ Ok bytes
bytes_of_encode bytes all = grind (arith, nat_tests, encode_digits, decode_of-encode_upper)

-- nothing is trimmed from a line without blanks
trimmed_plain : (line : List ℕ) → list_all is_plain line ≡ true → trimmed_line line ≡ line
trimmed_plain line plain =
    let all = AllPass-from_list_all is_plain line plain in search (rules, suffix_len_is, take_all)

-- a line means what it means when trimmed, unless it is too long
emits_bare : (kind : Kind) (line : List ℕ) → line_result kind line ≡ unless_long (trimmed_line_result kind) line
emits_bare x line = grind (arith, nat_tests)

-- a line that isn't too long means what its record means
pub result_plain : (kind : Kind) (c : ℕ) (cs : List ℕ) → list_all is_plain (c ∷ cs) ≡ true
    → length (c ∷ cs) ≤ 600 → line_result kind (c ∷ cs) ≡ record_meaning kind (trimmed_line_record kind (c ∷ cs))
result_plain kind c cs plain short =
    let bare : line_result kind (c ∷ cs) ≡ unless_long (trimmed_line_result kind) (c ∷ cs) = emits_bare kind (c ∷ cs) in
    let test : nat_lt longest (length (c ∷ cs)) ≡ false = grind (arith, nat_tests) in
    bare
    ∙ ap (λ (long : Bool). if long then Err TooLong else trimmed_line_result kind (trimmed_line (c ∷ cs))) test
    ∙ ap (trimmed_line_result kind) (trimmed_plain (c ∷ cs) plain)

-- a line without a line end is the first of the lines
open_lines : (line rest : List ℕ) → list_all (λ c. not (is_line_end c)) line ≡ true
    → lines (line ++ 10 ∷ rest) ≡ line ∷ lines rest
open_lines [] rest all = refl
open_lines (c ∷ cs) rest all =
    let parts = and_parts (not (is_line_end c)) (list_all (λ c. not (is_line_end c)) cs) all in
    search (rules, open_lines cs rest parts.1)

-- such a line has no line end
open_plain : (cs : List ℕ) → list_all is_plain cs ≡ true → list_all (λ c. not (is_line_end c)) cs ≡ true
open_plain [] all = refl
open_plain (c ∷ cs) all =
    let parts = and_parts (is_plain c) (list_all is_plain cs) all in search (rules, open_plain cs parts.1)

-- so it is the first of the lines
pub lines_plain : (line rest : List ℕ) → list_all is_plain line ≡ true → lines (line ++ 10 ∷ rest) ≡ line ∷ lines rest
lines_plain line rest plain = open_lines line rest (open_plain line plain)

-- the same, of a text that ends with LF and goes on
pub lines_written : (line rest : List ℕ) → list_all is_plain line ≡ true
    → lines ((line ++ 10 ∷ []) ++ rest) ≡ line ∷ lines rest
lines_written line rest plain = ap lines (append_assoc line (10 ∷ []) rest) ∙ lines_plain line rest plain

-- ---- a record is one line

-- marks, digits and LF are one line
pub is_line : (marks bytes text : List ℕ) → list_all (λ c. not (is_line_end c)) marks ≡ true → IsBytes bytes
    → text ≡ (marks ++ encode_upper bytes) ++ 10 ∷ [] → IsLine text
is_line marks bytes text plain all is =
    search (rules, open_lines, list_all-append, open_plain, plain_digits, encode_digits, length-append, take_at)
