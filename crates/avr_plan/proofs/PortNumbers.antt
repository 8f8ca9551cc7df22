-- Numbers of ports.
use Rattle.std.proofs.lemmas.Grind.{common_steps}
use Rattle.std.proofs.Common.{◌≡◌, rules, ℕ, ◌<◌, ◌^◌, true, List, length, None, Err, arith}
use Rattle.std.proofs.lemmas.Str.Parse.{IsNumeralModel, numerals_by_value, parse_digits}
use Rattle.std.specs.List.{list_all}
use Rattle.std.specs.Char.{is_ascii_digit}
use Rattle.std.specs.Str.Parse.{digits_value, ParsesUnsigned}
use Rattle.avr_plan.specs.Port.{port_number}

-- All characters are decimal digits.
abbrev IsDigits : List ℕ → Type 0
IsDigits ds = list_all is_ascii_digit ds ≡ true

-- Decimal digits are numerals with their value.
pub digits : IsNumeralModel IsDigits (digits_value 10)
digits = numerals_by_value IsDigits (search rules)

-- Digits without a value of 16 bits are no port number.
too_large : (text : List ℕ) → ((0 < length text) × (digits_value 10 text < 2 ^ 16) → ⊥) → port_number text ≡ None
too_large text h = grind (arith, common_steps)

-- Digits that parsing refuses are no port number.
pub port_number-refused : {E : Type 0} (text : List ℕ) (e : E) → ParsesUnsigned 16 10 text (Err e) → IsDigits text
    → port_number text ≡ None
port_number-refused text e h own = too_large text (parse_digits digits 16 text (Err e) h own)
