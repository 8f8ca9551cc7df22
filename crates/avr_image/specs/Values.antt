-- Values given on the command line, AVRDUDE's format `m`: what `parse_immediate` reads.
use Rattle.std.specs.Prelude.{ℕ, Bool, ◌+◌, ◌-◌, ◌^◌, min, ◌==◌, ◌&&◌, ◌||◌, not, nat_lt, nat_le, List, [], ◌∷◌, length, map, filter, Option, Some, None, Result, Ok, Err, if◌then◌else◌}
use Rattle.std.specs.List.{list_all, slice_split, enumerate_from}
use Rattle.std.specs.Result.{result_map_both}
use Rattle.std.specs.Char.{digit_value}
use Rattle.std.specs.Str.Parse.{digits_value}
use Rattle.avr_image.specs.Image.{from_zero}
use Rattle.avr_image.specs.declared.fault.ImageFault.{ImageFault}
use Rattle.avr_image.specs.declared.fault.ImageFault.TheVariants.{OutOfRange, BadNumber, TooLarge}

-- A comma, a space or a tab.
abbrev pub is_separator : ℕ → Bool
is_separator c = c == 44 || c == 32 || c == 9

-- The parts between commas, spaces and tabs, without empty ones.
abbrev pub pieces : List ℕ → List (List ℕ)
pieces text = filter (λ piece. nat_lt 0 (length piece)) (slice_split is_separator text)

-- The character is a digit of this base.
abbrev pub is_digit_of : ℕ → ℕ → Bool
is_digit_of base c = nat_lt (digit_value c) base

-- The number of one or more digits of this base, or none if another character is among them.
abbrev pub number_in_base : ℕ → List ℕ → Option ℕ
number_in_base base digits =
    if nat_lt 0 (length digits) && list_all (is_digit_of base) digits
    then Some (digits_value base digits) else None

-- The number of one value: `0x` and hexadecimal digits, `0b` and binary ones, `0` and octal ones, or decimal digits.
abbrev pub value_of : List ℕ → Option ℕ
value_of (first ∷ second ∷ more) =
    if not (first == 48) then number_in_base 10 (first ∷ second ∷ more)
    else if second == 120 || second == 88 then number_in_base 16 more
    else if second == 98 || second == 66 then number_in_base 2 more
    else number_in_base 8 (second ∷ more)
value_of digits = number_in_base 10 digits

-- The 1-based number of the value for an address, at most 2^32 - 1, as faults report it.
abbrev pub place : ℕ → ℕ
place addr = min (addr + 1) (2 ^ 32 - 1)

-- Checks the value for `addr` and returns its byte, or the fault of a value that is no byte of this memory.
abbrev pub fitting : ℕ → ℕ → Option ℕ → Result ℕ ImageFault
fitting size addr None = Err (BadNumber (place addr))
fitting size addr (Some value) =
    if not (nat_le value 255) then Err (TooLarge (place addr))
    else if not (nat_lt addr size) then Err (OutOfRange addr)
    else Ok value

-- The byte of a value with its address, or the value's fault.
abbrev pub byte_of_value : ℕ → ℕ × List ℕ → Result ℕ ImageFault
byte_of_value size piece = fitting size piece.0 (value_of piece.1)

-- A byte before others, or the first fault.
abbrev pub onto_ok : Result ℕ ImageFault → Result (List ℕ) ImageFault → Result (List ℕ) ImageFault
onto_ok (Err fault) rest = Err fault
onto_ok (Ok byte) rest = result_map_both (λ bytes. byte ∷ bytes) (λ fault. fault) rest

-- All bytes, or the first fault.
abbrev pub all_ok : List (Result ℕ ImageFault) → Result (List ℕ) ImageFault
all_ok [] = Ok []
all_ok (r ∷ rs) = onto_ok r (all_ok rs)

-- The image of these bytes, if there was no fault.
abbrev pub image_of_bytes : ℕ → Result (List ℕ) ImageFault → Result (List (Option ℕ)) ImageFault
image_of_bytes size = result_map_both (λ bytes. from_zero bytes size) (λ fault. fault)

-- The image of the values, from address 0 on, or the first value's fault. A text without values is `BadNumber 1`.
abbrev pub image_of_values : List ℕ → ℕ → Result (List (Option ℕ)) ImageFault
image_of_values text size =
    if length (pieces text) == 0 then Err (BadNumber 1)
    else image_of_bytes size (all_ok (map (byte_of_value size) (enumerate_from 0 (pieces text))))
