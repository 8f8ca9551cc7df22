-- Bytes from digits in hexadecimal: half as many, and of digits alone.
use Rattle.std.proofs.Common.{◌≡◌, ◌*◌, ◌+◌, ap, ℕ, true, List, [], ◌∷◌, length, refl, Option, Some, None, Result, Ok, arith, rules}
use Rattle.std.specs.List.{list_all}
use Rattle.std.proofs.lemmas.Bool.Decides.{nat_tests}
use Rattle.hex.specs.Hex.{◌>>=◌, decode_of, decode_pairs, decode_sized, digit_or_error, hex_digit_value, is_hex_digit, pair_value, value_at}
use Rattle.hex.specs.declared.error.FromHexError.{FromHexError}

-- the first byte was decoded, and so was the rest
record BothDecoded (byte : Result ℕ FromHexError) (rest : Result (List ℕ) FromHexError) (bytes : List ℕ) : Type 0 where
  first : ℕ
  later : List ℕ
  first_is : byte ≡ Ok first
  rest_is : rest ≡ Ok later
  is : bytes ≡ first ∷ later

both_decoded : (byte : Result ℕ FromHexError) (rest : Result (List ℕ) FromHexError) (bytes : List ℕ)
    → (byte >>= (λ first. rest >>= (λ later. Ok (first ∷ later)))) ≡ Ok bytes → BothDecoded byte rest bytes
both_decoded byte rest bytes is = grind (arith)

-- a text has two digits for each byte
pairs_length : (i : ℕ) (text bytes : List ℕ) → decode_pairs i text ≡ Ok bytes → length text ≡ 2 * length bytes
unfolding decode_pairs
pairs_length i [] bytes is = search rules
pairs_length i (digit ∷ []) bytes is = search rules
pairs_length i (high ∷ low ∷ text) bytes is =
    let decoded = both_decoded (pair_value high low i) (decode_pairs (i + 2) text) bytes is in
    let later = pairs_length (i + 2) text decoded.later decoded.rest_is in omega (arith, later, ap length decoded.is)

-- as many bytes as were asked for
pub sized : (text : List ℕ) (n : ℕ) (bytes : List ℕ) → decode_sized text n ≡ Ok bytes → length bytes ≡ n
sized text n bytes is = grind (arith, nat_tests, pairs_length)

-- what has a value is a hexadecimal digit
digit_given : (digit i value : ℕ) → value_at digit i ≡ Ok value → is_hex_digit digit ≡ true
digit_given digit i value is = go (hex_digit_value digit) refl is
  where
    go : (o : Option ℕ) → hex_digit_value digit ≡ o → digit_or_error digit i o ≡ Ok value → is_hex_digit digit ≡ true
    go (Some v) same good = search (rules, same)
    go None same good = absurd (cc good)

digits_given : (high low i value : ℕ) → pair_value high low i ≡ Ok value
    → (is_hex_digit high ≡ true) × (is_hex_digit low ≡ true)
digits_given high low i value is = search (rules, digit_given)

-- a text that is decoded has only such digits
pairs_digits : (i : ℕ) (text bytes : List ℕ) → decode_pairs i text ≡ Ok bytes → list_all is_hex_digit text ≡ true
unfolding decode_pairs
pairs_digits i [] bytes is = refl
pairs_digits i (digit ∷ []) bytes is = absurd (cc is)
pairs_digits i (high ∷ low ∷ text) bytes is =
    let decoded = both_decoded (pair_value high low i) (decode_pairs (i + 2) text) bytes is in
    let two = digits_given high low i decoded.first decoded.first_is in
    search (rules, two.0, two.1, pairs_digits (i + 2) text decoded.later decoded.rest_is)

pub decoded_digits : (text bytes : List ℕ) → decode_of text ≡ Ok bytes → list_all is_hex_digit text ≡ true
decoded_digits text bytes is = search (rules, pairs_digits)
