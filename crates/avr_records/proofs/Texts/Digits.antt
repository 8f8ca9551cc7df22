-- What decoding returns for an even number of digits.
use Rattle.std.proofs.lemmas.Grind.{common_steps}
use Rattle.std.proofs.lemmas.Bool.Decides.{nat_tests}
use Rattle.std.proofs.Common.{◌≡◌, refl, arith, ℕ, ◌*◌, ◌%◌, List, length, true, false, Result, Ok, Err, MatchResult}
use Rattle.std.proofs.lemmas.List.Sums.{list_all-from_AllPass}
use Rattle.std.specs.List.{list_all}
use Rattle.hex.specs.Hex.{is_hex_digit, decode_of, decode_sized}
use Rattle.hex.specs.declared.error.FromHexError.{FromHexError}
use Rattle.hex.proofs.HexLemmas.{decode_of-ok, decode_of-digits}
use Rattle.avr_records.specs.Record.{bytes_of_digits}
use Rattle.avr_records.specs.declared.fault.LineFault.TheVariants.{Digit}

-- what a call of the decoder returns and writes
abbrev pub Decoded : List ℕ → List ℕ → Result Unit FromHexError → Result (List ℕ) FromHexError → Type 0
Decoded digits out result of = MatchResult of (λ bytes. (result ≡ Ok tt) × (out ≡ bytes)) (λ e. result ≡ Err e)

-- if all are digits, the decoder succeeds, and its bytes are those of the digits
all_digits : (digits out : List ℕ) (result : Result Unit FromHexError) → length digits % 2 ≡ 0
    → list_all is_hex_digit digits ≡ true
    → Decoded digits out result (decode_of digits) → (result ≡ Ok tt) × (bytes_of_digits digits ≡ Ok out)
all_digits digits out result even all is = grind (arith, common_steps, decode_of-digits)

-- if one isn't a digit, the decoder fails, and no bytes are of the digits
no_digit : (digits out : List ℕ) (result : Result Unit FromHexError) (of : Result (List ℕ) FromHexError)
    → decode_of digits ≡ of → list_all is_hex_digit digits ≡ false
    → Decoded digits out result of → (e : FromHexError) × (result ≡ Err e) × (bytes_of_digits digits ≡ Err Digit)
no_digit digits out result (Ok bytes) is none facts =
    let all : list_all is_hex_digit digits ≡ true =
    list_all-from_AllPass is_hex_digit digits (decode_of-ok digits bytes is).1 in absurd (grind arith)
no_digit digits out result (Err e) is none fact = (e, fact, rw none refl)

-- after a success of the decoder its bytes are those of the digits
pub decoded_ok : (digits out : List ℕ) (n : ℕ) (result : Result Unit FromHexError) → length digits ≡ 2 * n
    → Decoded digits out result (decode_sized digits n) → result ≡ Ok tt → bytes_of_digits digits ≡ Ok out
decoded_ok digits out n result len facts ok = grind (arith, nat_tests, no_digit)

-- after an error of the decoder the digits are refused
pub decoded_err : (digits out : List ℕ) (n : ℕ) (result : Result Unit FromHexError) (e : FromHexError)
    → length digits ≡ 2 * n
    → Decoded digits out result (decode_sized digits n) → result ≡ Err e → bytes_of_digits digits ≡ Err Digit
decoded_err digits out n result e len facts err = grind (arith, nat_tests, all_digits)
