-- The loop of `parse_immediate`, value by value, gives the image of the text's values.
use Rattle.std.proofs.lemmas.Grind.{common_steps}
use Rattle.std.proofs.Common.{◌≡◌, ◌∙◌, sym, ap, refl, arith, ℕ, suc, zero, ◌+◌, ◌<◌, ◌≤◌, List, [], ◌∷◌, ◌++◌, length, map, filter, take, drop, replicate, eqb, Bool, cond, nat_lt, Option, None, Result, Ok, Err, inl, inr, rules}
use Rattle.std.proofs.lemmas.List.{length-append, append_assoc, append-nil, length-take}
use Rattle.std.proofs.lemmas.Bool.{cases_Bool}
use Rattle.std.proofs.lemmas.List.Sums.{position_or_len_is, prefix_len-le-length}
use Rattle.std.proofs.lemmas.Result.{err_from_is_err_and}
use Rattle.std.proofs.lemmas.Bool.Decides.{nat_tests}
use Rattle.std.specs.List.{enumerate_from, slice_split, position_or_len, onto_first}
use Rattle.avr_image.specs.Image.{empty, from_zero, with_byte}
use Rattle.avr_image.specs.Values.{is_separator, fitting, byte_of_value, value_of, all_ok, onto_ok, image_of_bytes, pieces}
use Rattle.avr_image.specs.declared.fault.ImageFault.{ImageFault}
use Rattle.avr_image.proofs.Places.Laid.{from_zero_next, length_from_zero}

-- after a good value the image goes on, and a fault ends it
abbrev pub on_ok : Result ℕ ImageFault → (ℕ → Result (List (Option ℕ)) ImageFault) → Result (List (Option ℕ)) ImageFault
on_ok (Ok byte) more = more byte
on_ok (Err fault) more = Err fault

-- an image with the values of some pieces, from an address on
abbrev pub with_pieces : List (Option ℕ) → ℕ → List (List ℕ) → Result (List (Option ℕ)) ImageFault
with_pieces image addr [] = Ok image
with_pieces image addr (piece ∷ more) =
    on_ok (byte_of_value (length image) (addr, piece)) (λ b. with_pieces (with_byte image addr b) (addr + 1) more)

-- these bytes, then those of the result
abbrev pub before : List ℕ → Result (List ℕ) ImageFault → Result (List ℕ) ImageFault
before bytes (Ok more) = Ok (bytes ++ more)
before bytes (Err fault) = Err fault

-- these bytes, without a fault
abbrev ok_of : List ℕ → Result (List ℕ) ImageFault
ok_of xs = Ok xs

-- no bytes before change nothing
pub before_none : (rest : Result (List ℕ) ImageFault) → before [] rest ≡ rest
before_none x = grind (arith, nat_tests)

-- a good value has an address below the size
pub fitting_below : (size addr : ℕ) (value : Option ℕ) (byte : ℕ) → fitting size addr value ≡ Ok byte → addr < size
fitting_below size addr value byte e = search (rules, nat_tests)

-- one more value leads to the same image as all values at once
with_next : (bytes : List ℕ) (size addr : ℕ) (parts : List (List ℕ)) (rest : Result (List ℕ) ImageFault)
    (r : Result ℕ ImageFault) → ((byte : ℕ) → r ≡ Ok byte → addr < size) → addr ≡ length bytes
    → ((byte : ℕ) → addr < size → with_pieces (from_zero (bytes ++ byte ∷ []) size) (addr + 1) parts
    ≡ image_of_bytes size (before (bytes ++ byte ∷ []) rest))
    → on_ok r (λ byte. with_pieces (with_byte (from_zero bytes size) addr byte) (addr + 1) parts)
    ≡ image_of_bytes size (before bytes (onto_ok r rest))
with_next bytes size addr parts rest r below here more = search (rules, from_zero_next, append_assoc)

-- piece by piece the image becomes that of all values
pub with_pieces_is : (bytes : List ℕ) (size addr : ℕ) (parts : List (List ℕ)) → addr ≡ length bytes
    → length bytes ≤ size → with_pieces (from_zero bytes size) addr parts
    ≡ image_of_bytes size (before bytes (all_ok (map (byte_of_value size) (enumerate_from addr parts))))
with_pieces_is bytes size addr [] here l = ap (λ (xs : List ℕ). image_of_bytes size (ok_of xs)) (sym (append-nil bytes))
with_pieces_is bytes size addr (piece ∷ parts) here l =
    let size_is : length (from_zero bytes size) ≡ size = length_from_zero bytes size l in
    ap (λ (n : ℕ). on_ok (byte_of_value n (addr, piece))
    (λ byte. with_pieces (with_byte (from_zero bytes size) addr byte) (addr + 1) parts)) size_is
    ∙ with_next bytes size addr parts (all_ok (map (byte_of_value size) (enumerate_from (addr + 1) parts)))
    (byte_of_value size (addr, piece))
    (λ byte e. fitting_below size addr (value_of piece) byte e) here
    (λ byte low. with_pieces_is (bytes ++ byte ∷ []) size (addr + 1) parts
    (omega (arith, here, length-append bytes (byte ∷ []))) (omega (arith, here, low, length-append bytes (byte ∷ []))))

-- with at least one piece the image is that of all pieces
pub values_of_some : (size : ℕ) (parts : List (List ℕ)) (one : Result (List (Option ℕ)) ImageFault) → 0 < length parts
    → cond (eqb (length parts) 0) one (image_of_bytes size (all_ok (map (byte_of_value size) (enumerate_from 0 parts))))
    ≡ with_pieces (empty size) 0 parts
values_of_some size [] one some = absurd (omega (arith, some))
values_of_some size (piece ∷ parts) one some =
    let none : from_zero [] size ≡ empty size = ap (λ (n : ℕ). replicate {A = Option ℕ} n None) (omega arith) in
    let whole = with_pieces_is [] size 0 (piece ∷ parts) refl (omega arith) in
    search (rules, before_none, none, whole)

-- ---- the first piece

-- the pieces after a separator
abbrev tails : (ℕ → Bool) → List ℕ → List (List ℕ)
tails p [] = []
tails p (x ∷ xs) = slice_split p xs

-- the first piece ends at the first separator
prefix : (p : ℕ → Bool) (xs : List ℕ) → slice_split p xs
    ≡ take (position_or_len p xs) xs ∷ tails p (drop (position_or_len p xs) xs)
prefix p [] = refl
prefix p (x ∷ xs) = elim (cases_Bool (p x)) [
  | inl cut ↦ rw cut refl
  | inr kept ↦
      let len : 1 + position_or_len p xs ≡ suc (position_or_len p xs) = omega arith in
      rw (kept, len) (ap (onto_first x) (prefix p xs))
]

-- an empty text has no pieces
pub no_pieces : (xs : List ℕ) → length xs ≡ 0 → pieces xs ≡ []
no_pieces xs none = grind (arith, common_steps)

-- the pieces after a separator are those of the text after it
pieces_tails : (xs : List ℕ) (n : ℕ) → n ≡ position_or_len is_separator xs
    → filter (λ piece. nat_lt 0 (length piece)) (tails is_separator (drop n xs)) ≡ pieces (drop n xs)
pieces_tails [] zero here = refl
pieces_tails [] (suc n) here = refl
pieces_tails (x ∷ xs) n here = elim (cases_Bool (is_separator x)) [
  | inl cut ↦
      let len : n ≡ 0 = here ∙ rw cut refl in
      rw (len, cut) refl
  | inr kept ↦
      let len : n ≡ suc (position_or_len is_separator xs) = here ∙ rw kept (omega arith) in
      rw len (pieces_tails xs (position_or_len is_separator xs) refl)
]

-- a text that doesn't begin with a separator has its first bytes as a piece
pub pieces_prefix : (xs : List ℕ) (n : ℕ) → n ≡ position_or_len is_separator xs → 0 < n
    → pieces xs ≡ take n xs ∷ pieces (drop n xs)
pieces_prefix xs n here some = grind (arith, nat_tests, prefix_len-le-length, length-take, filter, prefix, pieces_tails)

-- one more piece, bad or good
pub piece_bad : (image : List (Option ℕ)) (addr : ℕ) (piece : List ℕ) (more : List (List ℕ)) (fault : ImageFault)
    → byte_of_value (length image) (addr, piece) ≡ Err fault → with_pieces image addr (piece ∷ more) ≡ Err fault
piece_bad image addr piece more fault e = grind (arith, nat_tests)

-- a good piece puts its byte
pub piece_good : (image : List (Option ℕ)) (addr : ℕ) (piece : List ℕ) (more : List (List ℕ)) (byte : ℕ)
    → byte_of_value (length image) (addr, piece) ≡ Ok byte
    → with_pieces image addr (piece ∷ more) ≡ with_pieces (with_byte image addr byte) (addr + 1) more
piece_good image addr piece more byte e = grind (arith, nat_tests)

-- the lemmas for `piece_len`, and for the loop of `parse_immediate`
pub ruleset first_piece = (nat_tests, position_or_len_is)

pub ruleset one_value = (piece_bad, piece_good, fitting_below)

pub ruleset values_read = (nat_tests, err_from_is_err_and, pieces_prefix, no_pieces, values_of_some, one_value)
