-- The first row and the first record of a record file's text.
use Rattle.std.proofs.Common.{◌≡◌, ◌∙◌, sym, ap, refl, arith, ℕ, zero, suc, ◌+◌, ◌-◌, ◌/◌, ◌%◌, ◌<◌, ◌≤◌, List, [], ◌∷◌, ◌++◌, length, take, drop, min, map, add-zero, set, get_or, inl, inr, Some, rules}
use Rattle.std.proofs.lemmas.Bool.{cases_lt}
use Rattle.std.proofs.lemmas.Bool.Decides.{nat_tests}
use Rattle.std.proofs.lemmas.List.{append_assoc, get_or-map, get_or_past, take_min, drop_all, drop_more, map_more, set_at, get_or_at, length-map, length-take-le, length-append}
use Rattle.std.specs.Char.{to_ascii_uppercase}
use Rattle.std.specs.Prelude.{slice_index}
use Rattle.hex.specs.Hex.{encode_with, encode_lower, encode_upper, lower_digits, upper_digits}
use Rattle.avr_records.specs.Text.{rows, rows_behind, width_of, low_bytes, two_bytes, ihex_record}
use Rattle.avr_records.specs.Sparse.{file_rows, new_upper, row_size}
use Rattle.avr_records.specs.declared.address_size.AddressSize.{AddressSize}
use Rattle.avr_records.specs.declared.kind.Kind.{Kind}

-- a lower-case digit, raised, is the upper-case one
raised_digit : (d : ℕ) → to_ascii_uppercase (slice_index lower_digits d) ≡ slice_index upper_digits d
raised_digit d =
    elim (cases_lt d 16) [
      | inl within ↦ sym (get_or-map to_ascii_uppercase lower_digits d 0 0 within)
      | inr past ↦ rw (get_or_past lower_digits d 0 past, get_or_past upper_digits d 0 past) refl
    ]

-- lower-case digits, raised, are the upper-case ones
pub raised_encode : (bytes : List ℕ) → map to_ascii_uppercase (encode_lower bytes) ≡ encode_upper bytes
unfolding encode_with
raised_encode [] = refl
raised_encode (b ∷ bs) = rw (raised_digit (b / 16), raised_digit (b % 16), raised_encode bs) refl

-- one more element of a list is changed, after those below i
pub changed_more : (f : ℕ → ℕ) (xs ys : List ℕ) (i : ℕ) → i < length xs → ys ≡ map f (take i xs) ++ drop i xs
    → set ys i (f (get_or ys i 0)) ≡ map f (take (i + 1) xs) ++ drop (i + 1) xs
changed_more f xs ys i within is =
    let prefix : List ℕ = map f (take i xs) in
    let at : ℕ = get_or xs i 0 in
    let rest : List ℕ = drop (i + 1) xs in
    let len : length prefix ≡ i = length-map (take i xs) f ∙ length-take-le i xs (omega arith) in
    let split : ys ≡ prefix ++ at ∷ rest = is ∙ ap (λ (zs : List ℕ). prefix ++ zs) (drop_more xs i 0 within) in
    let read : get_or ys i 0 ≡ at = ap (λ (zs : List ℕ). get_or zs i 0) split ∙ get_or_at prefix at rest 0 i len in
    ap (λ (n : ℕ). set ys i (f n)) read
    ∙ ap (λ (zs : List ℕ). set zs i (f at)) split
    ∙ set_at prefix at rest (f at) i len
    ∙ sym (append_assoc prefix (f at ∷ []) rest)
    ∙ ap (λ (zs : List ℕ). zs ++ rest) (sym (map_more f xs i 0 within))

-- rows after bytes that belong to an earlier row are rows of the bytes after those
pub rows_behind_drop : (taken : ℕ) (size : ℕ → ℕ) (addr : ℕ) (bytes : List ℕ)
    → rows_behind taken size addr bytes ≡ rows size (addr + taken) (drop taken bytes)
rows_behind_drop zero size addr [] = refl
rows_behind_drop (suc taken) size addr [] = refl
rows_behind_drop zero size addr (b ∷ bs) = ap (λ (a : ℕ). rows size a (b ∷ bs)) (sym (add-zero addr))
rows_behind_drop (suc taken) size addr (b ∷ bs) = grind (arith, nat_tests, rows_behind_drop taken size (addr + 1) bs)

-- one byte less to drop once one is taken away
pub drop_one_less : (s b : ℕ) (bs : List ℕ) → 0 < s → drop (s - 1) bs ≡ drop s (b ∷ bs)
drop_one_less s b bs some = search rules

-- the first row, of n bytes
pub rows_next : (size : ℕ → ℕ) (addr n : ℕ) (bytes : List ℕ) → 0 < length bytes → 0 < size addr
    → n ≡ min (size addr) (length bytes)
    → rows size addr bytes ≡ (addr, take n bytes) ∷ rows size (addr + n) (drop n bytes)
rows_next size addr n bytes some wide is = search (rules, nat_tests, take_min, rows_behind_drop, drop_all)

-- the low bytes of a number are as many as asked for
pub length_low_bytes : (size n : ℕ) → length (low_bytes size n) ≡ size
length_low_bytes zero n = refl
length_low_bytes (suc size) n = grind (arith, nat_tests, length_low_bytes size (n / 256), length-append)

-- an address of S-records has 2 to 4 bytes
pub address_has_2_to_4_bytes : (size : AddressSize) → (2 ≤ width_of size) × (width_of size ≤ 4)
address_has_2_to_4_bytes x = grind (arith, nat_tests)

-- a row has room for a byte
pub wide_row : (kind : Kind) (addr : ℕ) → 0 < row_size kind addr
wide_row x addr = grind (arith, nat_tests)

-- ---- the first record of the text of rows

-- the first record sets the upper 16 bits of the address
pub rows_upper : (kind : Kind) (upper new addr : ℕ) (size : AddressSize) (row : List ℕ) (more : List (ℕ × List ℕ))
    → new_upper kind upper addr ≡ Some new → file_rows kind upper size ((addr, row) ∷ more)
    ≡ ihex_record 4 0 (two_bytes new) ++ file_rows kind new size ((addr, row) ∷ more)
rows_upper kind upper new addr size row more is = search (rules, nat_tests, append_assoc)
