-- The bitmap of an image, octet by octet, as `put_bitmap` makes it.
use Rattle.std.proofs.lemmas.Bool.Decides.{nat_tests}
use Rattle.std.proofs.Common.{◌≡◌, ◌∙◌, ap, refl, arith, ℕ, zero, suc, ◌+◌, ◌*◌, ◌/◌, ◌<◌, ◌≤◌, List, [], ◌∷◌, length, get_or, set, take, drop, replicate, ◌++◌, ◌-◌, Option, Some, None, rules}
use Rattle.std.proofs.lemmas.List.{get_or-set_same, get_or-set_other, get_or_append_left, get_or-append_right, get_or-take, get_or-replicate, get_or-drop, length-take-le, length-replicate}
use Rattle.avr_image.specs.Image.{first_from, run_end}
use Rattle.avr_image.proofs.Lemmas.{next_held, none_held, run_is_longest}
use Rattle.avr_records_c.specs.Bitmap.{octet, octets, bitmap}

-- a list of the octets of an image is its bitmap
octets_are : (image : List (Option ℕ)) (k n : ℕ) (xs : List ℕ) → length xs ≡ n
    → ((i : ℕ) → i < n → get_or xs i 0 ≡ octet image ((k + i) * 8)) → xs ≡ octets image k n
octets_are image k zero [] len each = refl
octets_are image k (suc n) (x ∷ xs) len each =
    let first : x ≡ octet image (k * 8) = each 0 (omega arith) ∙ ap (λ (a : ℕ). octet image (a * 8)) (omega arith) in
    let rest : xs ≡ octets image (k + 1) n = octets_are image (k + 1) n xs (omega (arith, len))
    (λ i l. each (suc i) (omega arith) ∙ ap (λ (a : ℕ). octet image (a * 8)) (omega arith)) in search rules
octets_are image k y z len each = absurd (omega (arith, len))

-- the same from the first octet on
pub bitmap_is : (image : List (Option ℕ)) (n : ℕ) (xs : List ℕ) → length xs ≡ n
    → ((i : ℕ) → i < n → get_or xs i 0 ≡ octet image (i * 8)) → xs ≡ bitmap image n
bitmap_is image n xs len each = grind (arith, nat_tests, octets_are)

-- ---- octets of gaps alone, and octets without a gap

-- the octets before that of the next byte, and those after the last byte
pub gap_before : (image : List (Option ℕ)) (from place : ℕ) → first_from image (from * 8) ≡ Some place
    → (i : ℕ) → from ≤ i → i < place / 8 → octet image (i * 8) ≡ 0
gap_before image from place found i after before = search (rules, next_held image (from * 8) place found)

pub gap_behind : (image : List (Option ℕ)) (from : ℕ) → first_from image (from * 8) ≡ None
    → (i : ℕ) → from ≤ i → octet image (i * 8) ≡ 0
gap_behind image from none i after = search (rules, none_held, nat_tests)

-- the octets of a run
pub full_inside : (image : List (Option ℕ)) (first end : ℕ) → first * 8 ≤ end
    → (i : ℕ) → first ≤ i → i < run_end image (first * 8) end / 8 → octet image (i * 8) ≡ 255
full_inside image first end ordered i after before = search (rules, run_is_longest, nat_tests)

-- ---- a bitmap that is put from the beginning on

-- the first n octets, and no bit after them
pub record PutUpTo (image : List (Option ℕ)) (n : ℕ) (xs : List ℕ) : Type 0 where
  pub put : (i : ℕ) → i < n → get_or xs i 0 ≡ octet image (i * 8)
  pub zeros : (i : ℕ) → n ≤ i → get_or xs i 0 ≡ 0

-- all octets are put
pub put_all : (image : List (Option ℕ)) (n : ℕ) (xs : List ℕ) → PutUpTo image n xs → length xs ≤ n
    → xs ≡ bitmap image (length xs)
put_all image n xs p long = grind (arith, nat_tests, bitmap_is)

-- the octets before the next byte, or all if there is none
pub put_gap : (image : List (Option ℕ)) (from place : ℕ) (xs : List ℕ) → first_from image (from * 8) ≡ Some place
    → PutUpTo image from xs → PutUpTo image (place / 8) xs
put_gap image from place xs found p =
    grind (arith, nat_tests, next_held image (from * 8) place found, gap_before image from place found)

-- if no byte follows, the octets that are put are the bitmap
pub none_put : (image : List (Option ℕ)) (from : ℕ) (xs : List ℕ) → first_from image (from * 8) ≡ None
    → PutUpTo image from xs → xs ≡ bitmap image (length xs)
none_put image from xs none p = grind (arith, nat_tests, bitmap_is, gap_behind image from none)

-- one more octet is put
pub put_one : (image : List (Option ℕ)) (first byte : ℕ) (xs : List ℕ) → first < length xs
    → byte ≡ octet image (first * 8) → PutUpTo image first xs → PutUpTo image (first + 1) (set xs first byte)
put_one image first byte xs inside is p = grind (arith, nat_tests, get_or-set_other, get_or-set_same)

-- the octets of a run are put
pub put_run : (image : List (Option ℕ)) (first end size : ℕ) (xs ys : List ℕ) → PutUpTo image first xs
    → first * 8 ≤ size → first ≤ end → end ≤ run_end image (first * 8) size / 8
    → ys ≡ take first xs ++ (replicate (end - first) 255 ++ drop end xs) → end ≤ length xs → PutUpTo image end ys
put_run image first end size xs ys p ordered rises inside is within =
    grind (
      arith,
      nat_tests,
      full_inside,
      get_or_append_left,
      get_or-append_right,
      get_or-take,
      get_or-replicate,
      get_or-drop,
      length-take-le,
      length-replicate,
    )
