-- Bytes put at addresses: address by address, in parts, and as a span.
use Rattle.std.proofs.Common.{rules, append_assoc, ◌≡◌, ◌≢◌, ◌∙◌, sym, ap, ap₂, refl, arith, ℕ, suc, zero, ◌+◌, ◌-◌, ◌<◌, ◌≤◌, List, [], ◌∷◌, ◌++◌, length, get_or, set, Bool, true, cond, ◌||◌, Option, Some, None, inl, inr, ◌⊎◌}
use Rattle.std.proofs.lemmas.Bool.{cases_lt}
use Rattle.std.proofs.lemmas.List.{get_or-set_same, get_or-set_other, length-set, length-drop, length-take, length-append, length-replicate, get_or_append_left, get_or-append_right, get_or-take, get_or-drop, length-map, map-append, set_at, append-nil}
use Rattle.std.proofs.lemmas.Bool.Decides.{nat_tests}
use Rattle.std.specs.List.{enumerate_from}
use Rattle.avr_image.specs.Image.{byte_at, over, empty, image_of_pairs, with_pairs, from_zero, fits, with_byte}
use Rattle.avr_image.specs.Present.{is_present, is_within}
use Rattle.avr_image.specs.Dense.{dense_image, with_span, IsSoundStorage}
use Rattle.avr_image.proofs.Fields.Masks.{within_low, within_high}
use Rattle.avr_image.proofs.Fields.Shown.{same_by_address, byte_at_shown, length_shown, small_pasted}

-- putting bytes keeps the size
pub laid_size : (image : List (Option ℕ)) (places : List (ℕ × ℕ))
    → length (with_pairs image places) ≡ length image
laid_size image [] = refl
laid_size image ((a, b) ∷ places) = laid_size (set image a (Some b)) places ∙ length-set image a
    (Some b)

-- ---- in parts

-- bytes of two lists are put one list after the other
pub with_pairs_append : (image : List (Option ℕ)) (xs ys : List (ℕ × ℕ))
    → with_pairs image (xs ++ ys) ≡ with_pairs (with_pairs image xs) ys
with_pairs_append image [] ys = refl
with_pairs_append image ((a, b) ∷ xs) ys = with_pairs_append (set image a (Some b)) xs ys

-- bytes laid over an image are the image of these bytes alone, laid over it: `laid_is_over`, for Walks/Runs
over_set : (a b : List (Option ℕ)) (i n : ℕ) → length a ≤ length b
    → set (over a b) i (Some n) ≡ over a (set b i (Some n))
over_set (x ∷ a) [] i n l = absurd (omega (arith, l))
over_set (x ∷ a) (y ∷ b) (suc i) n l = grind (arith, nat_tests, over_set a b i n (omega (arith, l)))
over_set z w v n l = refl

-- an empty image over another changes nothing
pub over_empty : (a : List (Option ℕ)) → over a (empty (length a)) ≡ a
over_empty [] = refl
over_empty (x ∷ a) = ap (λ (zs : List (Option ℕ)). x ∷ zs) (over_empty a)

-- an image over an empty one is that image
pub empty_over : (a : List (Option ℕ)) → over (empty (length a)) a ≡ a
empty_over [] = refl
empty_over (None ∷ a) = ap (λ (zs : List (Option ℕ)). None ∷ zs) (empty_over a)
empty_over (Some x ∷ a) = ap (λ (zs : List (Option ℕ)). Some x ∷ zs) (empty_over a)

-- several bytes put into the result may as well be put into the upper image
laid_over_over : (a b : List (Option ℕ)) (ys : List (ℕ × ℕ)) → length a ≤ length b
    → with_pairs (over a b) ys ≡ over a (with_pairs b ys)
laid_over_over a b [] l = refl
laid_over_over a b ((i, n) ∷ ys) l =
    ap (λ (image : List (Option ℕ)). with_pairs image ys) (over_set a b i n l)
    ∙ laid_over_over a (set b i (Some n)) ys (omega (arith, l, length-set b i (Some n)))

-- putting bytes into an image lays their own image over it
pub laid_is_over : (image : List (Option ℕ)) (ys : List (ℕ × ℕ))
    → with_pairs image ys ≡ over image (image_of_pairs (length image) ys)
laid_is_over image ys =
    ap (λ (before : List (Option ℕ)). with_pairs before ys) (sym (over_empty image))
    ∙ laid_over_over image (empty (length image)) ys
    (omega (arith, length-replicate {A = Option ℕ} (length image) None))

-- the image of two lists is that of the second over that of the first
pub parts_are_over : (size : ℕ) (xs ys : List (ℕ × ℕ))
    → image_of_pairs size (xs ++ ys) ≡ over (image_of_pairs size xs) (image_of_pairs size ys)
parts_are_over size xs ys = grind (
  arith,
  nat_tests,
  laid_size,
  length-replicate,
  with_pairs_append,
  laid_is_over,
)

-- of three images the middle one may be laid first
pub over_groups : (a b c : List (Option ℕ)) → length b ≡ length c → over (over a b) c ≡ over a (over b c)
over_groups (x ∷ a) [] (z ∷ c) l = absurd (omega (arith, l))
over_groups (x ∷ a) (y ∷ b) [] l = absurd (omega (arith, l))
over_groups (x ∷ a) (y ∷ b) (Some z ∷ c) l = grind (arith, nat_tests, over_groups a b c (omega (arith, l)))
over_groups (x ∷ a) (y ∷ b) (None ∷ c) l = grind (arith, nat_tests, over_groups a b c (omega (arith, l)))
over_groups y z w l = refl

-- ---- a span, address by address

-- below a span that was put nothing changes
pub span_below : (image : List (Option ℕ)) (addr : ℕ) (span : List ℕ) (i : ℕ) → i < addr
    → byte_at (with_pairs image (enumerate_from addr span)) i ≡ byte_at image i
span_below image addr [] i l = refl
span_below image addr (b ∷ span) i l =
    search (rules, arith, span_below (set image addr (Some b)) (addr + 1) span i (omega (arith, l)))

-- nor behind it
pub span_above : (image : List (Option ℕ)) (addr : ℕ) (span : List ℕ) (i : ℕ) → addr + length span ≤ i
    → byte_at (with_pairs image (enumerate_from addr span)) i ≡ byte_at image i
span_above image addr [] i l = refl
span_above image addr (b ∷ span) i l =
    search (rules, span_above (set image addr (Some b)) (addr + 1) span i (omega (arith, l)))

-- a span that was put is at its addresses
pub span_inside : (image : List (Option ℕ)) (addr : ℕ) (span : List ℕ) (place : ℕ)
    → addr + length span ≤ length image → place < length span
    → byte_at (with_pairs image (enumerate_from addr span)) (addr + place) ≡ Some (get_or span place 0)
span_inside image addr [] place room l = absurd (omega (arith, l))
span_inside image addr (b ∷ span) zero room l = grind (arith, nat_tests, span_below, get_or-set_same)
span_inside image addr (b ∷ span) (suc place) room l =
    search (
      rules,
      span_inside (set image addr (Some b)) (addr + 1) span place
          (omega (arith, room, length-set image addr (Some b))) (omega (arith, l)),
    )

-- ---- a byte, address by address

-- a byte that was put is at its address
pub byte_here : (image : List (Option ℕ)) (addr byte : ℕ) → addr < length image
    → byte_at (with_byte image addr byte) addr ≡ Some byte
byte_here image addr byte l = get_or-set_same image addr (Some byte) None l

-- other addresses stay as they were
pub byte_beside : (image : List (Option ℕ)) (addr byte other : ℕ) → other ≢ addr
    → byte_at (with_byte image addr byte) other ≡ byte_at image other
byte_beside image addr byte other l = get_or-set_other image addr other (Some byte) None l

-- ---- bytes with a span pasted

-- pasting a span keeps the length
pub length_pasted : (start : ℕ) (span bytes : List ℕ) → start + length span ≤ length bytes
    → length (with_span start span bytes) ≡ length bytes
length_pasted start span bytes room = grind (arith, nat_tests, length-take, length-drop, length-append)

-- below the span the bytes stay
pasted_low : (start : ℕ) (span bytes : List ℕ) (i : ℕ) → start + length span ≤ length bytes → i < start
    → get_or (with_span start span bytes) i 0 ≡ get_or bytes i 0
pasted_low start span bytes i room l = grind (arith, nat_tests, get_or_append_left, length-take, get_or-take)

-- within it they are those of the span
pasted_in : (start : ℕ) (span bytes : List ℕ) (i : ℕ) → start + length span ≤ length bytes → start ≤ i
    → i < start + length span → get_or (with_span start span bytes) i 0 ≡ get_or span (i - start) 0
pasted_in start span bytes i room a b = grind (arith, nat_tests, get_or-append_right, length-take, get_or_append_left)

-- behind it they stay
pasted_high : (start : ℕ) (span bytes : List ℕ) (i : ℕ) → start + length span ≤ length bytes → start + length span ≤ i
    → get_or (with_span start span bytes) i 0 ≡ get_or bytes i 0
pasted_high start span bytes i room l = grind (arith, nat_tests, length-take, get_or-append_right, get_or-drop)

-- pasting a span and marking its bits lays its bytes at their addresses
pub shown_pasted : (words marks bytes span : List ℕ) (addr : ℕ) → addr + length span ≤ length bytes
    → ((k : ℕ) → is_present marks k ≡ (is_within addr (addr + length span) k || is_present words k))
    → dense_image marks (with_span addr span bytes) ≡ with_pairs (dense_image words bytes) (enumerate_from addr span)
shown_pasted words marks bytes span addr room bits =
    let size = length_shown words bytes in
    let left = length_shown marks (with_span addr span bytes) ∙ length_pasted addr span bytes room in
    let right = laid_size (dense_image words bytes) (enumerate_from addr span) ∙ size in
    same_by_address _ _ (left ∙ sym right) (λ i j.
    let inside : i < length bytes = omega (arith, j, right) in
    let see = byte_at_shown marks (with_span addr span bytes) i
    (omega (arith, inside, length_pasted addr span bytes room)) in
    elim (cases_lt i addr) [
      | inl low ↦
          let bit : is_present marks i ≡ is_present words i =
          bits i ∙ rw (within_low addr (addr + length span) i low) refl in
          see ∙ ap₂ (λ (b : Bool) (n : ℕ). cond b (Some n) None) bit (pasted_low addr span bytes i room low)
          ∙ sym (byte_at_shown words bytes i inside) ∙ sym (span_below (dense_image words bytes) addr span i low)
      | inr from ↦ elim (cases_lt i (addr + length span)) [
        | inl within ↦
            let bit : is_present marks i ≡ true = search rules in
            let there : addr + (i - addr) ≡ i = omega (arith, from) in
            see ∙ ap₂ (λ (b : Bool) (n : ℕ). cond b (Some n) None) bit (pasted_in addr span bytes i room from within)
            ∙ sym (search (rules, span_inside))
            ∙ ap (λ (n : ℕ). byte_at (with_pairs (dense_image words bytes) (enumerate_from addr span)) n) there
        | inr past ↦
            search (rules, pasted_high, byte_at_shown, span_above)
      ]
    ])

pub kept_pasted : (words marks bytes span : List ℕ) (addr : ℕ) → addr + length span ≤ length bytes
    → ((k : ℕ) → is_present marks k ≡ (is_within addr (addr + length span) k || is_present words k))
    → length marks ≡ length words
    → ((i : ℕ) → get_or span i 0 < 256) → IsSoundStorage words bytes → IsSoundStorage marks (with_span addr span bytes)
kept_pasted words marks bytes span addr room bits same small kept =
    search (rules, length_pasted, small_pasted, pasted_low, within_high, pasted_high)

-- ---- whether a span fits

pub inside_fits : (addr : ℕ) (bytes : List ℕ) (size : ℕ) → addr + length bytes ≤ size → fits addr bytes size ≡ true
inside_fits addr bytes size l = search (rules, nat_tests)

-- ---- bytes from address 0 on

pub from_zero_next : (text : List ℕ) (byte size : ℕ) → length text < size
    → set (from_zero text size) (length text) (Some byte) ≡ from_zero (text ++ byte ∷ []) size
from_zero_next text byte size l = grind (arith, nat_tests, length-map, length-append, set_at, append_assoc, map-append)

pub from_zero_laid : (text span : List ℕ) (size addr : ℕ) → addr ≡ length text → length text + length span ≤ size
    → with_pairs (from_zero text size) (enumerate_from addr span) ≡ from_zero (text ++ span) size
from_zero_laid text [] size addr here l = ap (λ (xs : List ℕ). from_zero xs size) (sym (append-nil text))
from_zero_laid text (byte ∷ span) size addr here l =
    ap (λ (n : ℕ). with_pairs (set (from_zero text size) n (Some byte)) (enumerate_from (addr + 1) span)) here
    ∙ ap (λ (image : List (Option ℕ)). with_pairs image (enumerate_from (addr + 1) span))
    (from_zero_next text byte size (omega (arith, l)))
    ∙ from_zero_laid (text ++ byte ∷ []) span size (addr + 1) (omega (arith, here, length-append text (byte ∷ [])))
    (omega (arith, l, length-append text (byte ∷ [])))
    ∙ ap (λ (xs : List ℕ). from_zero xs size) (append_assoc text (byte ∷ []) span)

-- a span put into an empty image
pub from_zero_is_a_span : (text : List ℕ) (size : ℕ) → length text ≤ size
    → from_zero text size ≡ image_of_pairs size (enumerate_from 0 text)
from_zero_is_a_span text size l = grind (arith, nat_tests, from_zero_laid [] text size 0 refl (omega (arith, l)))

pub length_from_zero : (text : List ℕ) (size : ℕ) → length text ≤ size → length (from_zero text size) ≡ size
length_from_zero text size l = grind (arith, nat_tests, length-append, length-map, length-replicate)

pub fits_inside : (addr : ℕ) (bytes : List ℕ) (size : ℕ) → fits addr bytes size ≡ true
    → (bytes ≡ []) ⊎ (addr + length bytes ≤ size)
fits_inside addr bytes size test = search (rules, nat_tests)
