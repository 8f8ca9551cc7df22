-- The stored fields of an image give its list: bytes, presence bits, runs and changes.
use Rattle.std.proofs.lemmas.Bool.Decides.{nat_tests}
use Rattle.std.proofs.Common.{◌≡◌, ◌≢◌, ◌∙◌, sym, ap, ap₂, refl, arith, ℕ, suc, zero, ◌+◌, ◌*◌, ◌/◌, ◌%◌, ◌^◌, ◌<◌, ◌≤◌, List, [], ◌∷◌, length, get_or, set, Bool, true, false, Option, Some, None, replicate, bit_or, is_some, inl, inr, nat_lt, w64, min, take, drop, ◌++◌, ◌-◌, rules}
use Rattle.std.proofs.Math.ListN.{get_or-eq_default}
use Rattle.std.proofs.lemmas.Bool.{cases_eq, cases_lt, lt-ltb, le-ltb}
use Rattle.std.proofs.lemmas.List.{get_or-set_same, get_or-set_other, length-set, length-drop, length-take, get_or-take, get_or-drop}
use Rattle.std.proofs.lemmas.Nat.Bits.{bit_at_set_same, bit_at_set_other}
use Rattle.std.proofs.lemmas.List.Sums.{prefix_len_is}
use Rattle.std.specs.Prelude.{if◌then◌else◌}
use Rattle.std.specs.List.{list_any, position_from, prefix_len}
use Rattle.std.proofs.lemmas.List.Folds.{list_any_at}
use Rattle.avr_image.specs.Image.{byte_at, byte_or_ff, filled_bytes, first_from, holds_any, run_end, with_gaps}
use Rattle.avr_image.specs.Present.{is_present, with_mark, FirstPlace}
use Rattle.avr_image.specs.Dense.{dense_image, with_span}

-- the byte at an address, if it is present
abbrev shown_byte : List ℕ → ℕ → ℕ → Option ℕ
shown_byte words addr byte = if is_present words addr then Some byte else None

-- the list of stored bytes from the kth on is as long as the bytes
pub length_shown_from : (k : ℕ) (words bytes : List ℕ) → length (with_gaps (is_present words) k bytes) ≡ length bytes
length_shown_from k words [] = refl
length_shown_from k words (b ∷ bs) = ap suc (length_shown_from (suc k) words bs)

-- an image is as long as its stored bytes
pub length_shown : (words bytes : List ℕ) → length (dense_image words bytes) ≡ length bytes
length_shown = length_shown_from 0

-- an item of the list from the kth byte on is that byte, if it is present
pub get_or_shown_from : (k : ℕ) (words bytes : List ℕ) (i : ℕ) → i < length bytes
    → get_or (with_gaps (is_present words) k bytes) i None ≡ shown_byte words (k + i) (get_or bytes i 0)
get_or_shown_from k words [] i l = absurd (omega (arith, l))
get_or_shown_from k words (b ∷ bs) zero l = ap (λ (n : ℕ). shown_byte words n b) (omega arith)
get_or_shown_from k words (b ∷ bs) (suc i) l = search (rules, get_or_shown_from (suc k) words bs i (omega (arith, l)))

-- an address has its stored byte, if that is present
pub byte_at_shown : (words bytes : List ℕ) (i : ℕ) → i < length bytes
    → byte_at (dense_image words bytes) i ≡ shown_byte words i (get_or bytes i 0)
byte_at_shown words bytes i l = grind (arith, nat_tests, get_or_shown_from)

-- past the end there is no byte
pub none_past : (image : List (Option ℕ)) (i : ℕ) → length image ≤ i → byte_at image i ≡ None
none_past [] i l = refl
none_past (b ∷ bs) zero l = absurd (omega (arith, l))
none_past (b ∷ bs) (suc i) l = none_past bs i (omega (arith, l))

-- a byte that is there is below the end
pub held_within : (image : List (Option ℕ)) (addr : ℕ) → is_some (byte_at image addr) ≡ true → addr < length image
held_within [] addr held = absurd (cc held)
held_within (b ∷ bs) zero held = omega arith
held_within (b ∷ bs) (suc addr) held = let rest = held_within bs addr held in omega (arith, rest)

-- lists of optional bytes with the same items
pub same_by_address : (xs ys : List (Option ℕ)) → length xs ≡ length ys
    → ((i : ℕ) → i < length ys → get_or xs i None ≡ get_or ys i None) → xs ≡ ys
same_by_address [] [] len each = refl
same_by_address (x ∷ xs) (y ∷ ys) len each =
    ap₂ (λ (z : Option ℕ) (zs : List (Option ℕ)). z ∷ zs) (each 0 (omega arith))
    (same_by_address xs ys (omega (arith, len)) (λ i l. each (suc i) (omega (arith, l))))
same_by_address z w len each = absurd (omega (arith, len))

-- bytes that are right address by address are the filled bytes
pub filled_by_each : (image : List (Option ℕ)) (start n : ℕ) (ys : List ℕ) → length ys ≡ n
    → ((i : ℕ) → i < n → get_or ys i 0 ≡ byte_or_ff (byte_at image (start + i))) → ys ≡ filled_bytes image start n
filled_by_each image start zero [] len each = refl
filled_by_each image start (suc n) (y ∷ ys) len each =
    let first : y ≡ byte_or_ff (byte_at image start) =
    each 0 (omega arith) ∙ ap (λ (k : ℕ). byte_or_ff (byte_at image k)) (omega arith) in
    let rest : ys ≡ filled_bytes image (start + 1) n = filled_by_each image (start + 1) n ys (omega (arith, len))
    (λ i l. each (suc i) (omega (arith, l)) ∙ ap (λ (k : ℕ). byte_or_ff (byte_at image k)) (omega arith)) in
    search rules
filled_by_each image start x z len each = absurd (omega (arith, len))

-- each item of zeros is zero
pub get_or_zeros : (n i : ℕ) → ◌≡◌ {A = ℕ} (get_or {A = ℕ} (replicate {A = ℕ} n 0) i 0) 0
get_or_zeros (suc n) (suc i) = get_or_zeros n i
get_or_zeros x y = refl

-- without presence bits no byte is there
pub shown_from_zeros : (k n m b : ℕ) → with_gaps (is_present (replicate m 0)) k (replicate n b) ≡ replicate n None
shown_from_zeros k zero m b = refl
shown_from_zeros k (suc n) m b = search (rules, nat_tests, get_or_zeros, shown_from_zeros (suc k) n m b)

-- a marked address is present
pub present_same : (words : List ℕ) (a : ℕ) → a / 64 < length words → is_present (with_mark words a) a ≡ true
present_same words a within =
    let here = get_or-set_same words (a / 64) (bit_or (get_or words (a / 64) 0) (1 * 2 ^ (a % 64) % 2 ^ 64)) 0 within in
    rw here (rw (bit_at_set_same w64 (get_or words (a / 64) 0) (a % 64) (omega arith)) refl)

-- other addresses stay as they were
pub present_other : (words : List ℕ) (a i : ℕ) → a / 64 < length words → i ≢ a
    → is_present (with_mark words a) i ≡ is_present words i
present_other words a i within other =
    elim (cases_eq (i / 64) (a / 64)) [
      | inl same ↦
          let here = get_or-set_same words (a / 64) (bit_or (get_or words (a / 64) 0) (1 * 2 ^ (a % 64) % 2 ^ 64)) 0
          within in
          rw (same, here) (rw (bit_at_set_other w64 (get_or words (a / 64) 0) (a % 64) (omega arith) (i % 64)
          (λ e. other (omega (arith, e, same)))) refl)
      | inr differ ↦ rw (get_or-set_other words (a / 64) (i / 64)
          (bit_or (get_or words (a / 64) 0) (1 * 2 ^ (a % 64) % 2 ^ 64)) 0 differ) refl
    ]

-- a byte that is stored and marked is put into the image
pub shown_marked : (words bytes : List ℕ) (a b : ℕ) → a < length bytes → a / 64 < length words
    → dense_image (with_mark words a) (set bytes a b) ≡ set (dense_image words bytes) a (Some b)
shown_marked words bytes a b l within =
    let len-left = length_shown (with_mark words a) (set bytes a b) ∙ length-set bytes a b in
    let len-right = length-set (dense_image words bytes) a (Some b) ∙ length_shown words bytes in
    same_by_address _ _ (len-left ∙ sym len-right) (λ i j.
    let in-bytes : i < length bytes = omega (arith, j, len-right) in
    let left = byte_at_shown (with_mark words a) (set bytes a b) i (omega (arith, in-bytes, length-set bytes a b)) in
    search (rules, present_same, length_shown, present_other, get_or-set_other, byte_at_shown))

-- an image that is stored so is as long as its bytes
pub sized : (words bytes : List ℕ) {image : List (Option ℕ)} → dense_image words bytes ≡ image
    → length image ≡ length bytes
sized words bytes {image} seen = rw (← seen) (length_shown words bytes)

-- within a list the default doesn't matter
pub same_default : (xs : List ℕ) (i d e : ℕ) → i < length xs → get_or xs i d ≡ get_or xs i e
same_default [] i d e l = absurd (omega (arith, l))
same_default (x ∷ xs) zero d e l = refl
same_default (x ∷ xs) (suc i) d e l = same_default xs i d e (omega (arith, l))

-- past the stored bytes there is none
pub past : (words bytes : List ℕ) {image : List (Option ℕ)} (i : ℕ) → dense_image words bytes ≡ image → length bytes ≤ i
    → None ≡ byte_at image i
past words bytes {image} i seen l = grind (arith, nat_tests, none_past, length_shown)

-- when a byte is put, FF stays at addresses without a byte
pub blank_marked : (words bytes : List ℕ) (a b : ℕ) → a < length bytes → a / 64 < length words
    → ((i : ℕ) → i < length bytes → is_present words i ≡ false → get_or bytes i 0 ≡ 255)
    → (i : ℕ) → i < length (set bytes a b) → is_present (with_mark words a) i ≡ false → get_or (set bytes a b) i 0 ≡ 255
blank_marked words bytes a b l within blank i j none =
    grind (arith, nat_tests, present_same, get_or-set_other, length-set, present_other)

-- a stored byte is what `fill` writes for its address
pub kept_byte : (words bytes : List ℕ) {image : List (Option ℕ)} (a : ℕ) → dense_image words bytes ≡ image
    → ((i : ℕ) → i < length bytes → is_present words i ≡ false → get_or bytes i 0 ≡ 255)
    → get_or bytes a 255 ≡ byte_or_ff (byte_at image a)
kept_byte words bytes {image} a seen blank =
    search (rules, byte_at_shown, same_default, past, get_or-eq_default, none_past, length_shown)

-- the presence of a byte is its bit
pub presence : (words bytes : List ℕ) {image : List (Option ℕ)} (a : ℕ) → dense_image words bytes ≡ image
    → a < length bytes → is_some (byte_at image a) ≡ is_present words a
presence words bytes {image} a seen l = grind (arith, nat_tests, byte_at_shown)

-- a run of places of a list, found by its first and its last
position_at : {X : Type 0} (p : X → Bool) (xs : List X) (i n : ℕ) (d : X) → n < length xs
    → ((k : ℕ) → k < n → p (get_or xs k d) ≡ false) → p (get_or xs n d) ≡ true → position_from p i xs ≡ Some (i + n)
position_at p [] i n d l before here = absurd (omega (arith, l))
position_at p (x ∷ xs) i zero d l before here = rw here (ap (λ (k : ℕ). Some k) (omega arith))
position_at p (x ∷ xs) i (suc n) d l before here =
    let first : p x ≡ false = before 0 (omega arith) in
    search (rules, position_at p xs (i + 1) n d (omega (arith, l)) (λ k j. before (suc k) (omega (arith, j))) here)

-- no item passes if none does at any place
position_none : {X : Type 0} (p : X → Bool) (xs : List X) (i : ℕ) (d : X)
    → ((k : ℕ) → k < length xs → p (get_or xs k d) ≡ false) → position_from p i xs ≡ None
position_none p [] i d before = refl
position_none p (x ∷ xs) i d before =
    let first : p x ≡ false = before 0 (omega arith) in
    rw first (position_none p xs (i + 1) d (λ k j. before (suc k) (omega (arith, j))))

-- the least address from `addr` on that holds a byte
pub first_is : (words bytes : List ℕ) {image : List (Option ℕ)} (addr place : ℕ) → dense_image words bytes ≡ image
    → FirstPlace words true addr (length bytes) place → place < length bytes → first_from image addr ≡ Some place
first_is words bytes {image} addr place seen found l =
    let size : length image ≡ length bytes = sized words bytes seen in
    let left = length-drop addr image in
    let rest : addr + (place - addr) ≡ place = omega (arith, found.after) in
    position_at is_some (drop addr image) addr (place - addr) None (omega (arith, left, size, l, found.after))
    (λ k j. ap is_some (get_or-drop addr image k None)
    ∙ presence words bytes (addr + k) seen (omega (arith, j, l))
    ∙ found.others (addr + k) (omega arith) (omega (arith, j)))
    (search (rules, get_or-drop, presence))
    ∙ ap (λ (k : ℕ). Some k) rest

-- no address from `addr` on holds a byte
pub first_none : (words bytes : List ℕ) {image : List (Option ℕ)} (addr from : ℕ) → dense_image words bytes ≡ image
    → from ≤ addr → FirstPlace words true from (length bytes) (length bytes) → first_from image addr ≡ None
first_none words bytes {image} addr from seen le found =
    let size : length image ≡ length bytes = sized words bytes seen in
    let left = length-drop addr image in
    position_none is_some (drop addr image) addr None
    (λ k j. ap is_some (get_or-drop addr image k None)
    ∙ presence words bytes (addr + k) seen (omega (arith, j, left, size))
    ∙ found.others (addr + k) (omega (arith, le)) (omega (arith, j, left, size)))

-- if none of the bytes is there, none of them is held
none_held : (bytes : List (Option ℕ)) → ((k : ℕ) → k < length bytes → is_some (get_or bytes k None) ≡ false)
    → list_any is_some bytes ≡ false
none_held [] none = refl
none_held (b ∷ bytes) none = rw (none 0 (omega arith)) (none_held bytes (λ k l. none (suc k) (omega (arith, l))))

-- a byte of a span is held if a place is found before the end of the span
pub any_is : (words bytes : List ℕ) {image : List (Option ℕ)} (start count from end place : ℕ)
    → dense_image words bytes ≡ image → from ≡ min (length bytes) start → end ≡ from + min (length bytes - from) count
    → FirstPlace words true from end place → nat_lt place end ≡ holds_any image start count
any_is words bytes {image} start count from end place seen from_is end_is found =
    let size : length image ≡ length bytes = sized words bytes seen in
    let left = length-drop start image in
    let row = take count (drop start image) in
    let row_len = length-take count (drop start image) in
    let held : (k : ℕ) → k < count → start + k < length bytes
    → is_some (get_or row k None) ≡ is_present words (start + k) =
    λ k j l. ap is_some (get_or-take count (drop start image) k None j ∙ get_or-drop start image k None)
    ∙ presence words bytes (start + k) seen l in
    elim (cases_lt place end) [
      | inl l ↦
          let there : start + (place - start) ≡ place = omega (arith, found.after, from_is, end_is, l) in
          rw (lt-ltb place end l) (sym (search (rules, list_any_at)))
      | inr past ↦ rw (le-ltb place end past) (sym (none_held row (search rules)))
    ]

-- the first place without a byte is the end of the run
pub run_is : (words bytes : List ℕ) {image : List (Option ℕ)} (addr end place : ℕ) → dense_image words bytes ≡ image
    → FirstPlace words false addr (min (length bytes) end) place → addr < length bytes → place ≡ run_end image addr end
run_is words bytes {image} addr end place seen found l =
    let size : length image ≡ length bytes = sized words bytes seen in
    let left = length-drop addr image in
    let row = take (end - addr) (drop addr image) in
    let row_len = length-take (end - addr) (drop addr image) in
    let at : (k : ℕ) → k < end - addr → get_or row k None ≡ byte_at image (addr + k) =
    λ k j. get_or-take (end - addr) (drop addr image) k None j ∙ get_or-drop addr image k None in
    let count : prefix_len is_some row ≡ place - addr =
    prefix_len_is is_some row (place - addr) None (omega (arith, row_len, left, size, found.bound))
    (λ k j. ap is_some (at k (omega (arith, j, found.bound)))
    ∙ presence words bytes (addr + k) seen (omega (arith, j, found.bound))
    ∙ found.others (addr + k) (omega arith) (omega (arith, j)))
    (λ j. let rest : addr + (place - addr) ≡ place = omega (arith, found.after) in
    search (rules, presence)) in search rules

-- all stored bytes are what `fill` writes for all addresses
pub kept_whole : (words bytes : List ℕ) {image : List (Option ℕ)} → dense_image words bytes ≡ image
    → ((i : ℕ) → i < length bytes → is_present words i ≡ false → get_or bytes i 0 ≡ 255)
    → bytes ≡ filled_bytes image 0 (length image)
kept_whole words bytes {image} seen blank =
    let size : length image ≡ length bytes = sized words bytes seen in
    filled_by_each image 0 (length image) bytes (sym size) (λ i l.
    same_default bytes i 0 255 (omega (arith, l, size))
    ∙ kept_byte words bytes i seen blank
    ∙ ap (λ (k : ℕ). byte_or_ff (byte_at image k)) (omega arith))

-- ---- bytes stay bytes

-- FF is a byte
pub small_blank : (n i : ℕ) → get_or {A = ℕ} (replicate {A = ℕ} n 255) i 0 < 256
small_blank (suc n) (suc i) = small_blank n i
small_blank x y = omega arith

-- a byte set among bytes
pub small_set : (xs : List ℕ) (at byte : ℕ) → byte < 256 → ((i : ℕ) → get_or xs i 0 < 256) → (i : ℕ)
    → get_or (set xs at byte) i 0 < 256
small_set [] at byte l all i = omega arith
small_set (x ∷ xs) zero byte l all zero = l
small_set (x ∷ xs) zero byte l all (suc i) = all (suc i)
small_set (x ∷ xs) (suc at) byte l all zero = all zero
small_set (x ∷ xs) (suc at) byte l all (suc i) = small_set xs at byte l (λ k. all (suc k)) i

-- bytes after bytes
small_append : (xs ys : List ℕ) → ((i : ℕ) → get_or xs i 0 < 256) → ((i : ℕ) → get_or ys i 0 < 256) → (i : ℕ)
    → get_or (xs ++ ys) i 0 < 256
small_append [] ys prefix back i = back i
small_append (x ∷ xs) ys prefix back zero = prefix zero
small_append (x ∷ xs) ys prefix back (suc i) = small_append xs ys (λ k. prefix (suc k)) back i

-- the first of some bytes
small_take : (n : ℕ) (xs : List ℕ) → ((i : ℕ) → get_or xs i 0 < 256) → (i : ℕ) → get_or (take n xs) i 0 < 256
small_take (suc n) (x ∷ xs) all zero = all zero
small_take (suc n) (x ∷ xs) all (suc i) = small_take n xs (λ k. all (suc k)) i
small_take x y all i = omega arith

-- bytes pasted into bytes
pub small_pasted : (start : ℕ) (span bytes : List ℕ) → ((i : ℕ) → get_or span i 0 < 256)
    → ((i : ℕ) → get_or bytes i 0 < 256) → (i : ℕ) → get_or (with_span start span bytes) i 0 < 256
small_pasted start span bytes new old = grind (arith, nat_tests, small_append, small_take, get_or-drop)
