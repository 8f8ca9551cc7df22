-- Loading or reading a block at once does the same as its instructions byte by byte.
use Rattle.std.proofs.lemmas.Grind.{common_steps}
use Rattle.std.proofs.Common.{◌≡◌, ℕ, zero, suc, ◌+◌, ◌*◌, ◌/◌, ◌%◌, ◌≤◌, ◌<◌, List, [], ◌∷◌, length, set, take, drop, refl, ap, ap₂, ◌∙◌, arith, true, rules}
use Rattle.std.proofs.Math.Nat.{mod-mod_of_dvd, dvd-mul_right, dvd_trans}
use Rattle.std.proofs.lemmas.Nat.Gcd.{dvd_of_mod-eq-zero, mod-eq-zero_of_dvd}
use Rattle.std.proofs.lemmas.List.{take-append-drop, length-set}
use Rattle.std.proofs.lemmas.Bool.{leb-true, and_parts}
use Rattle.std.specs.Prelude.{◌-◌, nat_le}
use Rattle.avr_part.specs.Part.{Part, IsPart}
use Rattle.avr_part.specs.Memory.{with_bytes_at}
use Rattle.avr_part.specs.State.{ChipState, half_offset, word_address}
use Rattle.avr_part.specs.Block.{half_at, loaded_one_by_one, read_one_by_one, is_in_page, is_in_flash}
use Rattle.avr_part.specs.Sound.{IsSoundChip}

-- the page of a place ends within the memory
pub page_within : (at page size : ℕ) → at < size → size % page ≡ 0 → at / page * page + page ≤ size
page_within at page size inside whole = grind (arith, common_steps)

-- the offset of a half is 0 or 1
pub offset_at : (i : ℕ) → half_offset (half_at i) ≡ i % 2
offset_at i = search rules

-- a remainder that stays below the end
mod_on : (word k half : ℕ) → word % half + k < half → (word + k) % half ≡ word % half + k
mod_on word k half small = grind (arith, common_steps)

-- the place of byte i of a block
place_on : (word i half : ℕ) → word % half * 2 + i < half * 2 → (word + i / 2) % half * 2 + i % 2 ≡ word % half * 2 + i
place_on word i half inside = search (rules, mod_on)

-- loading bytes one by one puts them side by side into the page buffer
pub loaded_at_once : (word i half : ℕ) (bytes : List ℕ) (s : ChipState) → s.part.flash_page / 2 ≡ half
    → ((x : ℕ) → x % 256 % half ≡ x % half) → word % half * 2 + i + length bytes ≤ half * 2
    → half * 2 ≤ length s.flash_buffer → loaded_one_by_one word i bytes s ≡ record s {
      flash_buffer = with_bytes_at (word % half * 2 + i) bytes s.flash_buffer;
    }
loaded_at_once word i half [] s is wraps inside long = search (rules, take-append-drop)
loaded_at_once word i half (d ∷ ds) s is wraps inside long =
    let p = word % half * 2 + i in
    let s₂ : ChipState = record s { flash_buffer = set s.flash_buffer p d } in
    let place : (word + i / 2) % 256 % (s.part.flash_page / 2) * 2 + half_offset (half_at i) ≡ p =
    search (rules, place_on) in
    let long₂ : half * 2 ≤ length (set s.flash_buffer p d) = rw (length-set s.flash_buffer p d) long in
    grind (arith, common_steps, loaded_at_once word (suc i) half ds s₂ is wraps (omega arith) long₂)

-- reading bytes one by one gives the bytes side by side in flash
pub read_at_once : (word i n half : ℕ) (s : ChipState) → s.part.flash_size / 2 ≡ half
    → (s.extended * 65536 + word) % half * 2 + i + n ≤ half * 2 → half * 2 ≤ length s.flash
    → read_one_by_one word i n s ≡ take n (drop ((s.extended * 65536 + word) % half * 2 + i) s.flash)
read_at_once word i zero half s is inside long = refl
read_at_once word i (suc n) half s is inside long =
    let w = s.extended * 65536 + word in
    let p = w % half * 2 + i in
    let place : (s.extended * 65536 + (word + i / 2)) % (s.part.flash_size / 2) * 2 + half_offset (half_at i) ≡ p =
    ap₂ (λ h o. (s.extended * 65536 + (word + i / 2)) % h * 2 + o) is (offset_at i)
    ∙ (ap (λ x. x % half * 2 + i % 2) (let e : s.extended * 65536 + (word + i / 2) ≡ w + i / 2 = omega arith in e)
    ∙ place_on w i half (omega arith)) in
    grind (arith, common_steps, read_at_once word (suc i) n half s is (omega arith) long)

-- a word of the page buffer, by a byte
wraps_in_page : (half : ℕ) → 256 % (half * 2) ≡ 0 → (x : ℕ) → x % 256 % half ≡ x % half
wraps_in_page half whole x = search (rules, mod-mod_of_dvd, dvd_trans, dvd-mul_right, dvd_of_mod-eq-zero)

-- so a block is loaded at once as its instructions load it
pub block_loaded : (word place : ℕ) (bytes : List ℕ) (s : ChipState) → IsSoundChip s
    → is_in_page word (length bytes) s ≡ true → place ≡ word % (s.part.flash_page / 2) * 2
    → record s { flash_buffer = with_bytes_at place bytes s.flash_buffer } ≡ loaded_one_by_one word 0 bytes s
block_loaded word place bytes s sound inside at =
    let half = s.part.flash_page / 2 in
    let whole : s.part.flash_page ≡ half * 2 = omega arith in
    let fits = leb-true (word % half * 2 + length bytes) s.part.flash_page inside in
    let long = sound.flash_buffer_size in
    let first : place ≡ word % half * 2 + 0 = omega arith in search (rules, loaded_at_once, wraps_in_page)

-- flash has an even number of bytes
flash_even : (part : Part) → IsPart part → part.flash_size % 2 ≡ 0
flash_even part sound = search (rules, mod-eq-zero_of_dvd, dvd_trans, dvd_of_mod-eq-zero)

-- so a block is read at once as its instructions read it
pub block_read : (word n start len : ℕ) (bytes : List ℕ) (s : ChipState) → IsSoundChip s → is_in_flash word n s ≡ true
    → start ≡ word_address s word → len ≡ n → bytes ≡ s.flash
    → take (start + len - start) (drop start bytes) ≡ read_one_by_one word 0 n s
block_read word n start len bytes s sound inside at count is =
    let half = s.part.flash_size / 2 in
    let even = flash_even s.part sound.part in
    let p = (s.extended * 65536 + word) % half * 2 in
    let fits = leb-true (p + n) s.part.flash_size (and_parts (nat_le (word * 2 + n) 131072) _ inside).1 in
    let long = sound.flash_size in
    let first : start ≡ p + 0 = omega arith in search (rules, read_at_once)
