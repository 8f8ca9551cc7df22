-- A page of flash is loaded and written.
use Rattle.std.proofs.Common.{◌≡◌, ℕ, suc, ◌+◌, ◌*◌, ◌/◌, ◌%◌, ◌<◌, List, [], ◌∷◌, ◌++◌, length, set, map, refl, ap, ◌∙◌, arith, Bool, true, false, cond, replicate, rules}
use Rattle.std.proofs.lemmas.Nat.{mod-mul-add}
use Rattle.std.proofs.lemmas.Nat.Gcd.{dvd_of_mod-eq-zero}
use Rattle.std.proofs.Math.Nat.{mod-mod_of_dvd, mod-eq_of_lt, mul-div_cancel, mul_assoc, dvd-mul_right, dvd_trans}
use Rattle.std.proofs.lemmas.Bool.{ltb-false, le-ltb}
use Rattle.std.proofs.lemmas.List.{append-nil, map-id}
use Rattle.std.specs.Prelude.{nat_lt}
use Rattle.avr_part.specs.Part.{Part, IsPart}
use Rattle.avr_part.specs.Memory.{map_indexed_from, byte_and_page, blank}
use Rattle.avr_part.specs.State as chip
use Rattle.stk_frame.specs.Commands.{body}
use Rattle.stk_frame.specs.HostCommands.{program_page}
use Rattle.stk_host.specs.Places.{flash_address, load_flash}
use Rattle.stk_host.proofs.ImagePlaces.PagesAndRuns.{page_most}
use Rattle.stk_emu.specs.Programmer.{Programmer, after_instructions, extension, flash_loads, page_writes, for_half, word_at}
use Rattle.stk_emu.specs.Device.{device}
use Rattle.avr_part.specs.declared.part.Mem.TheVariants.{Flash}
use Rattle.stk_emu.specs.Effect.{Memories, Write, and_in, effects}
use Rattle.stk_emu.specs.Settled.{Ready, NeedsNoExtendedAddress}
use Rattle.stk_emu.specs.WriteOperations.{image_at, memories_after_step, IsPage}
use Rattle.stk_emu.proofs.Memories.Blocks.{sent-append}
use Rattle.stk_emu.proofs.Memories.LaidImages.{put, put_is, anded_in}

-- whether the part needs the extended address
abbrev pub is_wide : Part → Bool
is_wide part = nat_lt 131072 part.flash_size

-- the words of a page whose number is given
words_twice : (n page : ℕ) → page % 2 ≡ 0 → n * (page / 2) * 2 ≡ n * page
words_twice n page even = mul_assoc n (page / 2) 2 ∙ ap (λ x. n * x) (omega arith)

-- a page begins at a word
pub page_even : (part : Part) → IsPart part → (n : ℕ) → n * part.flash_page % 2 ≡ 0
page_even part sound n = omega (arith, words_twice n part.flash_page sound.flash_halves)

-- the address that is loaded for a place in flash
pub flash_loaded_at : (part : Part) (start : ℕ) (p : Programmer) → start < 4294967296
    → device.after (body (load_flash part start)) p ≡ record p { address = start / 2; wide = is_wide part }
flash_loaded_at part start p few = search rules

-- and the byte of that address
pub flash_address_back : (part : Part) (start : ℕ) → start < 4294967296 → start % 2 ≡ 0
    → flash_address part start % 2147483648 * 2 ≡ start
flash_address_back part start few even = search rules

pub extended_is : (wide : Bool) (a : ℕ) (s : chip.ChipState)
    → after_instructions (extension wide a) s ≡ record s { extended = cond wide (a / 65536 % 256) s.extended }
extended_is wide a s = search rules

pub load_byte : (i h lo d : ℕ) (s : chip.ChipState) → (chip.spi_of (for_half 0x40 i ∷ h ∷ lo ∷ d ∷ []) s).1
    ≡ record s { flash_buffer = set s.flash_buffer (lo % (s.part.flash_page / 2) * 2 + i % 2) d }
load_byte i h lo d s = search rules

-- the buffer after the loads, and some extended address
record Loaded (wide : Bool) (i : ℕ) (ds : List ℕ) (s t : chip.ChipState) : Type 0 where
  value : ℕ
  kept : wide ≡ false → value ≡ s.extended
  is : t ≡ record s { flash_buffer = put (λ d. d) i ds s.flash_buffer; extended = value }

flash_loaded : (wide : Bool) (a i half : ℕ) (ds : List ℕ) (s : chip.ChipState) → s.part.flash_page / 2 ≡ half
    → ((k : ℕ) → k < length ds → word_at a (i + k) % 256 % half * 2 + (i + k) % 2 ≡ i + k)
    → Loaded wide i ds s (after_instructions (flash_loads wide 0x40 a i ds) s)
flash_loaded wide a i half [] s e each = record { value = s.extended; kept = λ n. refl; is = refl }
flash_loaded wide a i half (d ∷ ds) s e each =
    let x = cond wide (word_at a i / 65536 % 256) s.extended in
    let here : word_at a i % 256 % (s.part.flash_page / 2) * 2 + i % 2 ≡ i =
    ap (λ h. word_at a i % 256 % h * 2 + i % 2) e
    ∙ (ap (λ j. word_at a j % 256 % half * 2 + j % 2) (omega arith) ∙ (each 0 (omega arith) ∙ omega arith)) in
    let s₂ : chip.ChipState = record s { flash_buffer = set s.flash_buffer i d; extended = x } in
    let more : Loaded wide (suc i) ds s₂ (after_instructions (flash_loads wide 0x40 a (suc i) ds) s₂) =
    flash_loaded wide a (suc i) half ds s₂ e
    (λ k l. ap (λ j. word_at a j % 256 % half * 2 + j % 2) (omega arith)
    ∙ (each (suc k) (omega arith) ∙ omega arith)) in search (rules, sent-append, extended_is, load_byte)

-- the place of byte j of a page
word_place : (n half j : ℕ) → 256 % (half * 2) ≡ 0 → j < half * 2 → n * half + j / 2 < 2147483648
    → (n * half + j / 2) % 2147483648 % 256 % half * 2 + j % 2 ≡ j
word_place n half j whole within few =
    let whole_half = dvd_trans half (dvd-mul_right half 2) (dvd_of_mod-eq-zero (half * 2) whole) in
    search (rules, mod-eq_of_lt, mod-mod_of_dvd, mod-mul-add)

-- a word's address, from the extended address and the two bytes of an instruction
pub word_whole : (wide : Bool) (s : chip.ChipState) (w : ℕ) → w < 16777216
    → (wide ≡ false → (s.extended ≡ 0) × (w < 65536))
    → cond wide (w / 65536 % 256) s.extended * 65536 + (w / 256 % 256 * 256 + w % 256) ≡ w
word_whole wide s w few n = search rules

-- the page is written at the address of its low word
flash_written : (wide : Bool) (s : chip.ChipState) (a start size page : ℕ) → s.part.flash_page ≡ page
    → s.part.flash_size ≡ size → a < 16777216 → a < size / 2 → (wide ≡ false → (s.extended ≡ 0) × (a < 65536))
    → a * 2 / page * page ≡ start → after_instructions (page_writes wide 0x4C a true) s ≡ record s {
      flash = cond (chip.is_locked s) s.flash (map_indexed_from 0 (byte_and_page start s.flash_buffer) s.flash);
      flash_buffer = blank s.flash_buffer;
      extended = cond wide (a / 65536 % 256) s.extended;
    }
flash_written wide s a start size page pe se few inside narrow at = search (rules, word_whole, mod-eq_of_lt)

module _ (part : Part) (sound : IsPart part) where
  record Paged (n : ℕ) (page : List ℕ) (s t : chip.ChipState) : Type 0 where
    value : ℕ
    kept : is_wide part ≡ false → value ≡ s.extended
    is : t ≡ record s {
      flash = cond (chip.is_locked s) s.flash (and_in (image_at (n * part.flash_page) page) s.flash);
      flash_buffer = replicate part.flash_page 255;
      extended = value;
    }

  page_chip : (s : chip.ChipState) (n : ℕ) (page : List ℕ) → s.part ≡ part
      → s.flash_buffer ≡ replicate part.flash_page 255 → (is_wide part ≡ false → s.extended ≡ 0) → IsPage part n page
      → Paged n page s (after_instructions (flash_loads (is_wide part) 0x40 (n * (part.flash_page / 2)) 0 page
      ++ page_writes (is_wide part) 0x4C (n * (part.flash_page / 2)) true) s)
  page_chip s n page e empty narrow is_page =
      let a = n * (part.flash_page / 2) in
      let wide = is_wide part in
      let halves : part.flash_page ≡ part.flash_page / 2 * 2 = let h = sound.flash_halves in omega arith in
      let twice = words_twice n part.flash_page sound.flash_halves in
      let few : a < 16777216 = omega arith in
      let loads : Loaded wide 0 page s (after_instructions (flash_loads wide 0x40 a 0 page) s) =
      search (rules, flash_loaded, word_place) in
      let t : chip.ChipState = record s { flash_buffer = put (λ d. d) 0 page s.flash_buffer; extended = loads.value } in
      let buffer : put (λ d. d) 0 page s.flash_buffer ≡ page =
      ap (put (λ d. d) 0 page) (search rules)
      ∙ (put_is (λ d. d) 255 page [] 0 0 refl ∙ (append-nil (map (λ d. d) page) ∙ map-id page)) in
      search (rules, mul-div_cancel, flash_written, sent-append, anded_in)
    where
      small : is_wide part ≡ false → n * (part.flash_page / 2) < 65536
      small w = search (rules, ltb-false, words_twice)

  -- what the step of a page writes
  page_changed : (n : ℕ) (page : List ℕ) (m : Memories) → IsPage part n page
      → memories_after_step part (load_flash part (n * part.flash_page) ∷ program_page page ∷ []) m
      ≡ effects part (Write Flash (image_at (n * part.flash_page) page) ∷ []) m
  page_changed n page m is_page = search (rules, page_even)

  pub page_does : (n : ℕ) (page : List ℕ) (m : Memories) (p : Programmer) → IsPage part n page → Ready part m p
      → Ready part (memories_after_step part (load_flash part (n * part.flash_page) ∷ program_page page ∷ []) m)
      (device.after (body (program_page page)) (device.after (body (load_flash part (n * part.flash_page))) p))
  page_does n page m p is_page s =
      let a = n * (part.flash_page / 2) in
      let wide = is_wide part in
      let short = page_most part.flash_page (omega arith) sound.flash_fits in
      let q : Programmer = record p { address = a; wide = wide } in
      let paged =
      page_chip p.chip n page s.part_is s.flash_buffer (λ w. s.extended (ltb-false 131072 part.flash_size w)) is_page in
      search (rules, flash_loaded_at, words_twice, page_changed, le-ltb)
