-- Loading or reading a block of flash at once does the same as its instructions one by one.
use Rattle.std.proofs.Common.{◌≡◌, ℕ, zero, suc, ◌+◌, ◌-◌, ◌*◌, ◌/◌, ◌%◌, ◌≤◌, ◌<◌, List, [], ◌∷◌, length, refl, sym, ap, ◌∙◌, arith, Bool, true, cond, Some, None, rules}
use Rattle.avr_part.specs.State as chip
use Rattle.avr_part.specs.State.{half_offset}
use Rattle.avr_part.specs.declared.instruction.Instruction.TheVariants.{LoadFlash}
use Rattle.avr_part.specs.Block.{half_at, loaded_one_by_one, read_one_by_one, load_block, flash_block, is_in_flash}
use Rattle.avr_part.proofs.Blocks.{offset_at}
use Rattle.stk_emu.specs.Programmer.{after_instructions, extension, flash_loads, flash_reads, word_at}
use Rattle.stk_emu.proofs.Memories.BlocksRead.{look_by, look_byte}

-- a load and an extended address don't affect each other
loads_apart : (word i x y : ℕ) (bytes : List ℕ) (s : chip.ChipState)
    → record (loaded_one_by_one word i bytes (record s { extended = x })) { extended = y }
    ≡ record (loaded_one_by_one word i bytes s) { extended = y }
loads_apart word i x y [] s = refl
loads_apart word i x y (d ∷ ds) s = search (rules, loads_apart word (suc i) x y ds)

keeps_extended : (word i : ℕ) (bytes : List ℕ) (s : chip.ChipState)
    → (loaded_one_by_one word i bytes s).extended ≡ s.extended
keeps_extended word i [] s = refl
keeps_extended word i (d ∷ ds) s = search (rules, keeps_extended word (suc i) ds)

one_load : (wide : Bool) (a i d : ℕ) (ds : List ℕ) (s : chip.ChipState)
    → after_instructions (flash_loads wide 0x40 a i (d ∷ ds)) s
    ≡ after_instructions (flash_loads wide 0x40 a (suc i) ds)
    (record (chip.after_instruction (LoadFlash (half_at i) ((a % 256 + i / 2) % 256) d) s)
    { extended = cond wide (word_at a i / 65536 % 256) s.extended })
one_load wide a i d ds s = search rules

all_loads : (wide : Bool) (a i d : ℕ) (ds : List ℕ) (s : chip.ChipState)
    → after_instructions (flash_loads wide 0x40 a i (d ∷ ds)) s
    ≡ record (loaded_one_by_one (a % 256) i (d ∷ ds) s)
    { extended = cond wide (word_at a (i + length ds) / 65536 % 256) s.extended }
all_loads wide a i d [] s = search rules
all_loads wide a i d (b ∷ bs) s =
    let x = cond wide (word_at a i / 65536 % 256) s.extended in
    let s₁ : chip.ChipState = chip.after_instruction (LoadFlash (half_at i) ((a % 256 + i / 2) % 256) d) s in
    let y = cond wide (word_at a (suc i + length bs) / 65536 % 256) x in
    one_load wide a i d (b ∷ bs) s
    ∙ (all_loads wide a (suc i) b bs (record s₁ { extended = x })
    ∙ (loads_apart (a % 256) (suc i) x y (b ∷ bs) s₁
    ∙ ap (λ e. record (loaded_one_by_one (a % 256) (suc i) (b ∷ bs) s₁) { extended = e }) (search rules)))

-- the block was loaded, and the extended address of its last word is sent
pub block_is_loads : (wide : Bool) (cmd a last : ℕ) (bytes : List ℕ) (s loaded new : chip.ChipState) (done : Bool)
    → cmd ≡ 0x40 → 0 < length bytes → last ≡ word_at a (length bytes - 1)
    → (done, loaded) ≡ load_block (a % 256) bytes s → done ≡ true → new ≡ after_instructions (extension wide last)
    loaded → new ≡ after_instructions (flash_loads wide cmd a 0 bytes) s
block_is_loads wide cmd a last [] s loaded new done c some l is_done is ext = absurd (omega arith)
block_is_loads wide cmd a last (d ∷ ds) s loaded new done c some l is_done is ext =
    search (rules, keeps_extended, all_loads)

-- if the extended address is right already, reading changes nothing
all_looks : (wide : Bool) (a i n : ℕ) (s : chip.ChipState) → cond wide (a / 65536 % 256) s.extended ≡ s.extended
    → a < 2147483648 → a % 65536 * 2 + i + n ≤ 131072
    → flash_reads wide 0x20 a i n s ≡ (read_one_by_one (a % 65536) i n s, s)
all_looks wide a i zero s right few inside = refl
all_looks wide a i (suc n) s right few inside =
    let w = word_at a i in
    let page : w / 65536 % 256 ≡ a / 65536 % 256 = omega arith in
    let inner : w / 256 % 256 * 256 + w % 256 ≡ a % 65536 + i / 2 = search rules in
    search (rules, look_byte, offset_at, look_by, all_looks wide a (suc i) n s right few (omega arith))

looks_again : (wide : Bool) (cmd a n : ℕ) (s new : chip.ChipState) → a < 2147483648 → 0 < n
    → new ≡ after_instructions (extension wide a) s → flash_reads wide cmd a 0 n new ≡ flash_reads wide cmd a 0 n s
looks_again wide cmd a n s new few some ext = search rules

pub block_is_looks : (wide : Bool) (cmd a word n : ℕ) (bytes : List ℕ) (s new : chip.ChipState) → cmd ≡ 0x20
    → a < 2147483648 → 0 < n → word ≡ a % 65536 → new ≡ after_instructions (extension wide a) s
    → Some bytes ≡ flash_block word n new → flash_reads wide cmd a 0 n s ≡ (bytes, new)
block_is_looks wide cmd a word n bytes s new c few some w ext given =
    let fits : word * 2 + n ≤ 131072 = search rules in
    let right : cond wide (a / 65536 % 256) new.extended ≡ new.extended = search rules in
    search (rules, ← looks_again wide 0x20 a n s new few some ext, all_looks)

reads_length : (word i n : ℕ) (s : chip.ChipState) → length (read_one_by_one word i n s) ≡ n
reads_length word i zero s = refl
reads_length word i (suc n) s = ap suc (reads_length word (suc i) n s)

pub block_length : (word n : ℕ) (bytes : List ℕ) (s : chip.ChipState) → Some bytes ≡ flash_block word n s
    → length bytes ≡ n
block_length word n bytes s given = search (rules, reads_length)
