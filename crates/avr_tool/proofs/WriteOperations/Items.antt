-- The steps of an item do what the item does, and fit the part.
use Rattle.std.proofs.Common.{◌≡◌, ℕ, zero, suc, ◌+◌, ◌-◌, ◌*◌, ◌/◌, ◌%◌, ◌≤◌, ◌<◌, List, [], ◌∷◌, ◌++◌, length, refl, ◌∙◌, arith, Bool, true, cond, Option, Some, None, is_some, rules}
use Rattle.std.proofs.lemmas.Bool.{and_parts}
use Rattle.std.proofs.lemmas.List.{length-replicate, get_or-replicate}
use Rattle.std.proofs.lemmas.Nat.{div-add-mod'}
use Rattle.std.proofs.lemmas.List.Elements.{All-from_get_or}
use Rattle.std.specs.Int.{div_ceil}
use Rattle.avr_part.specs.Memory.{AreBytes}
use Rattle.stk_emu.proofs.Memories.Pages.{page_even}
use Rattle.std.proofs.Math.Nat.{suc-mul, mul-le-mul_right}
use Rattle.std.specs.Prelude.{◌==◌, ◌||◌, not, min}
use Rattle.avr_image.specs.Image.{byte_at, filled_bytes, run_end}
use Rattle.avr_image.proofs.Lemmas.{held_within, filled_is, run_is_longest}
use Rattle.avr_part.specs.declared.part.Mem.{Mem}
use Rattle.avr_part.specs.declared.part.Mem.TheVariants.{Flash, Eeprom, Lfuse, Hfuse, Efuse, Lock, Signature, Calibration}
use Rattle.avr_part.specs.Part.{Part, IsPart, size_of}
use Rattle.stk_frame.specs.declared.command.Command.{Command}
use Rattle.stk_frame.specs.declared.command.Fuse.TheVariants.{Low, High, Extended}
use Rattle.stk_frame.specs.HostCommands.{program_fuse, program_lock}
use Rattle.stk_host.specs.Places.{each_from}
use Rattle.stk_host.specs.WriteSteps.{page_step, page_steps, page_end, begins_run, run_step, run_steps_at, byte_steps, write_steps}
use Rattle.stk_host.specs.ReadSteps.{read_count, block_size, read_step, read_steps}
use Rattle.stk_emu.specs.Effect.{Memories, Image, Item, Erase, Write, effect, effects}
use Rattle.stk_emu.specs.Settled.{FitsPart}
use Rattle.stk_emu.specs.WriteOperations.{memories_after_step, write_operations_of, IsStep, ProgramsPage, ProgramsEepromRun, ProgramsFuse, ProgramsLock, ReadsFlash, ReadsEeprom, ReadsFuse, ReadsLock, ReadsSignature, ReadsCalibration, AreSteps, IsBlock, AreWords, steps_of_item, steps_of_items}
use Rattle.avr_tool.proofs.Leads.{memories_after_steps}
use Rattle.avr_tool.proofs.WriteOperations.EachMemory.{size_stays}
use Rattle.avr_tool.proofs.WriteOperations.Pages.{write_operations_append, effects_on, pages_effect, AllBelow, below_and_in}
use Rattle.avr_tool.proofs.WriteOperations.Runs.{runs_effect}

-- The image of a write is no longer than its memory.
abbrev pub ItemFits : Part → Item → Type 0
ItemFits part Erase = Unit {0}
ItemFits part (Write mem image) = length image ≤ size_of mem part

-- So is each image of these items.
abbrev pub ItemsFit : Part → List Item → Type 0
ItemsFit part [] = Unit {0}
ItemsFit part (item ∷ items) = ItemFits part item × ItemsFit part items

-- A choice between equals is no choice.
either_way : {A : Type 0} (b : Bool) (x : A) → cond b x x ≡ x
either_way b x = search rules

-- Bytes below 256 by index are bytes.
all_below : (xs : List ℕ) → AllBelow xs → AreBytes xs
all_below xs below = All-from_get_or (λ b. b < 256) xs 0 below

module _ (part : Part) (sound : IsPart part) where
  -- A write leaves bytes in flash.
  flash_bytes : (mem : Mem) (image : Image) (m : Memories) → AreBytes m.flash
      → AreBytes (effect part (Write mem image) m).flash
  flash_bytes mem image m bytes = search (rules, all_below, below_and_in)

  -- An item keeps the sizes of the memories.
  pub effect_sizes : (item : Item) (m : Memories) → FitsPart part m → FitsPart part (effect part item m)
  effect_sizes Erase m f = search (rules, length-replicate, get_or-replicate)
  effect_sizes (Write mem image) m f = record {
    flash = size_stays part mem Flash image m ∙ f.flash;
    eeprom = size_stays part mem Eeprom image m ∙ f.eeprom;
    bytes = flash_bytes mem image m f.bytes;
  }

  -- The write operations of a write do what the write does.
  write_does : (mem : Mem) (image : Image) (m : Memories) → length image ≤ size_of mem part → FitsPart part m
      → effects part (write_operations_of (write_steps part mem image)) m ≡ effect part (Write mem image) m
  write_does mem image m fits f = search (rules, pages_effect, runs_effect, either_way)

  -- So do those of any item.
  pub item_does : (item : Item) (m : Memories) → ItemFits part item → FitsPart part m
      → effects part (write_operations_of (steps_of_item part item)) m ≡ effect part item m
  item_does item m fits f = search (rules, write_does)

  -- So do those of all items, in order.
  pub items_do : (items : List Item) (m : Memories) → ItemsFit part items → FitsPart part m
      → effects part (write_operations_of (steps_of_items part items)) m ≡ effects part items m
  items_do [] m fits f = refl
  items_do (item ∷ items) m fits f =
      let rest = items_do items (effect part item m) fits.1 (effect_sizes item m f) in
      search (rules, write_operations_append, effects_on, item_does)

-- All steps leave what all their write operations leave.
pub changed_all : (part : Part) (steps : List (List Command)) (m : Memories)
    → memories_after_steps part (length steps) steps m ≡ effects part (write_operations_of steps) m
changed_all part [] m = refl
changed_all part (commands ∷ steps) m = search (rules, changed_all part steps (memories_after_step part commands m))

-- ---- the steps fit the part

-- Two lists of steps of a part, one after the other.
pub steps_on : (part : Part) (xs ys : List (List Command)) → AreSteps part xs → AreSteps part ys
    → AreSteps part (xs ++ ys)
steps_on part [] ys f g = g
steps_on part (x ∷ xs) ys f g = (f.0, steps_on part xs ys f.1 g)

-- Steps that are made place by place are steps of the part if those at each place are.
each_step : (part : Part) (steps_at : ℕ → List (List Command)) (place count : ℕ)
    → ((i : ℕ) → place ≤ i → i < place + count → AreSteps part (steps_at i))
    → AreSteps part (each_from steps_at place count)
each_step part steps_at place zero each = tt
each_step part steps_at place (suc count) each =
    steps_on part (steps_at place) (each_from steps_at (place + 1) count) (each place (omega arith) (omega arith))
    (each_step part steps_at (place + 1) count (λ i a b. each i (omega (arith, a)) (omega (arith, b))))

-- Either of two lists of steps.
either_steps : (part : Part) (b : Bool) (x y : List (List Command)) → (b ≡ true → AreSteps part x) → AreSteps part y
    → AreSteps part (cond b x y)
either_steps part b x y f g = search rules

module _ (part : Part) (sound : IsPart part) where
  -- A page of an image is a step.
  page_is_step : (image : Image) (n : ℕ) → n < part.flash_size / part.flash_page
      → AreSteps part (page_steps part image n)
  page_is_step image n l = search (rules, either_steps, is_page)
    where
      -- Its bytes are a whole page of flash.
      is_page : IsStep part (page_step part image (n * part.flash_page))
      is_page =
          let all = div-add-mod' part.flash_size part.flash_page in
          let whole = sound.flash_pages in
          let up : suc n * part.flash_page ≤ part.flash_size / part.flash_page * part.flash_page =
          mul-le-mul_right part.flash_page (omega (arith, l)) in
          let next = suc-mul n part.flash_page in
          ProgramsPage n (filled_bytes image (n * part.flash_page) part.flash_page)
          (search (rules, filled_is)) refl

  -- A run of EEPROM bytes is a step.
  run_is_step : (image : Image) (addr : ℕ) → length image ≤ part.eeprom_size
      → AreSteps part (run_steps_at part image addr)
  run_is_step image addr fits = search (rules, either_steps, is_run)
    where
      -- Its bytes lie within one page of EEPROM.
      is_run : begins_run part.eeprom_page image addr ≡ true → IsStep part (run_step part image addr)
      is_run begins =
          let page = part.eeprom_page in
          let held = (and_parts (is_some (byte_at image addr))
          ((addr % page == 0) || not (is_some (byte_at image (addr - 1)))) begins).0 in
          let some = sound.eeprom_page in
          let here : page * (addr / page) + addr % page ≡ addr = omega arith in
          let rest : addr % page < page = omega arith in
          let end = run_end image addr (page_end page addr) in
          let run = run_is_longest image addr (page_end page addr) (omega (arith, here, rest)) in
          let longer : addr < end = search rules in
          let last : end - 1 < length image = held_within image (end - 1)
          (run.held (end - 1) (omega (arith, longer)) (omega (arith, longer))) in
          let size = (filled_is image addr (end - addr)).size in
          ProgramsEepromRun addr (filled_bytes image addr (end - addr)) (search rules) refl

  -- One byte of a fuse or of the lock is a step, if the image has it.
  byte_is_step : (program : ℕ → Command) (o : Option ℕ) → ((v : ℕ) → IsStep part (program v ∷ []))
      → AreSteps part (byte_steps program o)
  byte_is_step program None each = tt
  byte_is_step program (Some v) each = (each v, tt)

  -- A write of any memory has steps of the part.
  pub write_are_steps : (mem : Mem) (image : Image) → length image ≤ size_of mem part
      → AreSteps part (write_steps part mem image)
  write_are_steps Flash image fits = each_step part (page_steps part image) 0 (part.flash_size / part.flash_page)
      (λ i a l. page_is_step image i (omega (arith, l)))
  write_are_steps Eeprom image fits = search (rules, each_step, run_is_step)
  write_are_steps Lfuse image fits = byte_is_step (program_fuse Low) (byte_at image 0) (λ v. ProgramsFuse Low v refl)
  write_are_steps Hfuse image fits = byte_is_step (program_fuse High) (byte_at image 0) (λ v. ProgramsFuse High v refl)
  write_are_steps Efuse image fits = byte_is_step (program_fuse Extended) (byte_at image 0)
      (λ v. ProgramsFuse Extended v refl)
  write_are_steps Lock image fits = byte_is_step program_lock (byte_at image 0) (λ v. ProgramsLock v refl)
  write_are_steps mem image fits = tt

  -- So has any item.
  pub item_are_steps : (item : Item) → ItemFits part item → AreSteps part (steps_of_item part item)
  item_are_steps item fits = search (rules, write_are_steps)

  -- and so do those that read
  pub flash_even : part.flash_size % 2 ≡ 0
  flash_even =
      let all = div-add-mod' part.flash_size part.flash_page in
      let whole = sound.flash_pages in
      let even = page_even part sound (part.flash_size / part.flash_page) in search rules

  -- A block of flash has whole words.
  block_words : (number size : ℕ) → size % 2 ≡ 0 → AreWords (number * 256) (min 256 (size - number * 256))
  block_words number size even = record { start_even = omega arith; count_even = omega (arith, even) }

  -- A block lies in its memory, and has at most 256 bytes.
  block_is : (mem : Mem) (number : ℕ) → number < div_ceil (size_of mem part) 256
      → IsBlock part mem (number * 256) (block_size (size_of mem part) (number * 256))
  block_is mem number l = record { some = omega (arith, l); few = omega arith; inside = omega (arith, l) }

  -- The steps that read a memory are steps of the part.
  pub read_are_steps : (mem : Mem) → AreSteps part (read_steps part mem)
  read_are_steps Flash = each_step part (read_step part Flash) 0 (read_count part Flash)
      (λ i a l. (
        ReadsFlash (i * 256) (block_size part.flash_size (i * 256)) (block_is Flash i (omega (arith, l)))
            (block_words i part.flash_size flash_even) refl,
        tt,
      ))
  read_are_steps Eeprom = each_step part (read_step part Eeprom) 0 (read_count part Eeprom)
      (λ i a l. (
        ReadsEeprom (i * 256) (block_size part.eeprom_size (i * 256)) (block_is Eeprom i (omega (arith, l))) refl,
        tt,
      ))
  read_are_steps Lfuse = (ReadsFuse Low refl, tt)
  read_are_steps Hfuse = (ReadsFuse High refl, tt)
  read_are_steps Efuse = (ReadsFuse Extended refl, tt)
  read_are_steps Lock = (ReadsLock refl, tt)
  read_are_steps Signature = each_step part (read_step part Signature) 0 3
      (λ i a l. (ReadsSignature i (omega (arith, l)) refl, tt))
  read_are_steps Calibration = (ReadsCalibration refl, tt)
