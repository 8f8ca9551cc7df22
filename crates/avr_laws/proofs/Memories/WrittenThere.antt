-- An image that a memory takes is there once it is written.
use Rattle.std.specs.Prelude.{if◌then◌else◌}
use Rattle.std.proofs.Common.{◌≡◌, ◌<◌, ℕ, List, [], ◌∷◌, length, get_or, refl, sym, ◌∙◌, arith, Bool, true, false, Option, Some, rules}
use Rattle.std.proofs.lemmas.Bool.{cases_Bool, eqb-true, true≢false}
use Rattle.std.proofs.lemmas.List.{length-replicate, get_or-replicate}
use Rattle.avr_image.specs.Image.{byte_at, HoldsBytes}
use Rattle.avr_part.specs.Part.{Part}
use Rattle.avr_part.specs.declared.part.Mem.{Mem}
use Rattle.avr_part.specs.declared.part.Mem.TheVariants.{Flash, Lock}
use Rattle.stk_emu.specs.Effect.{Image, Item, Erase, Write, Memories, with_image, and_with, effect, effects, write_effect, memory_in}
use Rattle.stk_emu.specs.StepData.{HoldsImage}
use Rattle.avr_laws.proofs.Memories.Bytes.{and_from_blank, laid_holds}
use Rattle.stk_emu.proofs.Memories.LaidImages.{length-and_in, get_and_in}
use Rattle.avr_tool.specs.Items.{has_erase}
use Rattle.avr_laws.specs.WrittenBytes.{LeaveUnwritten, IsErasedFor, WriteTakesEffect}
use Rattle.avr_tool.proofs.WriteOperations.EachMemory.{same_memory, size_stays, others_stay}
use Rattle.avr_tool.proofs.Memories.LaidImages.{write_keeps}

-- ---- an erased place stays blank until an image has a byte for it

module _ (part : Part) (mem : Mem) (addr : ℕ)
    (blanked : (m : Memories) → addr < length (memory_in part mem m)
    → get_or (memory_in part mem (effect part Erase m)) addr 0 ≡ 255)
    (sized : (m : Memories) → length (memory_in part mem (effect part Erase m)) ≡ length (memory_in part mem m)) where
  abbrev held : Memories → ℕ
  held m = get_or (memory_in part mem m) addr 0

  abbrev IsInside : Memories → Type 0
  IsInside m = addr < length (memory_in part mem m)

  -- a blank byte stays blank while no image has a byte for it
  stays_blank : (xs : List Item) (m : Memories) → IsInside m → LeaveUnwritten xs mem addr → held m ≡ 255
      → held (effects part xs m) ≡ 255
  stays_blank [] m inside free blank = blank
  stays_blank (Erase ∷ xs) m inside free blank =
      stays_blank xs (effect part Erase m) (omega (arith, inside, sized m)) free (blanked m inside)
  stays_blank (Write other image ∷ xs) m inside free blank = search (
    rules,
    stays_blank xs (write_effect other image
        m) (omega (arith, inside, size_stays part other mem image m)) free.1 ((search (
          rules,
          cases_Bool,
          same_memory,
          write_keeps,
          eqb-true,
          others_stay,
        )) ∙ blank),
    size_stays,
    cases_Bool,
    same_memory,
    write_keeps,
    eqb-true,
    others_stay,
  )

  -- so a byte is blank after an erase
  pub erased_is_blank : (xs : List Item) (m : Memories) → IsInside m → LeaveUnwritten xs mem addr → has_erase xs ≡ true
      → held (effects part xs m) ≡ 255
  erased_is_blank [] m inside free has = absurd (true≢false (sym has))
  erased_is_blank (Erase ∷ xs) m inside free has = search (rules, stays_blank)
  erased_is_blank (Write other image ∷ xs) m inside free has = search (
    rules,
    erased_is_blank xs (write_effect other
        image m) (omega (arith, inside, size_stays part other mem image m)) free.1 has,
    size_stays,
  )

  -- a memory keeps its size
  pub sizes_stay : (xs : List Item) (m : Memories)
      → length (memory_in part mem (effects part xs m)) ≡ length (memory_in part mem m)
  sizes_stay [] m = refl
  sizes_stay (Erase ∷ xs) m = sizes_stay xs (effect part Erase m) ∙ sized m
  sizes_stay (Write other image ∷ xs) m = search (rules, size_stays, sizes_stay xs (write_effect other image m))

-- ---- and it takes the image's byte

-- a blank byte takes any byte
anded_blank : (o : Option ℕ) (x b : ℕ) → o ≡ Some b → x ≡ 255 → b < 256 → and_with o x ≡ b
anded_blank o x b is blank small = search (rules, and_from_blank)

-- EEPROM of a chip that isn't locked takes an image
eeprom_there : (image : Image) (xs : List ℕ) (is_locked : Bool) → is_locked ≡ false
    → HoldsImage image (if is_locked then xs else with_image image xs)
eeprom_there image xs is_locked free = search (rules, true≢false, laid_holds)

module _ (part : Part) (image : Image) (first : List Item) (before : Memories) (bytes : HoldsBytes image) where
  abbrev after_first : Memories
  after_first = effects part first before

  -- flash is blank where an image has a byte, if an erase came before
  flash_blank : IsErasedFor Flash image first → (i b : ℕ) → byte_at image i ≡ Some b → i < length after_first.flash
      → get_or after_first.flash i 0 ≡ 255
  flash_blank erased i b is l =
      let blanked : (m : Memories) → i < length m.flash
      → get_or (memory_in part Flash (effect part Erase m)) i 0 ≡ 255 =
      λ m inside. get_or-replicate (length m.flash) i 255 0 inside in
      let sized : (m : Memories) → length (memory_in part Flash (effect part Erase m)) ≡ length m.flash =
      λ m. length-replicate {A = ℕ} (length m.flash) 255 in
      erased_is_blank part Flash i blanked sized first before
      (omega (arith, l, sizes_stay part Flash i blanked sized first before)) (erased.1 i b is) erased.0

  -- so is the lock
  lock_blank : IsErasedFor Lock image first → (b : ℕ) → byte_at image 0 ≡ Some b → after_first.lock ≡ 255
  lock_blank erased b is = erased_is_blank part Lock 0 (λ m inside. refl) (λ m. refl) first before (omega arith)
      (erased.1 0 b is) erased.0

  -- so the image is in its memory once it is written
  pub image_there : (mem : Mem) → WriteTakesEffect mem image first after_first
      → HoldsImage image (memory_in part mem (write_effect mem image after_first))
  image_there mem taken = search (
    rules,
    true≢false,
    length-and_in,
    get_and_in,
    anded_blank,
    flash_blank,
    eeprom_there,
    true≢false,
    anded_blank,
    lock_blank,
  )
