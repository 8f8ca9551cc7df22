-- Writes, one after another, are one write to each memory. So writing twice is writing once, also after an erase.
use Rattle.std.proofs.lemmas.Grind.{common_steps}
use Rattle.std.proofs.Common.{◌≡◌, ℕ, zero, suc, refl, sym, ap, ap₂, ◌∙◌, get_or, List, [], ◌∷◌, length, Bool, true, false, Option, Some, None, bit_and, rules, arith}
use Rattle.std.proofs.lemmas.Bool.{true≢false}
use Rattle.std.proofs.lemmas.List.{length-replicate}
use Rattle.std.proofs.lemmas.Nat.{and_assoc}
use Rattle.std.proofs.lemmas.Nat.Bits.{bit_at_and}
use Rattle.std.specs.Prelude.{⊤, ◌==◌, if◌then◌else◌, replicate, take, drop}
use Rattle.std.specs.Int.{bit_at}
use Rattle.std.specs.Option.{option_or}
use Rattle.avr_part.specs.Part.{Part}
use Rattle.avr_part.specs.declared.part.Mem.{Mem}
use Rattle.avr_part.specs.declared.part.Mem.TheVariants.{Flash, Eeprom, Lfuse, Hfuse, Efuse, Lock}
use Rattle.stk_emu.specs.Effect.{Image, Memories, Item, Erase, Write, and_in, and_with, are_locked, erase_keeps_eeprom, write_effect, effect, effects, memory_in}
use Rattle.stk_emu.proofs.Memories.LaidImages.{length-laid, laid_twice, and_in_twice, length-and_in}
use Rattle.avr_tool.proofs.WriteOperations.EachMemory.{keeps_zeros, laid, is_barred, leaves_memory, write_is}
use Rattle.avr_tool.specs.Items.{has_erase}

-- memories are equal if each of them is
same_memories : (part : Part) (m n : Memories) → ((mem : Mem) → memory_in part mem m ≡ memory_in part mem n) → m ≡ n
same_memories part m n each =
    let byte : (mem : Mem) → get_or (memory_in part mem m) 0 0 ≡ get_or (memory_in part mem n) 0 0 =
    λ mem. ap (λ (xs : List ℕ). get_or xs 0 0) (each mem) in
    ap (λ xs. record m { flash = xs }) (each Flash)
    ∙ (ap (λ xs. record m { flash = n.flash; eeprom = xs }) (each Eeprom)
    ∙ (ap (λ (x : ℕ). record m { flash = n.flash; eeprom = n.eeprom; lfuse = x }) (byte Lfuse)
    ∙ (ap (λ (x : ℕ). record n { lock = m.lock; efuse = m.efuse; hfuse = x }) (byte Hfuse)
    ∙ (ap (λ (x : ℕ). record n { lock = m.lock; efuse = x }) (byte Efuse)
    ∙ ap (λ (x : ℕ). record n { lock = x }) (byte Lock)))))

-- ---- two images are one

-- two bytes of a memory that takes zeros only
abbrev anded : Option ℕ → Option ℕ → Option ℕ
anded None b = b
anded (Some a) None = Some a
anded (Some a) (Some b) = Some (bit_and a b)

-- an image over another
abbrev images_joined : Bool → Image → Image → Image
images_joined zeros [] b = b
images_joined zeros (x ∷ a) [] = x ∷ a
images_joined zeros (x ∷ a) (y ∷ b) = (if zeros then anded x y else option_or y x) ∷ images_joined zeros a b

-- an empty image changes nothing
laid_nothing : (zeros : Bool) (xs : List ℕ) → laid zeros [] xs ≡ xs
laid_nothing true [] = refl
laid_nothing true (x ∷ xs) = refl
laid_nothing false [] = refl
laid_nothing false (x ∷ xs) = refl

-- two images, one after the other, are one
laid_joined : (zeros : Bool) (a b : Image) (xs : List ℕ)
    → laid zeros b (laid zeros a xs) ≡ laid zeros (images_joined zeros a b) xs
laid_joined zeros [] b xs = ap (laid zeros b) (laid_nothing zeros xs)
laid_joined zeros (p ∷ a) [] xs = laid_nothing zeros (laid zeros (p ∷ a) xs)
laid_joined true (p ∷ a) (q ∷ b) [] = refl
laid_joined false (p ∷ a) (q ∷ b) [] = refl
laid_joined true (p ∷ a) (q ∷ b) (x ∷ xs) = ap₂ (λ y ys. y ∷ ys) (search (rules, and_assoc)) (laid_joined true a b xs)
laid_joined false (p ∷ a) (q ∷ b) (x ∷ xs) = ap₂ (λ y ys. y ∷ ys) (search rules) (laid_joined false a b xs)

-- ---- a lock that is set stays set

-- a byte over the lock
stays : (byte : Option ℕ) (lock : ℕ) → (bit_at lock 0 == 0) ≡ true → (bit_at (and_with byte lock) 0 == 0) ≡ true
stays None lock locked = locked
stays (Some b) lock locked = search (rules, bit_at_and lock b 0)

module _ (part : Part) where
  -- a chip that is locked stays so while nothing erases
  ends_locked : (items : List Item) (m : Memories) → has_erase items ≡ false → are_locked m ≡ true
      → are_locked (effects part items m) ≡ true
  ends_locked [] m w e = e
  ends_locked (Erase ∷ items) m w e = absurd (true≢false w)
  ends_locked (Write mem image ∷ items) m w e = ends_locked items (write_effect mem image m) w (search (rules, stays))

  -- so one that isn't locked at the end never was
  begins_open : (items : List Item) (m : Memories) → has_erase items ≡ false
      → are_locked (effects part items m) ≡ false → are_locked m ≡ false
  begins_open items m w unlocked = search (rules, ends_locked)

  -- ---- writes alone, in one memory

  module _ (mem : Mem) where
    -- what they come to
    abbrev net : List Item → Memories → Image
    net [] m = []
    net (Erase ∷ items) m = []
    net (Write other image ∷ items) m =
        let more = net items (write_effect other image m) in
        if leaves_memory other mem (are_locked m) then more else images_joined (keeps_zeros mem) image more

    -- the writes of a memory come to one
    net_is : (items : List Item) (m : Memories) → has_erase items ≡ false
        → memory_in part mem (effects part items m) ≡ laid (keeps_zeros mem) (net items m) (memory_in part mem m)
    net_is [] m w = sym (laid_nothing (keeps_zeros mem) (memory_in part mem m))
    net_is (Erase ∷ items) m w = absurd (true≢false w)
    net_is (Write other image ∷ items) m w =
        let after = write_effect other image m in
        net_is items after w
        ∙ (ap (laid (keeps_zeros mem) (net items after)) (write_is part other mem image m)
        ∙ unless (leaves_memory other mem (are_locked m)) (net items after) (memory_in part mem m))
      where
        unless : (b : Bool) (more : Image) (xs : List ℕ)
            → laid (keeps_zeros mem) more (if b then xs else laid (keeps_zeros mem) image xs)
            ≡ laid (keeps_zeros mem) (if b then more else images_joined (keeps_zeros mem) image more) xs
        unless true more xs = refl
        unless false more xs = laid_joined (keeps_zeros mem) image more xs

    -- if both are barred alike, the writes come to the same
    abbrev Alike : List Item → Memories → Memories → Type 0
    Alike [] m n = ⊤
    Alike (item ∷ items) m n = (is_barred mem (are_locked m) ≡ is_barred mem (are_locked n))
        × Alike items (effect part item m) (effect part item n)

    -- if both chips bar them alike, they come to the same
    same_net : (items : List Item) (m n : Memories) → Alike items m n → net items m ≡ net items n
    same_net [] m n alike = refl
    same_net (Erase ∷ items) m n alike = refl
    same_net (Write other image ∷ items) m n alike =
        search (rules, same_net items (write_effect other image m) (write_effect other image n) alike.1)

    -- chips with the same lock bar them alike
    by_lock : (items : List Item) (m n : Memories) → has_erase items ≡ false → m.lock ≡ n.lock → Alike items m n
    by_lock [] m n w e = tt
    by_lock (Erase ∷ items) m n w e = absurd (true≢false w)
    by_lock (Write other image ∷ items) m n w e = (
      ap (λ (k : ℕ). is_barred mem (bit_at k 0 == 0)) e,
      by_lock items (write_effect other image m) (write_effect other image n) w (search rules),
    )

    -- so do chips that are never locked
    open_alike : (items : List Item) (m n : Memories) → has_erase items ≡ false
        → are_locked (effects part items m) ≡ false → are_locked (effects part items n) ≡ false → Alike items m n
    open_alike [] m n w e f = tt
    open_alike (Erase ∷ items) m n w e f = absurd (true≢false w)
    open_alike (Write other image ∷ items) m n w e f = (
      ap (is_barred mem) (begins_open (Write other image ∷ items) m w e
          ∙ sym (begins_open (Write other image ∷ items) n w f)),
      open_alike items (write_effect other image m) (write_effect other image n) w e f,
    )

    -- so do all chips, in a memory that no lock bars
    never_barred : (items : List Item) (m n : Memories) → ((b c : Bool) → is_barred mem b ≡ is_barred mem c)
        → Alike items m n
    never_barred [] m n e = tt
    never_barred (item ∷ items) m n e = search (rules, never_barred items (effect part item m) (effect part item n) e)

    -- under a lock nothing changes
    locked_keeps : (items : List Item) (m : Memories) → is_barred mem true ≡ true → has_erase items ≡ false
        → are_locked m ≡ true → memory_in part mem (effects part items m) ≡ memory_in part mem m
    locked_keeps [] m barred w locked = refl
    locked_keeps (Erase ∷ items) m barred w locked = absurd (true≢false w)
    locked_keeps (Write other image ∷ items) m barred w locked =
        search (rules, locked_keeps items (write_effect other image m) barred w (search (rules, stays)))

    -- if what they leave bars them alike, writing twice is writing once
    net_again : (items : List Item) (m : Memories) → has_erase items ≡ false → Alike items (effects part items m) m
        → memory_in part mem (effects part items (effects part items m)) ≡ memory_in part mem (effects part items m)
    net_again items m w alike = search (rules, net_is, same_net, and_in_twice, laid_twice)

  -- the lock
  lock_again : (items : List Item) (m : Memories) → has_erase items ≡ false
      → memory_in part Lock (effects part items (effects part items m)) ≡ memory_in part Lock (effects part items m)
  lock_again items m w = net_again Lock items m w (never_barred Lock items (effects part items m) m (λ b c. refl))

  -- each memory
  each_again : (items : List Item) (m : Memories) → has_erase items ≡ false → (mem : Mem)
      → memory_in part mem (effects part items (effects part items m)) ≡ memory_in part mem (effects part items m)
  each_again items m w mem = search (rules, lock_again, locked_keeps, net_again, open_alike)

  -- so writing twice is writing once
  pub written_again : (items : List Item) (m : Memories) → has_erase items ≡ false
      → effects part items (effects part items m) ≡ effects part items m
  written_again items m w = same_memories part _ _ (each_again items m w)

  -- ---- after an erase

  module _ (items : List Item) (m : Memories) (w : has_erase items ≡ false)
      (kept : erase_keeps_eeprom part m ≡ true → erase_keeps_eeprom part (effects part (Erase ∷ items) m) ≡ true) where
    abbrev blanked : Memories
    blanked = effect part Erase m

    abbrev left : Memories
    left = effects part items blanked

    -- after another erase the same writes make the same bytes
    back : (mem : Mem) → laid (keeps_zeros mem) (net mem items blanked) (memory_in part mem (effect part Erase left))
        ≡ laid (keeps_zeros mem) (net mem items blanked) (memory_in part mem blanked)
    back Flash = ap (λ (k : ℕ). and_in (net Flash items blanked) (replicate k 255))
        (ap (λ (xs : List ℕ). length xs) (net_is Flash items blanked w)
        ∙ ((search (rules, length-and_in)) ∙ length-replicate {A = ℕ} (length m.flash) 255))
    back Eeprom = search (rules, net_is Eeprom items blanked w, laid_twice, true≢false, length-laid, length-replicate)
    back Lock = refl
    back mem = search (rules, net_is mem items blanked w)

    -- an erase and writes, twice
    pub erased_again : effects part (Erase ∷ items) left ≡ left
    erased_again = same_memories part _ _ (grind (arith, common_steps, net_is, same_net, by_lock, back))

  -- ---- some first ones, and then all

  -- the first items of writes are writes
  writes_of : (k : ℕ) (items : List Item) → has_erase items ≡ false → has_erase (take k items) ≡ false
  writes_of zero items w = refl
  writes_of (suc k) [] w = w
  writes_of (suc k) (Erase ∷ items) w = absurd (true≢false w)
  writes_of (suc k) (Write mem image ∷ items) w = writes_of k items w

  -- the first items, and then the others
  split_first : (k : ℕ) (items : List Item) (m : Memories)
      → effects part items m ≡ effects part (drop k items) (effects part (take k items) m)
  split_first zero items m = refl
  split_first (suc k) [] m = refl
  split_first (suc k) (item ∷ items) m = split_first k items (effect part item m)

  -- some of the writes, and then all
  pub first_writes_again : (k : ℕ) (items : List Item) (m : Memories) → has_erase items ≡ false
      → effects part items (effects part (take k items) m) ≡ effects part items m
  first_writes_again k items m w = split_first k items (effects part (take k items) m)
      ∙ (search (rules, written_again, writes_of, split_first))

  -- some of an erase and writes, and then all
  pub first_again : (k : ℕ) (items : List Item) (m : Memories) → has_erase items ≡ false
      → (erase_keeps_eeprom part m ≡ true → erase_keeps_eeprom part (effects part (take k (Erase ∷ items)) m) ≡ true)
      → effects part (Erase ∷ items) (effects part (take k (Erase ∷ items)) m) ≡ effects part (Erase ∷ items) m
  first_again zero items m w kept = refl
  first_again (suc k) items m w kept = split_first k items (effect part Erase (effects part (Erase ∷ take k items) m))
      ∙ (search (rules, erased_again, writes_of, split_first))
