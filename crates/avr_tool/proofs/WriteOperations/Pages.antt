-- The pages of a write do what the write does.
use Rattle.std.proofs.Common.{◌≡◌, ℕ, zero, suc, ◌+◌, ◌-◌, ◌*◌, ◌/◌, ◌≤◌, ◌<◌, List, [], ◌∷◌, ◌++◌, length, get_or, refl, sym, ap, ◌∙◌, subst, append_assoc, arith, inl, inr, true, false, Option, None, is_some, rules}
use Rattle.std.proofs.lemmas.Grind.{and_numeral}
use Rattle.std.proofs.lemmas.Nat.{and_le_l}
use Rattle.std.proofs.lemmas.Bool.{cases_Bool, cond-true, cond-false}
use Rattle.std.proofs.lemmas.List.{get_or-take, get_or-drop}
use Rattle.std.proofs.Math.Nat.{suc-mul, zero-mul, mul-le-mul_right}
use Rattle.std.specs.List.{list_any}
use Rattle.avr_image.specs.Image.{byte_at, filled_bytes, holds_any}
use Rattle.avr_image.proofs.Lemmas.{filled_is}
use Rattle.avr_part.specs.declared.part.Mem.TheVariants.{Flash}
use Rattle.avr_part.specs.Part.{Part, IsPart}
use Rattle.stk_frame.specs.declared.command.Command.{Command}
use Rattle.stk_host.specs.Places.{each_from}
use Rattle.stk_host.specs.WriteSteps.{page_step, page_steps}
use Rattle.stk_emu.specs.Effect.{Memories, Image, Item, Write, effect, effects, and_in, and_with, are_locked}
use Rattle.stk_emu.specs.WriteOperations.{image_at, write_operations_of}
use Rattle.stk_emu.proofs.Memories.LaidImages.{get_and_in, length-and_in, in_part, some_at}
use Rattle.stk_emu.proofs.Memories.Pages.{page_even}
use Rattle.avr_tool.proofs.WriteOperations.Places.{Written, Changed, changed_first, gap_first, all_anded, placed_before, placed_behind}

-- The write operations of two lists of steps are those of both lists in order.
pub write_operations_append : (xs ys : List (List Command)) → write_operations_of (xs ++ ys) ≡ write_operations_of xs
    ++ write_operations_of ys
write_operations_append [] ys = refl
write_operations_append (x ∷ xs) ys = search (rules, append_assoc, write_operations_append xs ys)

-- Two lists of items have their effects one after the other.
pub effects_on : (part : Part) (xs ys : List Item) (m : Memories)
    → effects part (xs ++ ys) m ≡ effects part ys (effects part xs m)
effects_on part [] ys m = refl
effects_on part (x ∷ xs) ys m = effects_on part xs ys (effect part x m)

-- Each of these numbers is a byte.
abbrev pub AllBelow : List ℕ → Type 0
AllBelow xs = (i : ℕ) → i < length xs → get_or xs i 0 < 256

-- Bytes that lose bits are bytes.
pub below_and_in : (image : Image) (xs : List ℕ) → AllBelow xs → AllBelow (and_in image xs)
below_and_in image xs below i l = search (rules, length-and_in, get_and_in, and_le_l)

-- a page without a byte of the image
none_any : (xs : List (Option ℕ)) (k : ℕ) → list_any is_some xs ≡ false → get_or xs k None ≡ None
none_any (None ∷ xs) (suc k) e = none_any xs k e
none_any xs k e = search rules

-- A page that is left out has no byte of the image.
unused_gap : (page : ℕ) (image : Image) (start : ℕ) → holds_any image start page ≡ false → (i : ℕ) → start ≤ i
    → i < start + page → byte_at image i ≡ None
unused_gap page image start unused i from to =
    ap (byte_at image) (let e : i ≡ start + (i - start) = omega arith in e)
    ∙ (search (rules, get_or-drop, get_or-take, none_any))

-- The write operation of one page changes its bytes alone.
page_changed : (image : Image) (start page : ℕ) (old : List ℕ) → AllBelow old
    → Changed and_with image start (start + page) old (and_in (image_at start (filled_bytes image start page)) old)
page_changed image start page old below =
    search (rules, filled_is, length-and_in, get_and_in, placed_before, in_part, some_at, and_numeral, placed_behind)

module _ (part : Part) (sound : IsPart part) (image : Image) where
  -- flash after the write operations of these steps
  pub record Flashed (steps : List (List Command)) (m : Memories) (from : ℕ) (old : List ℕ) : Type 0 where
    pub new : List ℕ
    pub is : effects part (write_operations_of steps) (record m { flash = old }) ≡ record m { flash = new }
    pub written : Written and_with image from old new

  -- One page and then the others write the image from its place on.
  page_first : (n : ℕ) (others : List (List Command)) (m : Memories) (old : List ℕ) → are_locked m ≡ false
      → AllBelow old → n * part.flash_page < 4294967296
      → ((mid : List ℕ) → AllBelow mid → length mid ≡ length old → Flashed others m ((n + 1) * part.flash_page) mid)
      → Flashed (page_steps part image n ++ others) m (n * part.flash_page) old
  page_first n others m old free below few rest =
      let start = n * part.flash_page in
      let page = part.flash_page in
      let next : (n + 1) * page ≡ start + page = let e = suc-mul n page in search rules in
      elim (cases_Bool (holds_any image start page)) [
        | inl used ↦
            let bytes = filled_bytes image start page in
            let mid = and_in (image_at start bytes) old in
            let r : Flashed others m ((n + 1) * page) mid =
            rest mid (below_and_in (image_at start bytes) old below) (length-and_in (image_at start bytes) old) in
            record {
              new = r.new;
              is = search (rules, page_even, cond-false);
              written = changed_first and_with image start (start + page) old mid r.new
                  (page_changed image start page old below)
                  (subst (λ to. Written and_with image to mid r.new) next r.written);
            }
        | inr unused ↦
            let r : Flashed others m ((n + 1) * page) old = rest old below refl in
            let steps_are : page_steps part image n ≡ [] =
            cond-false (holds_any image start page) (page_step part image start ∷ []) [] unused in
            record { new = r.new; is = search rules; written = grind (arith, gap_first, unused_gap) }
      ]

  -- If the chip isn't locked, all pages from a place on write the image from there.
  pages_free : (n k : ℕ) (m : Memories) (old : List ℕ) → are_locked m ≡ false → AllBelow old
      → (n + k) * part.flash_page ≡ length old → length old ≤ 262144
      → Flashed (each_from (page_steps part image) n k) m (n * part.flash_page) old
  pages_free n zero m old free below long most = search rules
  pages_free n (suc k) m old free below long most =
      let within : n * part.flash_page ≤ (n + suc k) * part.flash_page =
      less n (n + suc k) part.flash_page (omega arith) in
      page_first n (each_from (page_steps part image) (n + 1) k) m old free below (omega (arith, within, long, most))
      (λ mid still_below same. pages_free (n + 1) k m mid free still_below
      (ap (λ j. j * part.flash_page) (let e : n + 1 + k ≡ n + suc k = omega arith in e) ∙ (long ∙ sym same))
      (omega (arith, same, most)))
    where
      -- Fewer pages have fewer bytes.
      less : (a b page : ℕ) → a ≤ b → a * page ≤ b * page
      less a b page le = mul-le-mul_right page le

  -- The pages change nothing in a locked chip.
  pages_locked : (n k : ℕ) (m : Memories) → are_locked m ≡ true → (n + k) * part.flash_page ≤ 262144
      → effects part (write_operations_of (each_from (page_steps part image) n k)) m ≡ m
  pages_locked n zero m lock most = refl
  pages_locked n (suc k) m lock most = search (rules, pages_locked (n + 1) k m lock (search rules))

  -- the pages of an image do what its write does
  pub pages_effect : (m : Memories) → length m.flash ≡ part.flash_size → AllBelow m.flash
      → effects part (write_operations_of (each_from (page_steps part image) 0 (part.flash_size / part.flash_page))) m
      ≡ effect part (Write Flash image) m
  pages_effect m long below =
      let count : (0 + part.flash_size / part.flash_page) * part.flash_page ≡ part.flash_size = search rules in
      elim (cases_Bool (are_locked m)) [
        | inl lock ↦ search (rules, pages_locked, cond-true)
        | inr free ↦
            let r : Flashed (each_from (page_steps part image) 0 (part.flash_size / part.flash_page)) m
            (0 * part.flash_page) m.flash = search (rules, pages_free) in
            search (rules, all_anded, zero-mul, cond-false)
      ]
