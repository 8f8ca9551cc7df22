-- A memory that is changed place by place, by its image.
use Rattle.std.proofs.Common.{◌≡◌, ℕ, ◌+◌, ◌≤◌, ◌<◌, List, length, get_or, map, sym, ◌∙◌, arith, Option, Some, None, unwrap_or, rules}
use Rattle.std.proofs.lemmas.List.{ext_get_or, length-map, get_or_past}
use Rattle.avr_image.specs.Image.{byte_at}
use Rattle.stk_emu.specs.Effect.{Image, with_image, and_in, and_with}
use Rattle.stk_emu.specs.WriteOperations.{image_at}
use Rattle.stk_emu.proofs.Memories.LaidImages.{length-laid, length-and_in, get_laid, get_and_in, before_part, in_part}

-- From a place on each byte is changed by the image.
pub record Written (f : Option ℕ → ℕ → ℕ) (image : Image) (from : ℕ) (old new : List ℕ) : Type 0 where
  pub long : length new ≡ length old
  pub kept : (i : ℕ) → i < length old → i < from → get_or new i 0 ≡ get_or old i 0
  pub done : (i : ℕ) → i < length old → from ≤ i → get_or new i 0 ≡ f (byte_at image i) (get_or old i 0)

-- one write operation between two places
pub record Changed (f : Option ℕ → ℕ → ℕ) (image : Image) (from to : ℕ) (old new : List ℕ) : Type 0 where
  pub order : from ≤ to
  pub long : length new ≡ length old
  pub before : (i : ℕ) → i < length old → i < from → get_or new i 0 ≡ get_or old i 0
  pub within : (i : ℕ) → i < length old → from ≤ i → i < to → get_or new i 0 ≡ f (byte_at image i) (get_or old i 0)
  pub behind : (i : ℕ) → i < length old → to ≤ i → get_or new i 0 ≡ get_or old i 0

-- If one write operation and then the rest write the image, it is written from the first place on.
pub changed_first : (f : Option ℕ → ℕ → ℕ) (image : Image) (from to : ℕ) (old mid new : List ℕ)
    → Changed f image from to old mid → Written f image to mid new → Written f image from old new
changed_first f image from to old mid new s w = search rules

-- Places without a byte of the image count as written.
pub gap_first : (f : Option ℕ → ℕ → ℕ) (image : Image) (from to : ℕ) (old new : List ℕ) → ((x : ℕ) → f None x ≡ x)
    → from ≤ to → ((i : ℕ) → from ≤ i → i < to → byte_at image i ≡ None) → Written f image to old new
    → Written f image from old new
gap_first f image from to old new none order gap w = changed_first f image from to old old new (search rules) w

-- If the image is written from place 0 on, it lies over the memory.
pub all_laid : (image : Image) (old new : List ℕ) → Written (λ b x. unwrap_or b x) image 0 old new
    → new ≡ with_image image old
all_laid image old new w = ext_get_or 0 new (with_image image old) (w.long ∙ sym (length-laid image old))
    (λ i l. w.done i (omega (arith, l, w.long)) (omega arith) ∙ sym (get_laid image old i (omega (arith, l, w.long))))

-- The same for a memory that only loses bits.
pub all_anded : (image : Image) (old new : List ℕ) → Written and_with image 0 old new → new ≡ and_in image old
all_anded image old new w = ext_get_or 0 new (and_in image old) (w.long ∙ sym (length-and_in image old))
    (λ i l. w.done i (omega (arith, l, w.long)) (omega arith) ∙ sym (get_and_in image old i (omega (arith, l, w.long))))

-- ---- the bytes of a write operation, by their addresses

-- There is no byte before the start.
pub placed_before : (start : ℕ) (bytes : List ℕ) (i : ℕ) → i < start → get_or (image_at start bytes) i None ≡ None
placed_before start bytes i l = before_part start (map Some bytes) i l

-- There is none behind the last.
pub placed_behind : (start : ℕ) (bytes : List ℕ) (i : ℕ) → start + length bytes ≤ i
    → get_or (image_at start bytes) i None ≡ None
placed_behind start bytes i past = search (rules, in_part, get_or_past, length-map)
