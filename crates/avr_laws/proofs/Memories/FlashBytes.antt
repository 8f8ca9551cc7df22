-- A byte of flash, after items.
use Rattle.std.proofs.Common.{◌≡◌, ◌⊎◌, ◌<◌, ℕ, zero, suc, List, [], ◌∷◌, length, get_or, take, bit_and, refl, sym, ap, ◌∙◌, inl, inr, Bool, true, Some, rules, if◌then◌else◌}
use Rattle.std.proofs.lemmas.Bool.{true≢false}
use Rattle.std.proofs.lemmas.List.{length-replicate, get_or-replicate}
use Rattle.avr_image.specs.Image.{byte_at}
use Rattle.avr_part.specs.Part.{Part}
use Rattle.avr_part.specs.declared.part.Mem.TheVariants.{Flash}
use Rattle.stk_emu.specs.Effect.{Image, Item, Erase, Write, Memories, and_in, are_locked, effect, effects}
use Rattle.stk_emu.proofs.Memories.LaidImages.{length-and_in, get_and_in}
use Rattle.avr_tool.specs.Items.{has_erase}
use Rattle.avr_laws.specs.WrittenBytes.{IsWrittenAt, AreWrittenAt, and_all, IsMadeByImages}

-- what was written by later items was written by all
written_later : (item : Item) (xs : List Item) (addr : ℕ) (bytes : List ℕ) → AreWrittenAt xs addr bytes
    → AreWrittenAt (item ∷ xs) addr bytes
written_later item xs addr [] are = tt
written_later item xs addr (b ∷ bytes) are = (inr are.0, written_later item xs addr bytes are.1)

-- a write whose byte is ANDed to the one before
write_anded : (image : Image) (xs : List Item) (addr before byte mid after : ℕ) → byte_at image addr ≡ Some byte
    → mid ≡ bit_and before byte
    → IsMadeByImages xs addr mid after → IsMadeByImages (Write Flash image ∷ xs) addr before after
write_anded image xs addr before byte mid after at is_anded made = elim made.first_is [
  | inl is ↦ record {
    first = before;
    bytes = byte ∷ made.bytes;
    first_is = inl refl;
    are_there = (inl at, written_later (Write Flash image) xs addr made.bytes made.are_there);
    is = made.is ∙ ap (λ (first : ℕ). and_all first made.bytes) (is ∙ is_anded);
  }
  | inr is ↦ record {
    first = made.first;
    bytes = made.bytes;
    first_is = inr is;
    are_there = written_later (Write Flash image) xs addr made.bytes made.are_there;
    is = made.is;
  }
]

-- a write leaves the byte, or it AND the image's
abbrev Writes : Image → ℕ → ℕ → ℕ → Type 0
Writes image addr before mid = (mid ≡ before)
    ⊎ ((byte : ℕ) × (byte_at image addr ≡ Some byte) × (mid ≡ bit_and before byte))

-- an address inside flash is inside it after a write
still_inside : (image : Image) (xs : List ℕ) (addr : ℕ) (lock : Bool) → addr < length xs
    → addr < length (if lock then xs else and_in image xs)
still_inside image xs addr lock inside = search (rules, length-and_in)

-- a write before other items
write_joined : (image : Image) (xs : List Item) (addr before mid after : ℕ) → Writes image addr before mid
    → IsMadeByImages xs addr mid after → IsMadeByImages (Write Flash image ∷ xs) addr before after
write_joined image xs addr before mid after writes made = search (rules, written_later, write_anded)

module _ (part : Part) (addr : ℕ) where
  abbrev byte : Memories → ℕ
  byte m = get_or m.flash addr 0

  -- a byte of flash is made by the images that items write, and by an erase
  pub byte_made : (xs : List Item) (m : Memories) → addr < length m.flash
      → IsMadeByImages xs addr (byte m) (byte (effects part xs m))
  byte_made [] m l = record { first = byte m; bytes = []; first_is = inl refl; are_there = tt; is = refl }
  byte_made (Erase ∷ xs) m l = search (
    rules,
    written_later,
    get_or-replicate,
    length-replicate,
    byte_made xs (effect part Erase m) (search (rules, length-replicate)),
  )
  byte_made (Write Flash image ∷ xs) m l = search (
    rules,
    write_joined,
    get_and_in,
    still_inside,
    byte_made xs (effect part (Write Flash image) m) (still_inside image m.flash addr (are_locked m) l),
  )
  byte_made (Write mem image ∷ xs) m l = search (rules, written_later, byte_made xs (effect part (Write mem image) m) l)

-- the first items of a list
written_first : (k : ℕ) (xs : List Item) (addr byte : ℕ) → IsWrittenAt (take k xs) addr byte → IsWrittenAt xs addr byte
written_first zero xs addr byte is = absurd is
written_first (suc k) [] addr byte is = absurd is
written_first (suc k) (x ∷ xs) addr byte (inl is) = inl is
written_first (suc k) (x ∷ xs) addr byte (inr is) = inr (written_first k xs addr byte is)

pub all_written_first : (k : ℕ) (xs : List Item) (addr : ℕ) (bytes : List ℕ) → AreWrittenAt (take k xs) addr bytes
    → AreWrittenAt xs addr bytes
all_written_first k xs addr [] are = tt
all_written_first k xs addr (b ∷ bytes) are = (written_first k xs addr b are.0, all_written_first k xs addr bytes are.1)

-- if the first items erase, all do
pub erase_in_first : (k : ℕ) (xs : List Item) → has_erase (take k xs) ≡ true → has_erase xs ≡ true
erase_in_first zero xs has = absurd (true≢false (sym has))
erase_in_first (suc k) [] has = has
erase_in_first (suc k) (Erase ∷ xs) has = refl
erase_in_first (suc k) (Write mem image ∷ xs) has = erase_in_first k xs has
