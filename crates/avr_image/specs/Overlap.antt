-- Addresses at which two images both hold a byte, for `Image::first_overlap`.
use Rattle.std.specs.Prelude.{◌≡◌, ◌<◌, ◌&&◌, ℕ, Bool, true, false, List, Option, is_some}
use Rattle.avr_image.specs.Image.{byte_at}

-- Both images hold a byte at this address.
abbrev pub hold_both : List (Option ℕ) → List (Option ℕ) → ℕ → Bool
hold_both first second addr = is_some (byte_at first addr) && is_some (byte_at second addr)

-- Both hold a byte at this address, and at no lower one.
pub record IsFirstOverlap (first second : List (Option ℕ)) (addr : ℕ) : Type 0 where
  pub both : hold_both first second addr ≡ true
  pub least : (lower : ℕ) → lower < addr → hold_both first second lower ≡ false
