-- How `Image` stores its bytes: one for each address, FF in gaps, and presence bits.
use Rattle.std.specs.Prelude.{◌≡◌, ℕ, ◌*◌, ◌^◌, ◌<◌, ◌≤◌, false, List, ◌++◌, ◌+◌, length, take, drop, slice_index, Option}
use Rattle.avr_image.specs.Image.{with_gaps}
use Rattle.avr_image.specs.Present.{is_present}

-- The image that these words of presence bits and these bytes store.
abbrev pub dense_image : List ℕ → List ℕ → List (Option ℕ)
dense_image words bytes = with_gaps (is_present words) 0 bytes

-- There is a presence bit for each byte. The bytes are fewer than 2 to the power 32, each below 256, and FF in gaps.
pub record IsSoundStorage (words bytes : List ℕ) : Type 0 where
  pub enough : length bytes ≤ length words * 64
  pub below : length bytes < 2 ^ 32
  pub small : (i : ℕ) → slice_index bytes i < 256
  pub blank : (i : ℕ) → i < length bytes → is_present words i ≡ false → slice_index bytes i ≡ 255

-- These bytes in place of those from `start` on.
abbrev pub with_span : ℕ → List ℕ → List ℕ → List ℕ
with_span start span bytes = take start bytes ++ (span ++ drop (start + length span) bytes)
