-- What a walk over an image finds, stated address by address. Laws relate the definitions of Image and Runs to it.
use Rattle.std.specs.Prelude.{◌≡◌, ℕ, ◌+◌, ◌<◌, ◌≤◌, true, List, length, slice_index, Option, Some, None, is_some}
use Rattle.avr_image.specs.Image.{byte_at, byte_or_ff}

-- `place` is the least address from `addr` on that holds a byte.
pub record IsNextHeld (image : List (Option ℕ)) (addr place : ℕ) : Type 0 where
  pub after : addr ≤ place
  pub within : place < length image
  pub held : is_some (byte_at image place) ≡ true
  pub gap : (k : ℕ) → addr ≤ k → k < place → byte_at image k ≡ None

-- `place` is the highest address that holds a byte.
pub record IsLastHeld (image : List (Option ℕ)) (place : ℕ) : Type 0 where
  pub held : is_some (byte_at image place) ≡ true
  pub above : (k : ℕ) → place < k → byte_at image k ≡ None

-- The bytes from `addr` to `place` are the longest run from `addr` on that ends at `end` or before.
pub record IsByteRun (image : List (Option ℕ)) (addr end place : ℕ) : Type 0 where
  pub after : addr ≤ place
  pub bound : place ≤ end
  pub held : (k : ℕ) → addr ≤ k → k < place → is_some (byte_at image k) ≡ true
  pub stop : place < end → byte_at image place ≡ None

-- The list has n bytes, each that of its address, or FF in a gap.
pub record IsFilled (image : List (Option ℕ)) (start n : ℕ) (bytes : List ℕ) : Type 0 where
  pub size : length bytes ≡ n
  pub byte : (i : ℕ) → i < n → slice_index bytes i ≡ byte_or_ff (byte_at image (start + i))

-- The run has the image's bytes, and no byte is right before or after it.
pub record IsLongestRun (image : List (Option ℕ)) (run : ℕ × List ℕ) : Type 0 where
  pub some : 0 < length run.1
  pub bytes : (i : ℕ) → i < length run.1 → byte_at image (run.0 + i) ≡ Some (slice_index run.1 i)
  pub before : (k : ℕ) → k + 1 ≡ run.0 → byte_at image k ≡ None
  pub behind : byte_at image (run.0 + length run.1) ≡ None
