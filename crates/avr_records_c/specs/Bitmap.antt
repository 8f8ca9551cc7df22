-- A memory as C passes it: its bytes, and a bitmap that marks the present ones, the lowest address in the lowest bit.
use Rattle.std.specs.Prelude.{◌≡◌, ℕ, zero, suc, Bool, ◌+◌, ◌*◌, ◌/◌, ◌%◌, ◌^◌, ◌<◌, ◌==◌, List, [], ◌∷◌, length, slice_index, Option, is_some, if◌then◌else◌}
use Rattle.std.specs.Int.{bit_at}
use Rattle.avr_image.specs.Image.{byte_at, with_gaps}

-- How many octets the bitmap of a memory of this size has.
abbrev pub octets_of : ℕ → ℕ
octets_of size = (size + 7) / 8

-- The bit of an address: 1 if it holds a byte.
abbrev pub bit : List (Option ℕ) → ℕ → ℕ
bit image addr = if is_some (byte_at image addr) then 1 else 0

-- The octet of eight addresses.
abbrev pub octet : List (Option ℕ) → ℕ → ℕ
octet image addr =
    bit image addr + 2 * bit image (addr + 1) + 4 * bit image (addr + 2) + 8 * bit image (addr + 3)
    + 16 * bit image (addr + 4) + 32 * bit image (addr + 5) + 64 * bit image (addr + 6) + 128 * bit image (addr + 7)

-- The n octets from octet k on.
abbrev pub octets : List (Option ℕ) → ℕ → ℕ → List ℕ
octets image k zero = []
octets image k (suc n) = octet image (k * 8) ∷ octets image (k + 1) n

-- The first n octets of an image's bitmap.
abbrev pub bitmap : List (Option ℕ) → ℕ → List ℕ
bitmap image n = octets image 0 n

-- The bitmap marks this address.
abbrev pub is_marked : List ℕ → ℕ → Bool
is_marked present addr = bit_at (slice_index present (addr / 8)) (addr % 8) == 1

-- The image of a memory as C passes it.
abbrev pub image_of : List ℕ → List ℕ → List (Option ℕ)
image_of present bytes = with_gaps (is_marked present) 0 bytes

-- There are fewer than 2 to the power 32 bytes, and as many octets as these need.
pub record HasBitmap (present bytes : List ℕ) : Type 0 where
  pub below : length bytes < 2 ^ 32
  pub octets : length present ≡ octets_of (length bytes)
