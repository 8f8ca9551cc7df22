-- An image of a memory: for each address below its size an optional byte.
use Rattle.std.specs.Prelude.{◌≡◌, ◌<◌, ◌^◌, ℕ, zero, suc, Bool, true, nat_le, length, ◌+◌, ◌-◌, List, [], ◌∷◌, ◌++◌, map, take, drop, replicate, Option, Some, None, is_some, nat_eq, unwrap_or, slice_index_or, slice_set, fold, count_by, if◌then◌else◌}
use Rattle.std.specs.Cmp.Lexicographic.{pointwise}
use Rattle.std.specs.Option.{option_eq, option_or}
use Rattle.std.specs.List.{list_any, position_from, prefix_len}

-- The image of a memory of this size without a byte.
abbrev pub empty : ℕ → List (Option ℕ)
empty size = replicate size None

-- Both images have the same size, bytes and gaps: what `==` returns.
abbrev pub is_same : List (Option ℕ) → List (Option ℕ) → Bool
is_same = pointwise (option_eq nat_eq)

-- The byte at an address. It is `None` in a gap and past the image.
abbrev pub byte_at : List (Option ℕ) → ℕ → Option ℕ
byte_at image addr = slice_index_or image addr None

-- The image with this byte at this address, if that is inside.
abbrev pub with_byte : List (Option ℕ) → ℕ → ℕ → List (Option ℕ)
with_byte image addr byte = slice_set image addr (Some byte)

-- The second image over the first, both of one size. If both hold a byte, the second's wins. `Image::lay_over` does it.
abbrev pub over : List (Option ℕ) → List (Option ℕ) → List (Option ℕ)
over [] bs = []
over (a ∷ more) [] = a ∷ more
over (a ∷ more) (b ∷ bs) = option_or b a ∷ over more bs

-- The image with these bytes put at their addresses, in the list's order. A later byte at an address wins.
abbrev pub with_pairs : List (Option ℕ) → List (ℕ × ℕ) → List (Option ℕ)
with_pairs image = fold (λ image place. with_byte image place.0 place.1) image

-- The image of a memory of this size that has only these bytes at their addresses.
abbrev pub image_of_pairs : ℕ → List (ℕ × ℕ) → List (Option ℕ)
image_of_pairs size = with_pairs (empty size)

-- The image of these bytes from address 0 on, with gaps up to the size.
abbrev pub from_zero : List ℕ → ℕ → List (Option ℕ)
from_zero bytes size = map (λ byte. Some byte) bytes ++ replicate (size - length bytes) None

-- The bytes from `addr` on as an image: a byte at each address that is held, else a gap.
abbrev pub with_gaps : (ℕ → Bool) → ℕ → List ℕ → List (Option ℕ)
with_gaps is_held addr [] = []
with_gaps is_held addr (byte ∷ bytes) = (if is_held addr then Some byte else None) ∷ with_gaps is_held (suc addr) bytes

-- Whether the bytes from `addr` on are inside a memory of this size. An empty list always is.
abbrev pub fits : ℕ → List ℕ → ℕ → Bool
fits addr [] size = true
fits addr (byte ∷ bytes) size = nat_le (addr + length (byte ∷ bytes)) size

-- How many addresses hold a byte: what `Image::len` returns.
abbrev pub byte_count : List (Option ℕ) → ℕ
byte_count = count_by is_some

-- The least address from `addr` on that holds a byte.
abbrev pub first_from : List (Option ℕ) → ℕ → Option ℕ
first_from image addr = position_from is_some addr (drop addr image)

-- Whether one of `count` addresses from `start` on holds a byte. Only such pages are written.
abbrev pub holds_any : List (Option ℕ) → ℕ → ℕ → Bool
holds_any image start count = list_any is_some (take count (drop start image))

-- The address after the run of bytes that begins at `addr`, at most `end`.
abbrev pub run_end : List (Option ℕ) → ℕ → ℕ → ℕ
run_end image addr end = addr + prefix_len is_some (take (end - addr) (drop addr image))

-- A gap is read as FF.
abbrev pub byte_or_ff : Option ℕ → ℕ
byte_or_ff byte = unwrap_or byte 255

-- The n bytes from `start` on, FF in gaps and past the image: what a page is filled with.
abbrev pub filled_bytes : List (Option ℕ) → ℕ → ℕ → List ℕ
filled_bytes image start zero = []
filled_bytes image start (suc n) = byte_or_ff (byte_at image start) ∷ filled_bytes image (start + 1) n

-- Each value in the image is a byte, below 256.
abbrev pub HoldsBytes : List (Option ℕ) → Type 0
HoldsBytes image = (addr byte : ℕ) → byte_at image addr ≡ Some byte → byte < 256

-- Holds for every `Image`: fewer than 2 to the power 32 addresses, bytes below 256. `Image::is_sound` states it.
pub record IsImage (image : List (Option ℕ)) : Type 0 where
  pub short : length image < 2 ^ 32
  pub bytes : HoldsBytes image
