-- Which addresses hold a byte: a bit for each, 64 per word, the lowest address in the lowest bit.
use Rattle.std.specs.Prelude.{◌≡◌, ℕ, Bool, ◌-◌, ◌*◌, ◌/◌, ◌%◌, ◌^◌, ◌<◌, ◌≤◌, ◌==◌, ◌&&◌, nat_le, nat_lt, not, List, slice_index, slice_set, bit_and, bit_or}
use Rattle.std.specs.Int.{bit_at}

-- The address holds a byte.
abbrev pub is_present : List ℕ → ℕ → Bool
is_present words addr = bit_at (slice_index words (addr / 64)) (addr % 64) == 1

-- The address holds a byte now; below, none.
abbrev pub with_mark : List ℕ → ℕ → List ℕ
with_mark words addr = slice_set words (addr / 64)
    (bit_or (slice_index words (addr / 64)) (1 * 2 ^ (addr % 64) % 2 ^ 64))

abbrev pub without_mark : List ℕ → ℕ → List ℕ
without_mark words addr = slice_set words (addr / 64)
    (bit_and (slice_index words (addr / 64)) (2 ^ 64 - 1 - 1 * 2 ^ (addr % 64) % 2 ^ 64))

-- The address is at `from` or above, and below `end`.
abbrev pub is_within : ℕ → ℕ → ℕ → Bool
is_within from end addr = nat_le from addr && nat_lt addr end

-- `place` is that of the word's lowest 1 from `from` on, or 64 if there is none.
pub record NextOne (word from place : ℕ) : Type 0 where
  pub after : from ≤ place
  pub bound : place ≤ 64
  pub zeros : (i : ℕ) → from ≤ i → i < place → bit_at word i ≡ 0
  pub one : place < 64 → bit_at word place ≡ 1

-- `place` is the first from `from` on and below `end` whose presence is `wanted`, or `end` if there is none.
pub record FirstPlace (words : List ℕ) (wanted : Bool) (from end place : ℕ) : Type 0 where
  pub after : from ≤ place
  pub bound : place ≤ end
  pub others : (k : ℕ) → from ≤ k → k < place → is_present words k ≡ not wanted
  pub here : place < end → is_present words place ≡ wanted
