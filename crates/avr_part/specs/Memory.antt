-- The bytes of a memory, and how they change.
use Rattle.std.specs.Prelude.{◌≡◌, ℕ, suc, Bool, ◌+◌, ◌-◌, ◌*◌, ◌/◌, ◌&&◌, nat_le, nat_lt, List, [], ◌∷◌, ◌++◌, length, take, drop, slice_index, bit_and, Option, None, unwrap_or, slice_index_or, replicate, All, IfSome, ◌<◌, if◌then◌else◌}

-- each is a byte
abbrev pub AreBytes : List ℕ → Type 0
AreBytes xs = All (λ b. b < 256) xs

-- each place has a byte or none
abbrev pub AreLoads : List (Option ℕ) → Type 0
AreLoads loads = All (λ o. IfSome o (λ b. b < 256)) loads

-- `new` has these items and this size, and is sound
pub record Becomes {A : Type 0} (IsSound : List A → Type 0) (items : List A) (size : ℕ) (new : List A) : Type 0 where
  pub bytes : new ≡ items
  pub len : length new ≡ size
  pub small : IsSound new

-- each item changed by its index, which begins at i
abbrev pub map_indexed_from : ℕ → (ℕ → ℕ → ℕ) → List ℕ → List ℕ
map_indexed_from i f [] = []
map_indexed_from i f (x ∷ xs) = f i x ∷ map_indexed_from (suc i) f xs

-- `i` is one of `n` addresses from `start` on
abbrev pub is_in_span : ℕ → ℕ → ℕ → Bool
is_in_span start n i = nat_le start i && nat_lt i (start + n)

-- within the page each byte becomes itself AND the page's
abbrev pub byte_and_page : ℕ → List ℕ → ℕ → ℕ → ℕ
byte_and_page start page i x = if is_in_span start (length page) i then bit_and x (slice_index page (i - start)) else x

-- FF at each address: memory after an erase
abbrev pub blank : List ℕ → List ℕ
blank xs = replicate (length xs) 255

-- no byte is loaded at any place
abbrev pub nothing_loaded : List (Option ℕ) → List (Option ℕ)
nothing_loaded loads = replicate (length loads) None

-- within the page each byte becomes the one loaded for its place, if any
abbrev pub overlaid_byte : ℕ → List (Option ℕ) → ℕ → ℕ → ℕ
overlaid_byte start loads i x =
    if is_in_span start (length loads) i then unwrap_or (slice_index_or loads (i - start) None) x else x

-- the first address of the page that holds this one
abbrev pub page_start : ℕ → ℕ → ℕ
page_start page i = i / page * page

-- these bytes in place of those from `start` on
abbrev pub with_bytes_at : ℕ → List ℕ → List ℕ → List ℕ
with_bytes_at start bytes xs = take start xs ++ (bytes ++ drop (start + length bytes) xs)
