-- The rows into which a writer cuts its bytes.
use Rattle.std.proofs.lemmas.Grind.{common_steps}
use Rattle.std.proofs.lemmas.Bool.Decides.{nat_tests}
use Rattle.std.proofs.Common.{◌≡◌, ◌∙◌, sym, ap, refl, arith, ℕ, zero, suc, ◌+◌, ◌-◌, ◌<◌, ◌≤◌, List, [], ◌∷◌, ◌++◌, length, take, drop, add-zero, rules}
use Rattle.std.specs.List.{enumerate_from, flat_map}
use Rattle.avr_image.specs.Runs.{places_of}
use Rattle.hex.specs.Hex.{IsBytes}
use Rattle.avr_records.specs.Text.{rows, rows_behind}
use Rattle.avr_records.proofs.Writers.Pieces.{drop_one_less}

-- ---- bytes

-- no bytes are bytes
pub IsBytes_nil : IsBytes []
IsBytes_nil i = omega arith

-- one more byte in front
pub IsBytes_cons : (b : ℕ) (bs : List ℕ) → b < 256 → IsBytes bs → IsBytes (b ∷ bs)
IsBytes_cons b bs fits more e' = search rules

-- bytes after bytes
pub IsBytes_append : (xs ys : List ℕ) → IsBytes xs → IsBytes ys → IsBytes (xs ++ ys)
IsBytes_append [] ys prefix back = back
IsBytes_append (x ∷ xs) ys prefix back =
    IsBytes_cons x (xs ++ ys) (prefix 0) (IsBytes_append xs ys (λ i. prefix (suc i)) back)

-- ---- rows

pub record IsRow (size : ℕ → ℕ) (end : ℕ) (row : ℕ × List ℕ) : Type 0 where
  pub some : 0 < length row.1
  pub few : length row.1 ≤ size row.0
  pub below : row.0 + length row.1 ≤ end
  pub bytes : IsBytes row.1

-- this is true of each element
abbrev pub Every : {A : Type 0} → (A → Type 0) → List A → Type 0
Every P [] = Unit {0}
Every P (x ∷ xs) = P x × Every P xs

-- the rows of bytes are rows up to their end
pub rows_behind_are : (taken : ℕ) (size : ℕ → ℕ) (addr end : ℕ) (bytes : List ℕ) → ((a : ℕ) → 0 < size a)
    → addr + length bytes ≡ end → IsBytes bytes → Every (IsRow size end) (rows_behind taken size addr bytes)
rows_behind_are taken size addr end [] wide is all = tt
rows_behind_are (suc taken) size addr end (b ∷ bs) wide is all =
    rows_behind_are taken size (addr + 1) end bs wide (omega arith) (λ i. all (suc i))
rows_behind_are zero size addr end (b ∷ bs) wide is all =
    grind (
      arith,
      common_steps,
      rows_behind_are (size addr - 1) size (addr + 1) end bs wide (omega arith) (λ i. all (suc i)),
    )

-- the addresses of the first bytes, then those of the rest, are the addresses of all
pub enumerate_split : (n addr : ℕ) (bytes : List ℕ)
    → enumerate_from addr (take n bytes) ++ enumerate_from (addr + n) (drop n bytes) ≡ enumerate_from addr bytes
enumerate_split zero addr bytes = ap (λ (a : ℕ). enumerate_from a bytes) (add-zero addr)
enumerate_split (suc n) addr [] = refl
enumerate_split (suc n) addr (b ∷ bs) = grind (arith, nat_tests, enumerate_split n (addr + 1) bs)

-- all bytes that belong to no earlier row are in the rows, at their addresses
pub rows_behind_hold : (taken : ℕ) (size : ℕ → ℕ) (addr : ℕ) (bytes : List ℕ) → ((a : ℕ) → 0 < size a)
    → flat_map places_of (rows_behind taken size addr bytes) ≡ enumerate_from (addr + taken) (drop taken bytes)
rows_behind_hold zero size addr [] wide = refl
rows_behind_hold (suc taken) size addr [] wide = refl
rows_behind_hold (suc taken) size addr (b ∷ bs) wide = search (rules, rows_behind_hold taken size (addr + 1) bs wide)
rows_behind_hold zero size addr (b ∷ bs) wide =
    let some = wide addr in
    let prefix : List (ℕ × ℕ) = enumerate_from addr (take (size addr) (b ∷ bs)) in
    ap (λ (more : List (ℕ × ℕ)). prefix ++ more) (rows_behind_hold (size addr - 1) size (addr + 1) bs wide)
    ∙ ap (λ (a : ℕ). prefix ++ enumerate_from a (drop (size addr - 1) bs)) (omega arith)
    ∙ ap (λ (more : List ℕ). prefix ++ enumerate_from (addr + size addr) more) (drop_one_less (size addr) b bs some)
    ∙ enumerate_split (size addr) addr (b ∷ bs)
    ∙ ap (λ (a : ℕ). enumerate_from a (b ∷ bs)) (sym (add-zero addr))

-- all bytes are in the rows, at their addresses
pub rows_hold : (size : ℕ → ℕ) (base : ℕ) (bytes : List ℕ) → ((a : ℕ) → 0 < size a)
    → flat_map places_of (rows size base bytes) ≡ enumerate_from base bytes
rows_hold size base bytes wide = search (rules, rows_behind_hold, add-zero)
