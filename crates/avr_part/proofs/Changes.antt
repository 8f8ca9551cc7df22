-- Lists whose bytes are changed one by one.
use Rattle.std.proofs.Common.{◌≡◌, ◌∙◌, ap, refl, arith, ℕ, suc, ◌+◌, ◌-◌, ◌<◌, ◌≤◌, List, [], ◌∷◌, length, get_or, bit_and, Option, None, unwrap_or, rules}
use Rattle.std.proofs.lemmas.Bool.Decides.{nat_tests}
use Rattle.avr_part.specs.Memory.{map_indexed_from, byte_and_page, overlaid_byte}

-- a list whose items are changed place by place, the first at place k
pub changed_from_is : (k : ℕ) (f : ℕ → ℕ → ℕ) (xs ys : List ℕ) → length ys ≡ length xs
    → ((i : ℕ) → i < length xs → get_or ys i 0 ≡ f (k + i) (get_or xs i 0)) → ys ≡ map_indexed_from k f xs
changed_from_is k f [] [] len each = refl
changed_from_is k f [] (y ∷ ys) len each = absurd (omega (arith, len))
changed_from_is k f (x ∷ xs) [] len each = absurd (omega (arith, len))
changed_from_is k f (x ∷ xs) (y ∷ ys) len each =
    let first : y ≡ f k x = each 0 (omega arith) ∙ ap (λ (n : ℕ). f n x) (omega arith) in
    let rest : ys ≡ map_indexed_from (suc k) f xs = changed_from_is (suc k) f xs ys (omega (arith, len))
    (λ i l. each (suc i) (omega arith) ∙ ap (λ (n : ℕ). f n (get_or xs i 0)) (omega arith)) in search rules

-- the same from place 0 on
pub changed_is : (f : ℕ → ℕ → ℕ) (xs ys : List ℕ) → length ys ≡ length xs
    → ((i : ℕ) → i < length xs → get_or ys i 0 ≡ f i (get_or xs i 0)) → ys ≡ map_indexed_from 0 f xs
changed_is f xs ys len each = search (rules, changed_from_is)

-- a byte of a memory into which a page was ANDed
pub anded_is : (start : ℕ) (page : List ℕ) (i x y : ℕ) → (i < start → y ≡ x)
    → (start ≤ i → i < start + length page → y ≡ bit_and x (get_or page (i - start) 0))
    → (start + length page ≤ i → y ≡ x) → y ≡ byte_and_page start page i x
anded_is start page i x y before within after = grind (arith, nat_tests)

-- a byte of a memory over which the loaded bytes of a page were laid
pub overlaid_is : (start : ℕ) (loads : List (Option ℕ)) (i x y : ℕ) → (i < start → y ≡ x)
    → (start ≤ i → i < start + length loads → y ≡ unwrap_or (get_or loads (i - start) None) x)
    → (start + length loads ≤ i → y ≡ x) → y ≡ overlaid_byte start loads i x
overlaid_is start loads i x y before within after = grind (arith, nat_tests)
