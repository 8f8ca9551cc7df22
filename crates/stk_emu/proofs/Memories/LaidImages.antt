-- Images laid over memories, and buffers that are loaded byte by byte.
use Rattle.std.proofs.lemmas.Grind.{common_steps}
use Rattle.std.proofs.Common.{◌≡◌, ℕ, zero, suc, ◌+◌, ◌-◌, ◌≤◌, ◌<◌, List, [], ◌∷◌, ◌++◌, length, get_or, set, map, refl, sym, ap, ap₂, ◌∙◌, append_assoc, arith, replicate, Option, Some, None, unwrap_or, length-append, rules}
use Rattle.std.proofs.lemmas.List.{length-replicate, length-map, get_or-map, get_or-replicate, get_or_append_left, get_or-append_right, get_or_past, set_at, replicate-append-replicate}
use Rattle.std.proofs.lemmas.Nat.{and_assoc}
use Rattle.avr_part.specs.Memory.{map_indexed_from, overlaid_byte, byte_and_page}
use Rattle.avr_part.proofs.Changes.{changed_is}
use Rattle.stk_emu.specs.Effect.{Image, with_image, and_in, and_with}
use Rattle.stk_emu.specs.WriteOperations.{image_at}

pub length-laid : (image : Image) (xs : List ℕ) → length (with_image image xs) ≡ length xs
length-laid image [] = refl
length-laid [] (x ∷ xs) = refl
length-laid (b ∷ image) (x ∷ xs) = ap suc (length-laid image xs)

pub length-and_in : (image : Image) (xs : List ℕ) → length (and_in image xs) ≡ length xs
length-and_in image [] = refl
length-and_in [] (x ∷ xs) = refl
length-and_in (b ∷ image) (x ∷ xs) = ap suc (length-and_in image xs)

pub get_laid : (image : Image) (xs : List ℕ) (i : ℕ) → i < length xs
    → get_or (with_image image xs) i 0 ≡ unwrap_or (get_or image i None) (get_or xs i 0)
get_laid image [] i l = absurd (omega arith)
get_laid [] (x ∷ xs) i l = refl
get_laid (b ∷ image) (x ∷ xs) zero l = refl
get_laid (b ∷ image) (x ∷ xs) (suc i) l = get_laid image xs i (omega arith)

pub get_and_in : (image : Image) (xs : List ℕ) (i : ℕ) → i < length xs
    → get_or (and_in image xs) i 0 ≡ and_with (get_or image i None) (get_or xs i 0)
get_and_in image [] i l = absurd (omega arith)
get_and_in [] (x ∷ xs) i l = refl
get_and_in (b ∷ image) (x ∷ xs) zero l = refl
get_and_in (b ∷ image) (x ∷ xs) (suc i) l = get_and_in image xs i (omega arith)

pub laid_twice : (image : Image) (xs : List ℕ) → with_image image (with_image image xs) ≡ with_image image xs
laid_twice image [] = refl
laid_twice [] (x ∷ xs) = refl
laid_twice (b ∷ image) (x ∷ xs) = ap₂ (λ y ys. y ∷ ys) (search rules) (laid_twice image xs)

pub and_byte : (b : Option ℕ) (x : ℕ) → and_with b (and_with b x) ≡ and_with b x
and_byte b x = grind (arith, common_steps, and_assoc)

pub and_in_twice : (image : Image) (xs : List ℕ) → and_in image (and_in image xs) ≡ and_in image xs
and_in_twice image [] = refl
and_in_twice [] (x ∷ xs) = refl
and_in_twice (b ∷ image) (x ∷ xs) = ap₂ (λ y ys. y ∷ ys) (and_byte b x) (and_in_twice image xs)

-- gaps at the end of an image don't matter
nothing_laid : (k : ℕ) (xs : List ℕ) → with_image (replicate k None) xs ≡ xs
nothing_laid k [] = refl
nothing_laid zero (x ∷ xs) = refl
nothing_laid (suc k) (x ∷ xs) = ap (λ ys. x ∷ ys) (nothing_laid k xs)

laid_nothing : (image : Image) (k : ℕ) (xs : List ℕ) → with_image (image ++ replicate k None) xs ≡ with_image image xs
laid_nothing image k [] = refl
laid_nothing [] k (x ∷ xs) = nothing_laid k (x ∷ xs)
laid_nothing (b ∷ image) k (x ∷ xs) = ap (λ ys. unwrap_or b x ∷ ys) (laid_nothing image k xs)

-- the bytes loaded for a page, laid over a memory
pub before_part : (start : ℕ) (loads : Image) (i : ℕ) → i < start → get_or (replicate start None ++ loads) i None ≡ None
before_part start loads i l = search (rules, get_or_append_left, length-replicate, get_or-replicate)

pub in_part : (start : ℕ) (loads : Image) (i : ℕ) → start ≤ i
    → get_or (replicate start None ++ loads) i None ≡ get_or loads (i - start) None
in_part start loads i l = search (rules, get_or-append_right, length-replicate)

pub overlaid_laid : (start : ℕ) (loads : Image) (xs : List ℕ)
    → map_indexed_from 0 (overlaid_byte start loads) xs ≡ with_image (replicate start None ++ loads) xs
overlaid_laid start loads xs =
    sym (changed_is (overlaid_byte start loads) xs (with_image (replicate start None ++ loads) xs)
    (length-laid (replicate start None ++ loads) xs)
    (λ i l. search (rules, get_laid, before_part, in_part, get_or_past)))

pub some_at : (page : List ℕ) (j : ℕ) → j < length page → get_or (map Some page) j None ≡ Some (get_or page j 0)
some_at page j l = get_or-map Some page j 0 None l

pub anded_in : (start : ℕ) (page xs : List ℕ)
    → map_indexed_from 0 (byte_and_page start page) xs ≡ and_in (image_at start page) xs
anded_in start page xs =
    sym (changed_is (byte_and_page start page) xs (and_in (image_at start page) xs)
    (length-and_in (image_at start page) xs)
    (λ i l. search (rules, get_and_in, before_part, in_part, some_at, get_or_past, length-map)))

-- a buffer into which bytes are loaded from one place on
abbrev pub put : {A : Type 0} → (ℕ → A) → ℕ → List ℕ → List A → List A
put f place [] buffer = buffer
put f place (d ∷ ds) buffer = put f (suc place) ds (set buffer place (f d))

pub put_is : {A : Type 0} (f : ℕ → A) (e : A) (ds : List ℕ) (prefix : List A) (place k : ℕ) → length prefix ≡ place
    → put f place ds (prefix ++ replicate (length ds + k) e) ≡ prefix ++ (map f ds ++ replicate k e)
put_is f e [] prefix place k at = ap (λ n. prefix ++ replicate n e) (omega arith)
put_is f e (d ∷ ds) prefix place k at =
    let count : suc (length ds) + k ≡ suc (length ds + k) = omega arith in
    search (rules, set_at, append_assoc, length-append, put_is f e ds (prefix ++ f d ∷ []) (suc place) k)

-- the bytes loaded for a run within a page, laid over a memory
pub run_laid : (start off : ℕ) (run : List ℕ) (page : ℕ) (xs : List ℕ) → off + length run ≤ page
    → map_indexed_from 0 (overlaid_byte start (put Some off run (replicate page None))) xs
    ≡ with_image (image_at (start + off) run) xs
run_laid start off run page xs fits =
    let buffer : put Some off run (replicate page None)
    ≡ replicate off None ++ (map Some run ++ replicate (page - (off + length run)) None) =
    ap (put Some off run) (search (rules, replicate-append-replicate))
    ∙ put_is Some None run (replicate off None) off (page - (off + length run))
    (length-replicate {A = Option ℕ} off None) in
    rw (buffer, overlaid_laid, ← append_assoc, ← append_assoc, replicate-append-replicate {A = Option ℕ} start off None)
    (laid_nothing (image_at (start + off) run) (page - (off + length run)) xs)

pub length_put : {A : Type 0} (f : ℕ → A) (place : ℕ) (ds : List ℕ) (buffer : List A)
    → length (put f place ds buffer) ≡ length buffer
length_put f place [] buffer = refl
length_put f place (d ∷ ds) buffer = search (rules, length_put f (suc place) ds (set buffer place (f d)))
