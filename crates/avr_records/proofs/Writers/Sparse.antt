-- The written file of an image with gaps reads back as the same image.
use Rattle.std.proofs.Common.{◌≡◌, ◌∙◌, ap, refl, arith, ℕ, zero, suc, ◌+◌, ◌^◌, ◌<◌, ◌≤◌, All, List, [], ◌∷◌, ◌++◌, length, map, Option, Some, None, Ok, rules}
use Rattle.std.specs.List.{flat_map, enumerate_from}
use Rattle.std.proofs.lemmas.Bool.Decides.{nat_tests}
use Rattle.std.proofs.lemmas.Grind.{flat_map-append}
use Rattle.std.proofs.lemmas.List.{length-append, length-replicate}
use Rattle.avr_image.specs.Runs.{onto_runs, runs, places_of}
use Rattle.avr_image.proofs.Lemmas.{runs_are_whole, runs_inside}
use Rattle.hex.specs.Hex.{IsBytes}
use Rattle.avr_image.specs.Image.{HoldsBytes, empty, image_of_pairs}
use Rattle.avr_records.specs.Meaning.{Nothing}
use Rattle.avr_records.specs.Reading.{first_outside, image_in_text, image_of_lines}
use Rattle.avr_records.specs.Text.{address_size}
use Rattle.avr_records.specs.Sparse.{row_size, rows_of, last_held, image_text, ReadsBack}
use Rattle.avr_records.specs.declared.kind.Ending.TheVariants.{Ended}
use Rattle.avr_records.specs.declared.kind.Kind.{Kind}
use Rattle.avr_records.specs.declared.kind.Kind.TheVariants.{Ihex, Srec}
use Rattle.avr_records.proofs.Rows.Cuts.{IsRow, Every, rows_behind_are, rows_hold}
use Rattle.avr_records.proofs.Writers.Pieces.{wide_row}
use Rattle.avr_records.proofs.Writers.Reread.{image_of_lines_laid}
use Rattle.avr_records.proofs.Writers.Ihex as hex
use Rattle.avr_records.proofs.Writers.Srec as srec

-- ---- the bytes of an image at their addresses

-- a run inside the memory has no address out of range, and the first one after it decides
first_outside_run : (size addr : ℕ) (bytes : List ℕ) (more : List (ℕ × ℕ)) → addr + length bytes ≤ size
    → first_outside size more ≡ None → first_outside size (enumerate_from addr bytes ++ more) ≡ None
first_outside_run size addr [] more room none = none
first_outside_run size addr (b ∷ bytes) more room none =
    grind (arith, nat_tests, first_outside_run size (addr + 1) bytes more (omega (arith, room)) none)

-- nor have several runs inside
first_outside_cut : (size : ℕ) (cut : List (ℕ × List ℕ)) → All (λ run. run.0 + length run.1 ≤ size) cut
    → first_outside size (flat_map places_of cut) ≡ None
first_outside_cut size [] inside = refl
first_outside_cut size (run ∷ cut) inside =
    first_outside_run size run.0 run.1 (flat_map places_of cut) (inside 0 run (omega arith))
    (first_outside_cut size cut (λ k d l. inside (suc k) d (omega (arith, l))))

-- nor have the runs of an image, in a memory at least as large
first_outside_image : (image : List (Option ℕ)) (more : ℕ)
    → first_outside (length image + more) (flat_map places_of (runs 0 image)) ≡ None
first_outside_image image more = grind (arith, nat_tests, first_outside_cut, runs_inside)

-- the rows have the same bytes as the runs
pub rows_of_hold : (size : ℕ → ℕ) (cut : List (ℕ × List ℕ)) → ((a : ℕ) → 0 < size a)
    → flat_map places_of (rows_of size cut) ≡ flat_map places_of cut
rows_of_hold size [] wide = refl
rows_of_hold size (run ∷ cut) wide = grind (arith, nat_tests, rows_of_hold size cut wide, flat_map-append, rows_hold)

-- ---- runs are bytes that end before the image does, or with it

pub record IsIn (end : ℕ) (run : ℕ × List ℕ) : Type 0 where
  pub below : run.0 + length run.1 ≤ end
  pub bytes : IsBytes run.1

-- one more byte in front keeps runs inside
onto_keeps_inside : (end addr b : ℕ) (more : List (ℕ × List ℕ)) → addr < end → b < 256 → Every (IsIn end) more
    → Every (IsIn end) (onto_runs addr b more)
onto_keeps_inside end addr b x inside byte all = grind (arith, nat_tests)

-- the last address that holds a byte is no less than the one found before
last_least : (last addr : ℕ) (image : List (Option ℕ)) → last ≤ addr → last ≤ last_held last addr image
last_least last addr [] l = omega arith
last_least last addr (None ∷ image) l = last_least last (addr + 1) image (omega (arith, l))
last_least last addr (Some b ∷ image) l = grind (arith, nat_tests, last_least addr (addr + 1) image (omega arith))

-- it is below the end of the memory
last_most : (last addr end : ℕ) (image : List (Option ℕ)) → last < end → addr + length image ≤ end
    → last_held last addr image < end
last_most last addr end [] l room = l
last_most last addr end (None ∷ image) l room = last_most last (addr + 1) end image l (omega (arith, room))
last_most last addr end (Some b ∷ image) l room =
    last_most addr (addr + 1) end image (omega (arith, room)) (omega (arith, room))

-- the runs of an image end at the last address that holds a byte, or before
pub runs_in : (last addr : ℕ) (image : List (Option ℕ)) → HoldsBytes image
    → Every (IsIn (last_held last addr image + 1)) (runs addr image)
runs_in last addr [] all = tt
runs_in last addr (None ∷ image) all = runs_in last (addr + 1) image (λ k byte is. all (suc k) byte is)
runs_in last addr (Some b ∷ image) all =
    let end : ℕ = last_held addr (addr + 1) image + 1 in
    let first : addr ≤ last_held addr (addr + 1) image = last_least addr (addr + 1) image (omega arith) in
    onto_keeps_inside end addr b (runs (addr + 1) image) (omega (arith, first)) (all 0 b refl)
    (runs_in addr (addr + 1) image (λ k byte is. all (suc k) byte is))

-- ---- so are their rows

-- rows below one end are below each later end
rows_below_later : (size : ℕ → ℕ) (low high : ℕ) (cut : List (ℕ × List ℕ)) → low ≤ high → Every (IsRow size low) cut
    → Every (IsRow size high) cut
rows_below_later size low high [] l all = tt
rows_below_later size low high (row ∷ cut) l all = grind (arith, nat_tests, rows_below_later size low high cut l all.1)

-- what is true of each of two lists is true of both joined
every_append : (P : ℕ × List ℕ → Type 0) (xs ys : List (ℕ × List ℕ)) → Every P xs → Every P ys → Every P (xs ++ ys)
every_append P [] ys prefix back = back
every_append P (x ∷ xs) ys prefix back = (prefix.0, every_append P xs ys prefix.1 back)

-- the rows of runs end where these do
pub rows_of_are : (size : ℕ → ℕ) (end : ℕ) (cut : List (ℕ × List ℕ)) → ((a : ℕ) → 0 < size a) → Every (IsIn end) cut
    → Every (IsRow size end) (rows_of size cut)
rows_of_are size end [] wide all = tt
rows_of_are size end (run ∷ cut) wide all =
    grind (arith, nat_tests, rows_of_are size end cut wide all.1, rows_behind_are, every_append, rows_below_later)

-- ---- a memory with gaps after it

-- a gap at the end adds no run
runs_before_gap : (addr more : ℕ) (image : List (Option ℕ)) → runs addr (image ++ empty more) ≡ runs addr image
runs_before_gap addr zero [] = refl
runs_before_gap addr (suc more) [] = runs_before_gap (addr + 1) more []
runs_before_gap addr more (None ∷ image) = runs_before_gap (addr + 1) more image
runs_before_gap addr more (Some b ∷ image) = ap (onto_runs addr b) (runs_before_gap (addr + 1) more image)

-- the runs of an image, put into a larger memory, are the image and a gap
laid_in_larger : (image : List (Option ℕ)) (more : ℕ)
    → image_of_pairs (length image + more) (flat_map places_of (runs 0 image)) ≡ image ++ empty more
laid_in_larger image more =
    let whole : List (Option ℕ) = image ++ empty more in
    let size : length whole ≡ length image + more =
    length-append image (empty more) ∙ ap (λ (n : ℕ). length image + n) (length-replicate more None) in
    search (rules, runs_before_gap, runs_are_whole)

-- ---- the two formats

-- the last address of an image that isn't empty, or 0 of one that is
last_below : (image : List (Option ℕ)) → length image ≤ 2 ^ 32 → last_held 0 0 image < 2 ^ 32
last_below image fits = last_most 0 0 (2 ^ 32) image (omega arith) (omega (arith, fits))

-- the rows of an image are rows up to its last byte
rows_are : (kind : Kind) (image : List (Option ℕ)) → HoldsBytes image
    → Every (IsRow (row_size kind) (last_held 0 0 image + 1)) (rows_of (row_size kind) (runs 0 image))
rows_are kind image bytes = search (rules, rows_of_are, wide_row, runs_in)

-- the file of a memory reads back as the memory and a gap, in both formats
pub reads_back : (kind : Kind) → ReadsBack kind
reads_back Ihex image more fits bytes =
    let size : ℕ = length image + more in
    let cut : List (ℕ × List ℕ) = rows_of (row_size Ihex) (runs 0 image) in
    ap (image_of_lines size)
    (hex.lines_results 0 (last_held 0 0 image + 1) cut (omega (arith, last_below image fits))
    (rows_are Ihex image bytes)) ∙ image_of_lines_laid size (image ++ empty more) (flat_map places_of (runs 0 image))
    (hex.row_results 0 cut) (Ok Nothing ∷ []) (hex.rows_go_on 0 cut)
    (hex.rows_threaded 0 cut ∙ rows_of_hold (row_size Ihex) (runs 0 image) (wide_row Ihex))
    (first_outside_image image more) (laid_in_larger image more)
reads_back Srec image more fits bytes =
    let size : ℕ = length image + more in
    let cut : List (ℕ × List ℕ) = rows_of (row_size Srec) (runs 0 image) in
    let last : ℕ = last_held 0 0 image in
    ap (image_of_lines size) (srec.lines_results (address_size last) (last + 1) cut
    (omega (arith, srec.wide_enough last (last_below image fits))) (rows_are Srec image bytes))
    ∙ image_of_lines_laid size (image ++ empty more) (flat_map places_of (runs 0 image)) (map srec.emitted_of cut)
    (Ok Nothing ∷ []) (srec.rows_go_on cut)
    (srec.rows_threaded cut ∙ rows_of_hold (row_size Srec) (runs 0 image) (wide_row Srec))
    (first_outside_image image more) (laid_in_larger image more)

-- the same into a memory of the same size
pub reads_back_same : (kind : Kind) (image : List (Option ℕ)) → length image ≤ 2 ^ 32 → HoldsBytes image
    → image_in_text kind (image_text kind image) (length image) ≡ Ok (image, Ended)
reads_back_same kind image fits bytes = search (rules, reads_back kind image 0 fits bytes)
