-- The image of data records that follow each other up to an end record.
use Rattle.std.proofs.lemmas.Bool.Decides.{nat_tests}
use Rattle.std.proofs.Common.{◌≡◌, ap, refl, arith, ℕ, ◌+◌, ◌*◌, Bool, true, List, [], ◌∷◌, ◌++◌, Option, None, Ok, Err, rules}
use Rattle.std.specs.Prelude.{if◌then◌else◌}
use Rattle.std.specs.List.{enumerate_from, flat_map, list_any}
use Rattle.std.proofs.lemmas.List.Sums.{fold-append}
use Rattle.avr_image.specs.Image.{image_of_pairs}
use Rattle.avr_records.specs.Meaning.{Nothing, Data, Rebase, Counted, End}
use Rattle.avr_records.specs.Reading.{LineResult, is_end_record, up_to_end, with_lines_before, next_base, base_after, places, bytes_of_line, bytes_under_base, first_outside, first_fault, file_ending, image_of_lines}
use Rattle.avr_records.proofs.Rows.Cuts.{Every}
use Rattle.avr_records.proofs.Texts.Places.{first_outside_parts, linear_from}
use Rattle.avr_records.specs.declared.kind.AddressBase.{AddressBase}
use Rattle.avr_records.specs.declared.kind.AddressBase.TheVariants.{Linear}
use Rattle.avr_records.specs.declared.kind.Ending.TheVariants.{Ended, NoEnd}

-- ---- lines, one after another

-- the bytes of lines with their addresses, from a base on
abbrev pub threaded : AddressBase → List LineResult → List (ℕ × ℕ)
threaded base [] = []
threaded base (meant ∷ more) = bytes_under_base base meant ++ threaded (next_base base meant) more

-- the bytes of lines are at the addresses that the bases before them set
placed_threaded : (before meant : List LineResult)
    → flat_map bytes_of_line (with_lines_before before meant) ≡ threaded (base_after before) meant
placed_threaded before [] = refl
placed_threaded before (s ∷ more) = grind (arith, nat_tests, placed_threaded (before ++ s ∷ []) more, fold-append)

-- the line is no fault, no count and no end record
abbrev pub GoesOn : LineResult → Type 0
GoesOn (Err fault) = ⊥
GoesOn (Ok (Counted n)) = ⊥
GoesOn (Ok End) = ⊥
GoesOn (Ok Nothing) = Unit {0}
GoesOn (Ok (Data offset bytes)) = Unit {0}
GoesOn (Ok (Rebase base)) = Unit {0}

-- these lines, then the end record
abbrev pub with_end : List LineResult → List LineResult
with_end prefix = prefix ++ Ok End ∷ []

-- what follows the end record doesn't count
pub cut_at_end : (prefix more : List LineResult) → Every GoesOn prefix
    → up_to_end (prefix ++ Ok End ∷ more) ≡ with_end prefix
cut_at_end [] more on = refl
cut_at_end (Ok Nothing ∷ prefix) more on = ap (λ (zs : List LineResult). Ok Nothing ∷ zs) (cut_at_end prefix more on.1)
cut_at_end (Ok (Data offset bytes) ∷ prefix) more on = grind (arith, nat_tests, cut_at_end prefix more on.1)
cut_at_end (Ok (Rebase base) ∷ prefix) more on =
    ap (λ (zs : List LineResult). Ok (Rebase base) ∷ zs) (cut_at_end prefix more on.1)
cut_at_end x more on = absurd on.0

-- these lines have an end record
has_end : (prefix more : List LineResult) → list_any is_end_record (prefix ++ Ok End ∷ more) ≡ true
has_end [] more = refl
has_end (s ∷ prefix) more = grind (arith, nat_tests, has_end prefix more)

-- so the file has ended
pub ended : (prefix more : List LineResult) → file_ending (prefix ++ Ok End ∷ more) ≡ Ended
ended prefix more = ap (λ (b : Bool). if b then Ended else NoEnd) (has_end prefix more)

-- such lines have no fault if all bytes are inside
pub first_fault_none : (size : ℕ) (before prefix : List LineResult) → Every GoesOn prefix
    → first_outside size (flat_map bytes_of_line (with_lines_before before (with_end prefix))) ≡ None
    → first_fault size (with_lines_before before (with_end prefix)) ≡ None
first_fault_none size before [] on inside = refl
first_fault_none size before (s ∷ prefix) on inside =
    let parts = first_outside_parts size (bytes_of_line (before, s))
    (flat_map bytes_of_line (with_lines_before (before ++ s ∷ []) (with_end prefix))) inside in
    search (rules, first_fault_none size (before ++ s ∷ []) prefix on.1 parts.1)

-- Lines of data and the end record read as the image of their bytes, if all are inside. What comes after the end record
-- doesn't matter.
pub image_of_lines_laid : (size : ℕ) (image : List (Option ℕ)) (places : List (ℕ × ℕ)) (prefix more : List LineResult)
    → Every GoesOn prefix → threaded (Linear 0) (with_end prefix) ≡ places → first_outside size places ≡ None
    → image_of_pairs size places ≡ image → image_of_lines size (prefix ++ Ok End ∷ more) ≡ Ok (image, Ended)
image_of_lines_laid size image places prefix more on follow inside_is laid_is =
    grind (arith, nat_tests, placed_threaded, cut_at_end, first_fault_none, ended)

-- under a linear base the addresses of a data record's bytes follow each other
pub places_linear : (upper offset addr : ℕ) (bytes : List ℕ) → upper * 65536 + offset ≡ addr
    → places (Linear upper) offset bytes ≡ enumerate_from addr bytes
places_linear upper offset addr bytes is = linear_from upper offset 0 bytes addr (omega (arith, is))
