-- How one more line changes extent and image.
use Rattle.std.proofs.lemmas.Bool.Decides.{nat_tests}
use Rattle.std.proofs.Common.{◌≡◌, ◌∙◌, sym, ap, refl, arith, ℕ, ◌+◌, List, [], ◌∷◌, ◌++◌, length, true, false, Result, Ok, Err, subst, Option, Some, None, count_by, inl, inr, rules}
use Rattle.std.proofs.lemmas.Bool.{cases_Bool, cond-true, cond-false}
use Rattle.std.proofs.lemmas.Grind.{flat_map-append}
use Rattle.std.proofs.lemmas.List.{length-append, length-set}
use Rattle.std.proofs.lemmas.List.Folds.{list_any-append}
use Rattle.std.proofs.lemmas.List.Sums.{fold-append, sum_by-append}
use Rattle.std.specs.List.{list_any}
use Rattle.std.specs.Prelude.{if◌then◌else◌}
use Rattle.avr_image.specs.Image.{with_pairs, with_byte}
use Rattle.avr_records.specs.Closed.{first_fault_among}
use Rattle.avr_records.specs.Needed.{end_after, end_of_bytes}
use Rattle.avr_records.specs.Progress.{IsExtentOf, HoldsLines, image_size}
use Rattle.avr_records.specs.Reading.{LineResult, is_end_record, is_data_record, up_to_end, with_lines_before, bytes_of_lines, bytes_under_base, bytes_of_line, first_fault, fault_of_line, image_of_lines}
use Rattle.avr_records.specs.Steps.{next_extent, with_extent, next_progress, ending_of}
use Rattle.avr_records.specs.declared.progress.Extent.{Extent}
use Rattle.avr_records.specs.declared.fault.RecordFault.{RecordFault}
use Rattle.avr_records.specs.declared.progress.Progress.{Progress}
use Rattle.avr_records.proofs.Readers.LaterLines.{with_lines_before_append, first_fault_append, up_to_end_open, up_to_end_done, up_to_end_any}

-- ---- one line after others

-- a sound line after lines without a fault makes none
fault_last : (size : ℕ) (meant : List LineResult) (line : LineResult)
    → first_fault size (with_lines_before [] meant) ≡ None → fault_of_line size (meant, line) ≡ None
    → first_fault size (with_lines_before [] (meant ++ line ∷ [])) ≡ None
fault_last size meant line none sound = grind (arith, nat_tests, with_lines_before_append, first_fault_append)

-- the end of all bytes, with those of one more line
end_last : (meant : List LineResult) (line : LineResult)
    → end_of_bytes (bytes_of_lines (meant ++ line ∷ [])) ≡ end_after (end_of_bytes (bytes_of_lines meant))
    (bytes_of_line (meant, line))
end_last meant line = grind (arith, nat_tests, with_lines_before_append, flat_map-append, fold-append)

-- how many data records there are, with one more line
count_last : (meant : List LineResult) (line : LineResult) → count_by is_data_record (meant ++ line ∷ [])
    ≡ (if is_data_record line then count_by is_data_record meant + 1 else count_by is_data_record meant)
count_last meant line = grind (arith, nat_tests, sum_by-append)

-- whether there is an end record, with one more line
any_end_last : (meant : List LineResult) (line : LineResult)
    → (if is_end_record line then true else list_any is_end_record meant) ≡ list_any is_end_record (meant ++ line ∷ [])
any_end_last meant line = grind (arith, nat_tests, list_any-append)

-- ---- one more line

-- a line that can't extend the lines before is the first fault
extent_refuses : (size : ℕ) (e : Extent) (meant more : List LineResult) (line : LineResult) (fault : RecordFault)
    → IsExtentOf size e meant → next_extent size e line ≡ Err fault
    → first_fault size (with_lines_before [] (meant ++ line ∷ more)) ≡ Some fault
extent_refuses size e meant more line fault m is =
    grind (arith, nat_tests, with_lines_before_append, first_fault_append)

-- ---- up to an end record

-- without an end record all lines count, and the last one, too
upto_last : (meant : List LineResult) (line : LineResult) → list_any is_end_record (up_to_end meant) ≡ false
    → up_to_end (meant ++ line ∷ []) ≡ up_to_end meant ++ line ∷ []
upto_last meant line none = grind (arith, nat_tests, up_to_end_open)

-- a good line extends the lines that count
pub counts_good_line : (size : ℕ) (e new : Extent) (meant : List LineResult) (line : LineResult) → e.ended ≡ false
    → IsExtentOf size e (up_to_end meant) → next_extent size e line ≡ Ok new
    → IsExtentOf size new (up_to_end (meant ++ line ∷ []))
counts_good_line size e new meant line on m is =
    search (rules, upto_last, fault_last, end_last, fold-append, count_last, length-append, any_end_last)

-- nothing after an end record counts
pub counts_past_end : (size : ℕ) (e : Extent) (meant more : List LineResult) → e.ended ≡ true
    → IsExtentOf size e (up_to_end meant) → IsExtentOf size e (up_to_end (meant ++ more))
counts_past_end size e meant more done m = grind (arith, nat_tests, up_to_end_done)

-- the first line with a fault decides, whatever follows it
pub counts_bad_line : (size : ℕ) (e : Extent) (meant more : List LineResult) (line : LineResult) (fault : RecordFault)
    → e.ended ≡ false → IsExtentOf size e (up_to_end meant) → next_extent size e line ≡ Err fault
    → first_fault_among size (meant ++ line ∷ more) ≡ Some fault
counts_bad_line size e meant more line fault on m is = grind (arith, nat_tests, up_to_end_open, extent_refuses)

-- ---- with the image

-- putting bytes into a memory keeps its size
length_with_pairs : (places : List (ℕ × ℕ)) (image : List (Option ℕ)) → length (with_pairs image places) ≡ length image
length_with_pairs [] image = refl
length_with_pairs (p ∷ ps) image = length_with_pairs ps (with_byte image p.0 p.1) ∙ length-set image p.0 (Some p.1)

-- a line that extends the lines before also puts its bytes into the image
with_good : (p new : Progress) (line : LineResult) (step : Result Extent RecordFault) → with_extent p line step ≡ Ok new
    → (step ≡ Ok new.extent) × (new.image ≡ with_pairs p.image (bytes_under_base p.extent.base line))
with_good p new line step is = search (rules, nat_tests)

-- lines after an end record change nothing
pub holds_past_end : (p : Progress) (meant more : List LineResult) → p.extent.ended ≡ true → HoldsLines p meant
    → HoldsLines p (meant ++ more)
holds_past_end p meant more done h = grind (arith, nat_tests, up_to_end_done)

-- a good line before an end record changes the state as the definitions say
holds_before_end : (p new : Progress) (meant : List LineResult) (line : LineResult) → p.extent.ended ≡ false
    → HoldsLines p meant → next_progress p line ≡ Ok new → HoldsLines new (meant ++ line ∷ [])
holds_before_end p new meant line on h is =
    let parts = with_good p new line (next_extent (image_size p) p.extent line)
    (sym (cond-false p.extent.ended _ _ on) ∙ is) in
    let size : image_size new ≡ image_size p =
    ap length parts.1 ∙ length_with_pairs (bytes_under_base p.extent.base line) p.image in
    let extent = counts_good_line (image_size p) p.extent new.extent meant line on h.extent parts.0 in
    search (rules, nat_tests, upto_last, with_lines_before_append, flat_map-append, fold-append)

-- after an end record a step changes nothing
done_step : (p : Progress) (line : LineResult) (out : Result Progress RecordFault) → p.extent.ended ≡ true
    → next_progress p line ≡ out → Ok p ≡ out
done_step p line out done is = sym (cond-true p.extent.ended (Ok p) _ done) ∙ is

-- a good line changes the state as the definitions say
pub holds_good_line : (p new : Progress) (meant : List LineResult) (line : LineResult) → HoldsLines p meant
    → next_progress p line ≡ Ok new → HoldsLines new (meant ++ line ∷ [])
holds_good_line p new meant line h is = elim (cases_Bool p.extent.ended) [
  | inl done ↦
      let same : p ≡ new = cc (done_step p line (Ok new) done is) in
      subst (λ (q : Progress). HoldsLines q (meant ++ line ∷ [])) same (holds_past_end p meant (line ∷ []) done h)
  | inr on ↦ holds_before_end p new meant line on h is
]

-- its fault is the fault of the file
pub holds_bad_line : (p : Progress) (meant more : List LineResult) (line : LineResult) (fault : RecordFault)
    → HoldsLines p meant → next_progress p line ≡ Err fault → first_fault_among (image_size p) (meant ++ line
    ∷ more) ≡ Some fault
holds_bad_line p meant more line fault h is = grind (arith, nat_tests, counts_bad_line)

-- a file of such lines has this image and ending
pub image_of_lines_holds : (p : Progress) (meant : List LineResult) → HoldsLines p meant
    → image_of_lines (image_size p) meant ≡ Ok (p.image, ending_of p.extent)
image_of_lines_holds p meant h = grind (arith, nat_tests, up_to_end_any)
