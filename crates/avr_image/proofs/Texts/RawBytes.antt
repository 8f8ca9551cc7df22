-- What a raw reader holds once it was fed one more piece.
use Rattle.std.proofs.lemmas.Bool.Decides.{nat_tests}
use Rattle.std.proofs.Common.{◌≡◌, arith, ℕ, ◌+◌, ◌++◌, List, length, Bool, cond, Option, Result, Ok, Err}
use Rattle.std.proofs.lemmas.List.{length-append}
use Rattle.std.specs.List.{enumerate_from}
use Rattle.avr_image.specs.Image.{with_pairs, fits}
use Rattle.avr_image.specs.Raw.{HoldsText}
use Rattle.avr_image.specs.declared.fault.ImageFault.{ImageFault}
use Rattle.avr_image.proofs.Places.Laid.{from_zero_laid, laid_size}

-- a reader that held a text holds it with the piece that it was fed
pub stands_fed : (image after : List (Option ℕ)) (fed end : ℕ) (failed : Bool) (text piece : List ℕ)
    (fault : ImageFault) → HoldsText (record { image = image; fed = fed; failed = failed }) text
    → ◌≡◌ {A = Result ℕ ImageFault} (Ok end)
    (cond (fits fed piece (length image)) (Ok (fed + length piece)) (Err fault))
    → after ≡ with_pairs image (enumerate_from fed piece)
    → HoldsText (record { image = after; fed = end; failed = failed }) (text ++ piece)
stands_fed image after fed end failed text piece fault stands verdict laid =
    grind (arith, nat_tests, laid_size, length-append, from_zero_laid)
