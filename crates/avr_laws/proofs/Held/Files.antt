-- What the text of a file holds, in its format.
use Rattle.std.proofs.Common.{◌≡◌, ℕ, List, Option, Result, Ok, Err, rules}
use Rattle.std.proofs.lemmas.Bool.Decides.{nat_tests}
use Rattle.std.specs.Result.{result_map_both}
use Rattle.avr_io.specs.Record.{Bytes}
use Rattle.avr_plan.specs.ImageFile.{image_of_file}
use Rattle.avr_records.specs.Reading.{image_in_text}
use Rattle.avr_records.specs.declared.kind.Ending.{Ending}
use Rattle.avr_records.specs.declared.kind.Ending.TheVariants.{Ended}
use Rattle.avr_records.specs.declared.kind.Found.{Found}
use Rattle.avr_records.specs.declared.kind.Found.TheVariants.{Ihex, Srec, Elf, Raw}
use Rattle.avr_records.specs.declared.kind.Kind.TheVariants as kind
use Rattle.avr_laws.specs.HeldImage.{HoldsImageAs}
use Rattle.avr_laws.proofs.Held.Records.{held_records, records_read}

-- mapping the errors makes no result OK
same_ok : {A E F : Type 0} (f : E → F) (r : Result A E) (a : A) → result_map_both (λ good. good) f r ≡ Ok a → r ≡ Ok a
same_ok f (Ok good) a is = cc is
same_ok f (Err fault) a is = absurd (cc is)

-- an image that is read is the one that the text holds
pub held_file : (found : Found) (text : Bytes) (size : ℕ) (image : List (Option ℕ)) (ending : Ending)
    → image_of_file found text size ≡ Ok (image, ending) → HoldsImageAs found text size image
held_file Ihex text size image ending is =
    held_records kind.Ihex text size image ending (same_ok _ (image_in_text kind.Ihex text size) (image, ending) is)
held_file Srec text size image ending is =
    held_records kind.Srec text size image ending (same_ok _ (image_in_text kind.Srec text size) (image, ending) is)
held_file Elf text size image ending is = absurd (cc is)
held_file Raw text size image ending is = search (rules, nat_tests)

-- and conversely: its reader makes this image

pub file_read : (found : Found) (text : Bytes) (size : ℕ) (image : List (Option ℕ)) → HoldsImageAs found text size image
    → (ending : Ending) × (image_of_file found text size ≡ Ok (image, ending))
file_read Ihex text size image held = search (rules, records_read kind.Ihex text size image held)
file_read Srec text size image held = search (rules, records_read kind.Srec text size image held)
file_read Elf text size image held = absurd held
file_read Raw text size image (fits, is) = (Ended, search (rules, nat_tests, is))
