-- The openings and files among all uses, and after the open file is closed.
use Rattle.std.proofs.Common.{◌≡◌, ◌∙◌, arith, ap, List, [], ◌∷◌, ◌++◌, append-nil}
use Rattle.std.proofs.lemmas.Bool.Decides.{nat_tests}
use Rattle.std.proofs.lemmas.List.Elements.{filter_map-append}
use Rattle.avr_io.specs.Record.{Bytes, Record, all_files, all_openings, all_uses, files_among, openings_among, use_of, with_absent, with_open, with_replaced}
use Rattle.avr_io.specs.declared.record.FileUse.TheVariants.{Opened}
use Rattle.avr_io.specs.declared.record.Open.{Open}
use Rattle.avr_io.specs.declared.record.Opening.TheVariants.{Absent}
use Rattle.avr_io.specs.declared.record.Writing.{Writing}

-- ---- the open file is a use like any other

-- the files among all uses are all files
pub files_used : (r : Record) → files_among (all_uses r) ≡ all_files r
files_used r = filter_map-append _ r.uses (use_of r.current)

-- the openings among all uses are all openings
pub openings_used : (r : Record) → openings_among (all_uses r) ≡ all_openings r
openings_used r = filter_map-append _ r.uses (use_of r.current)

-- ---- the open file is closed

-- once another file is open, the files are those before, and this one if it is open to write
pub files_opened : (o : Open) (r : Record) → all_files (with_open o r) ≡ all_files r ++ files_among (use_of o)
files_opened o r = ap (λ (fs : List Writing). fs ++ files_among (use_of o)) (files_used r)

-- an absent name adds no file to the uses
pub absent_used : (name : Bytes) (r : Record) → files_among (all_uses r ++ Opened (Absent name) ∷ []) ≡ all_files r
absent_used name r = filter_map-append _ (all_uses r) _ ∙ (append-nil _ ∙ files_used r)

-- nor to the record
pub files_absent : (name : Bytes) (r : Record) → all_files (with_absent name r) ≡ all_files r
files_absent name r = append-nil _ ∙ absent_used name r

-- once a file is replaced, the files are those before, and this one
pub files_replaced : (name bytes : Bytes) (r : Record)
    → all_files (with_replaced name bytes r) ≡ all_files r ++ record { name = name; bytes = bytes } ∷ []
files_replaced name bytes r = grind (arith, nat_tests, append-nil, filter_map-append)
