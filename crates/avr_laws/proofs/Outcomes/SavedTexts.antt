-- The text of a saved file is what a session writes.
use Rattle.std.proofs.lemmas.Bool.Decides.{nat_tests}
use Rattle.std.proofs.lemmas.Grind.{common_steps}
use Rattle.std.proofs.Common.{◌≡◌, ◌∙◌, refl, arith, ℕ, zero, suc, ◌+◌, ◌-◌, ◌%◌, List, [], ◌∷◌, append-nil, length, map, Bool, nat_lt, if◌then◌else◌, Option, Some, rules}
use Rattle.avr_plan.specs.declared.update.Format.{Format}
use Rattle.avr_image.specs.Runs.{runs}
use Rattle.avr_records.specs.Sparse.{image_text, last_held, row_size, run_at}
use Rattle.avr_records.specs.Text.{address_size, ihex_rows, rows_behind, srec_rows, width_of}
use Rattle.avr_records.specs.declared.address_size.AddressSize.{AddressSize}
use Rattle.avr_records.specs.declared.address_size.AddressSize.TheVariants.{Two, Three, Four}
use Rattle.avr_records.specs.declared.kind.Kind.TheVariants.{Ihex, Srec}
use Rattle.avr_session.specs.FileText.{file_text}
use Rattle.avr_laws.specs.SavedText.{address_width, saved_ihex, saved_srec, saved_text}

-- an image that has each byte
abbrev filled : List ℕ → List (Option ℕ)
filled = map (λ byte. Some byte)

-- it is one run
one_run : (addr b : ℕ) (bytes : List ℕ) → runs addr (filled (b ∷ bytes)) ≡ (addr, b ∷ bytes) ∷ []
one_run addr b [] = refl
one_run addr b (c ∷ bytes) = grind (arith, nat_tests, one_run (addr + 1) c bytes)

-- its last byte is at its end
last_byte_held : (before addr b : ℕ) (bytes : List ℕ) → last_held before addr (filled (b ∷ bytes)) ≡ addr + length bytes
last_byte_held before addr b [] = omega arith
last_byte_held before addr b (c ∷ bytes) = last_byte_held addr (addr + 1) c bytes ∙ omega arith

-- from a multiple of 32 on no row reaches a multiple of 65,536
by_32 : (taken addr : ℕ) (bytes : List ℕ) → (addr + taken) % 32 ≡ 0
    → rows_behind taken (row_size Ihex) addr bytes ≡ rows_behind taken (λ at. 32) addr bytes
by_32 taken addr [] is = refl
by_32 (suc taken) addr (b ∷ bytes) is = by_32 taken (addr + 1) bytes (omega (arith, is))
by_32 zero addr (b ∷ bytes) is = search (rules, by_32 31 (addr + 1) bytes (omega (arith, is)))

-- the text of bytes in Intel HEX has rows of 32 bytes
ihex_of_bytes : (bytes : List ℕ) → image_text Ihex (run_at 0 bytes) ≡ ihex_rows 0 (rows_behind 0 (λ addr. 32) 0 bytes)
ihex_of_bytes [] = refl
ihex_of_bytes (b ∷ bytes) = search (rules, one_run, append-nil, by_32)

-- so do S-records
srec_of_bytes : (bytes : List ℕ)
    → image_text Srec (run_at 0 bytes) ≡ srec_rows (address_size (length bytes - 1))
    (rows_behind 0 (λ addr. 32) 0 bytes)
srec_of_bytes [] = refl
srec_of_bytes (b ∷ bytes) =
    grind (arith, nat_tests, common_steps, one_run 0 b bytes, append-nil, last_byte_held 0 0 b bytes)

-- ---- the lines of records are those of the writers

-- rows of Intel HEX
ihex_same : (upper : ℕ) (rs : List (ℕ × List ℕ)) → ihex_rows upper rs ≡ saved_ihex upper rs
ihex_same upper [] = refl
ihex_same upper ((addr, bytes) ∷ more) = search rules

-- rows of S-records
srec_same : (size : AddressSize) (rs : List (ℕ × List ℕ)) → srec_rows size rs ≡ saved_srec (width_of size) rs
srec_same size [] = refl
srec_same size ((addr, bytes) ∷ more) = search rules

-- by two tests of the last address
width_if : (two three : Bool) → width_of (if two then Two else if three then Three else Four)
    ≡ (if two then 2 else if three then 3 else 4)
width_if two three = search rules

-- the width of addresses
width_same : (last_address : ℕ) → width_of (address_size last_address) ≡ address_width last_address
width_same last_address = width_if (nat_lt last_address 65536) (nat_lt last_address 16777216)

-- so the text of a saved file is the defined one
pub text_is_saved : (kind : Format) (bytes : List ℕ) → file_text kind bytes ≡ saved_text kind bytes
unfolding file_text saved_text
text_is_saved kind bytes = search (rules, ihex_of_bytes, ihex_same, srec_of_bytes, srec_same, width_same)
