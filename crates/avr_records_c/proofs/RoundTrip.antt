-- What is written of a memory reads back.
use Rattle.std.proofs.lemmas.Bool.Decides.{nat_tests}
use Rattle.std.proofs.Common.{◌≡◌, arith, ℕ, zero, suc, ◌<◌, ◌≤◌, ◌^◌, List, [], ◌∷◌, length, Bool, cond, Some, None, rules}
use Rattle.avr_image.specs.Image.{HoldsBytes, with_gaps}
use Rattle.avr_records.specs.Reading.{image_in_text}
use Rattle.avr_records.specs.declared.kind.Kind.{Kind}
use Rattle.avr_records.specs.Sparse.{IsMemory, image_text}
use Rattle.avr_records.proofs.Writers.Sparse.{reads_back_same}
use Rattle.avr_records_c.proofs.Walks.{length_image}
use Rattle.avr_records_c.specs.Bitmap.{is_marked, image_of}
use Rattle.avr_records_c.specs.Reading.{read_into}
use Rattle.avr_records_c.specs.RoundTrip.{EachIsByte, written_and_read}

-- a byte that is there is below 256
byte_below : (there : Bool) (b byte : ℕ) → b < 256 → cond there (Some b) None ≡ Some byte → byte < 256
byte_below there b byte small is = search rules

-- a memory of bytes holds bytes
holds : (at : ℕ) (present bytes : List ℕ) → EachIsByte bytes → HoldsBytes (with_gaps (is_marked present) at bytes)
holds at present [] small addr byte is = absurd (cc is)
holds at present (b ∷ bytes) small zero byte is = byte_below (is_marked present at) b byte (small 0 (omega arith)) is
holds at present (b ∷ bytes) small (suc addr) byte is =
    holds (suc at) present bytes (λ i l. small (suc i) (omega (arith, l))) addr byte is

-- so a bitmap and bytes are a memory
pub is_memory : (present bytes : List ℕ) → length bytes ≤ 2 ^ 32 → EachIsByte bytes → IsMemory (image_of present bytes)
is_memory present bytes few small = grind (arith, nat_tests, length_image, holds)

-- the file of a memory reads back into one of its size
pub reads_back : (kind : Kind) (present bytes : List ℕ) → length bytes ≤ 2 ^ 32 → EachIsByte bytes
    → read_into bytes present (image_in_text kind (image_text kind (image_of present bytes)) (length bytes))
    ≡ written_and_read present bytes
reads_back kind present bytes few small = grind (arith, nat_tests, is_memory, length_image, reads_back_same)
