-- The bits of a bitmap.
use Rattle.std.proofs.lemmas.Bool.Decides.{nat_tests}
use Rattle.std.proofs.Common.{◌≡◌, ap, arith, ℕ, zero, suc, ◌+◌, ◌*◌, ◌<◌, List, get_or, Option}
use Rattle.std.specs.Int.{bit_at}
use Rattle.std.specs.Prelude.{is_some}
use Rattle.avr_image.specs.Image.{byte_at}
use Rattle.avr_records_c.specs.Bitmap.{bit, octet, octets, bitmap, is_marked}

-- eight bits in one number, the first in the lowest place
bit_of : (pick : ℕ → ℕ) (first r : ℕ) → ((i : ℕ) → pick i < 2) → pick 0 ≡ first → r < 8
    → bit_at (first + 2 * pick 1 + 4 * pick 2 + 8 * pick 3 + 16 * pick 4 + 32 * pick 5 + 64 * pick 6 + 128 * pick 7) r
    ≡ pick r
bit_of pick first (suc (suc (suc (suc (suc (suc (suc (suc r)))))))) small is l = absurd (omega (arith, l))
bit_of pick first x small is l = omega arith

-- a bit of an octet is that of its address
octet_bit : (image : List (Option ℕ)) (addr r : ℕ) → r < 8 → bit_at (octet image addr) r ≡ bit image (addr + r)
octet_bit image addr r l =
    bit_of (λ (i : ℕ). bit image (addr + i)) (bit image addr) r (λ i. (grind (arith, nat_tests)))
    (ap (bit image) (omega arith)) l

-- an octet of a bitmap is that of its eight addresses
octet_at : (image : List (Option ℕ)) (k n q : ℕ) → q < n → get_or (octets image k n) q 0 ≡ octet image ((k + q) * 8)
octet_at image k zero q l = absurd (omega (arith, l))
octet_at image k (suc n) zero l = ap (λ (a : ℕ). octet image (a * 8)) (omega arith)
octet_at image k (suc n) (suc q) l = grind (arith, nat_tests, octet_at image (k + 1) n q (omega (arith, l)))

-- the bitmap marks the addresses that hold a byte
pub there_where_held : (image : List (Option ℕ)) (n addr : ℕ) → addr < n * 8
    → is_marked (bitmap image n) addr ≡ is_some (byte_at image addr)
there_where_held image n addr l = grind (arith, nat_tests, octet_at, octet_bit)
