-- Pieces of a file that are read one after another.
use Rattle.std.proofs.Common.{◌≡◌, ℕ, ◌++◌, Bool, false, Ok, append_assoc, take, arith, rules}
use Rattle.std.proofs.lemmas.Bool.Decides.{nat_tests}
use Rattle.avr_io.specs.Record.{Record, Bytes, after_read}
use Rattle.avr_io.specs.Files.{after_reading}

-- bytes read after others are one reading of both
pub read_next : (old now new : Record) (a b : Bytes) (ends : Bool) → now ≡ after_reading a false old
    → new ≡ after_reading b ends now → new ≡ after_reading (a ++ b) ends old
read_next old now new a b ends first then = grind (arith, nat_tests, append_assoc)

-- a call of `read` that gave bytes
pub read_piece : (old now new : Record) (a buf : Bytes) (n : ℕ) → now ≡ after_reading a false old
    → new ≡ after_read buf (Ok n) now → (n ≡ 0 → ⊥) → new ≡ after_reading (a ++ take n buf) false old
read_piece old now new a buf n first then some = search (rules, read_next)
