-- What the counts of failures show of a write.
use Rattle.std.proofs.Common.{◌≡◌, ℕ, Ok, rules}
use Rattle.avr_io.specs.Fault.{HasSameCounts, WriteCounts}
use Rattle.avr_io.specs.Record.{Bytes, DeskState}
use Rattle.avr_io.specs.declared.stream.Stream.{Stream}

-- a write that took a byte counts no failure
pub taken_uncounted : (stream : Stream) (bytes : Bytes) (old new : DeskState) (n : ℕ) → (n ≡ 0 → ⊥)
    → WriteCounts stream bytes old new (Ok n) → HasSameCounts old new
taken_uncounted stream bytes old new n some counts = search rules
