-- What the record of a line means for its file.
use Rattle.std.specs.Prelude.{ℕ, ◌+◌, ◌*◌, ◌==◌, nat_le, List, [], ◌∷◌, if◌then◌else◌}
use Rattle.avr_records.specs.Record.{RecordFields}
use Rattle.avr_records.specs.declared.kind.Kind.{Kind}
use Rattle.avr_records.specs.declared.kind.Kind.TheVariants.{Ihex, Srec}
use Rattle.avr_records.specs.declared.kind.AddressBase.{AddressBase}
use Rattle.avr_records.specs.declared.kind.AddressBase.TheVariants.{Linear, Segment}

-- Nothing that counts (a header or a start address), bytes at an offset, a new base, how many data records came
-- before, or the end.
pub data Meaning : Type 0 where
  Nothing : Meaning
  Data : ℕ → List ℕ → Meaning
  Rebase : AddressBase → Meaning
  Counted : ℕ → Meaning
  End : Meaning

-- The base of a record's two bytes, high byte first.
abbrev pub rebase : (ℕ → AddressBase) → List ℕ → Meaning
rebase base (high ∷ low ∷ []) = Rebase (base (high * 256 + low))
rebase base bytes = Nothing

-- What a record means, by its type.
abbrev pub means : Kind → RecordFields → Meaning
means Ihex r =
    if r.type == 0 then Data r.address r.bytes
    else if r.type == 1 then End
    else if r.type == 2 then rebase Segment r.bytes
    else if r.type == 4 then rebase Linear r.bytes
    else Nothing
means Srec r =
    if r.type == 0 then Nothing
    else if nat_le r.type 3 then Data r.address r.bytes
    else if nat_le r.type 6 then Counted r.address
    else End
