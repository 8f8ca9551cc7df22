-- The bytes of a `Spans` with their addresses, and how far they reach.
use Rattle.std.specs.Prelude.{ℕ, ◌≡◌, ◌<◌, ◌⊎◌, List, ◌++◌, Some, None, Result, MatchResult}
use Rattle.std.specs.List.{enumerate_from}
use Rattle.avr_records.specs.Needed.{end_after}
use Rattle.avr_records.specs.Reading.{first_outside}
use Rattle.avr_records.specs.declared.kind.AddressBase.{AddressBase}
use Rattle.avr_records.specs.declared.kind.AddressBase.TheVariants.{Linear, Segment}
use Rattle.avr_records.specs.declared.progress.Spans.{Spans}

-- All bytes with their addresses.
abbrev pub spans_places : Spans → List (ℕ × ℕ)
spans_places s = enumerate_from s.addr s.bytes.now ++ enumerate_from s.start s.wrapped.now

-- The call returns the new end once these bytes are added, or the first address that isn't below the limit.
abbrev pub IsEndOrOutOfRange : ℕ → ℕ → List (ℕ × ℕ) → Result ℕ ℕ → Type 0
IsEndOrOutOfRange limit end places result =
    MatchResult result (λ new. (first_outside limit places ≡ None) × (new ≡ end_after end places))
    (λ addr. first_outside limit places ≡ Some addr)

-- The first byte of a record at this offset has an address below 2 ^ 32.
abbrev pub StartsInRange : AddressBase → ℕ → Type 0
StartsInRange (Linear upper) offset = (offset < 65536) ⊎ (upper ≡ 0)
StartsInRange (Segment paragraph) offset = Unit {0}
