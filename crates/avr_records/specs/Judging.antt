-- What private functions return for a line, in terms of the definitions of records and their meanings.
use Rattle.std.specs.Prelude.{◌≡◌, ℕ, ◌+◌, ◌%◌, ◌<◌, ◌≤◌, List, length, fold, Result, Ok, Err, MatchResult}
use Rattle.avr_records.specs.Record.{RecordFields}
use Rattle.avr_records.specs.Meaning.{Meaning}
use Rattle.avr_records.specs.Meaning as meant
use Rattle.avr_records.specs.declared.kind.Kind.{Kind}
use Rattle.avr_records.specs.declared.kind.Kind.TheVariants.{Ihex, Srec}
use Rattle.avr_records.specs.declared.fault.LineFault.{LineFault}
use Rattle.avr_records.specs.declared.record.LineRecord.{LineRecord}
use Rattle.avr_records.specs.declared.line.Line.{Line}
use Rattle.avr_records.specs.declared.line.Line.TheVariants as line

-- A record of the code, as a value for contracts; below, what a line means.
abbrev pub record_of : LineRecord → RecordFields
record_of r = record { type = r.record_type; address = r.address; bytes = r.bytes.now }

-- The fields are in their bounds: at most 255 data bytes, and an Intel HEX offset has 16 bits.
abbrev pub FitsFields : Kind → LineRecord → Type 0
FitsFields Ihex r = (r.address < 65536) × (length r.bytes.now ≤ 255)
FitsFields Srec r = length r.bytes.now ≤ 255

-- The call returns the wanted record, with fields in their bounds, or the wanted fault.
abbrev pub ReturnsRecord : Kind → Result RecordFields LineFault → Result LineRecord LineFault → Type 0
ReturnsRecord kind want result =
    MatchResult result (λ found. (want ≡ Ok (record_of found)) × FitsFields kind found) (λ fault. want ≡ Err fault)

-- the meaning of a line that was read, in terms of definitions
abbrev pub meaning_of : Line → Meaning
meaning_of line.Nothing = meant.Nothing
meaning_of (line.Data offset bytes) = meant.Data offset bytes.now
meaning_of (line.Rebase base) = meant.Rebase base
meaning_of (line.Counted n) = meant.Counted n
meaning_of line.End = meant.End

-- The meaning is one of this kind of file: offsets of Intel HEX have 16 bits, and S-records set no base.
abbrev pub FitsKind : Kind → Line → Type 0
FitsKind Ihex (line.Data offset bytes) = (offset < 65536) × (length bytes.now ≤ 255)
FitsKind Srec (line.Data offset bytes) = length bytes.now ≤ 255
FitsKind Srec (line.Rebase base) = ⊥
FitsKind kind line = Unit {0}

-- The low byte of the sum.
abbrev pub low_sum : List ℕ → ℕ
low_sum = fold (λ total byte. (total + byte) % 256) 0
