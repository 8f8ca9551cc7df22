-- The open file of a program's desk.
use Rattle.std.specs.Prelude.{◌≡◌, ◌<◌, ℕ, Bool, true, false, length, take}
use Rattle.std.specs.Io.KnownBytes.{Consumes, IsAtEnd, Keeps}
use Rattle.std.specs.declared.io.Read.{Ghosts as Reads}
use Rattle.avr_io.specs.Record.{Bytes, is_to_read, is_to_write}
use Rattle.avr_io.specs.declared.record.Open.{Open}
use Rattle.avr_desk.specs.declared.system.OpenFile.{OpenFile}
use Rattle.avr_desk.specs.declared.system.OpenFile.TheVariants.{Input, ToRead, ToWrite, Output}

-- `-` was created: it is standard output
abbrev pub is_output : {F I : Type 0} → OpenFile F I → Bool
is_output Output = true
is_output opened = false

-- the file is open to read; below, to write
abbrev pub gives : {F I : Type 0} → OpenFile F I → Bool
gives (Input i) = true
gives (ToRead f) = true
gives opened = false

abbrev pub takes : {F I : Type 0} → OpenFile F I → Bool
takes (ToWrite f) = true
takes Output = true
takes opened = false

-- By the record a file is open to read exactly if one is, and to write exactly if one is.
pub record IsOpenAsRecorded {F I : Type 0} (opened : OpenFile F I) (current : Open) : Type 0 where
  pub reads : is_to_read current ≡ gives opened
  pub writes : is_to_write current ≡ takes opened

-- The handle gave n bytes into the start of the buffer. n is 0 only at the end, or if the buffer is empty.
pub record GivesBytes {H : Type 0} (reads : Reads H) (old new : H) (buf : Bytes) (n : ℕ) : Type 0 where
  pub gave : Consumes (reads.remaining old) (reads.remaining new) (take n buf)
  pub ends : n ≡ 0 → 0 < length buf → IsAtEnd (reads.remaining new)

-- The same of the open file, which stays open.
abbrev pub OpenFileGives : {F I : Type 0} → Reads F → Reads I → OpenFile F I → OpenFile F I → Bytes → ℕ → Type 0
OpenFileGives {I = I} reads input (Input old) new buf n = (now : I) × (new ≡ Input now) × GivesBytes input old now buf n
OpenFileGives {F = F} reads input (ToRead old) new buf n = (now : F) × (new ≡ ToRead now)
    × GivesBytes reads old now buf n
OpenFileGives reads input old new buf n = ⊥

-- the open file gave nothing, and stays open
abbrev pub OpenFileGivesNothing : {F I : Type 0} → Reads F → Reads I → OpenFile F I → OpenFile F I → Type 0
OpenFileGivesNothing {I = I} reads input (Input old) new =
    (now : I) × (new ≡ Input now) × Keeps (input.remaining old) (input.remaining now)
OpenFileGivesNothing {F = F} reads input (ToRead old) new =
    (now : F) × (new ≡ ToRead now) × Keeps (reads.remaining old) (reads.remaining now)
OpenFileGivesNothing reads input old new = new ≡ old

-- a file that was open to write is closed
abbrev pub IsClosed : {F I : Type 0} → (F → Type 0) → OpenFile F I → Type 0
IsClosed closed (ToWrite f) = closed f
IsClosed closed opened = Unit {0}
