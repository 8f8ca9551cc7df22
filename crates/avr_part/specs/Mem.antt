-- The names of memories.
use Rattle.std.specs.Prelude.{ℕ, List, [], ◌∷◌, Bool, true, false, Option, find, codes}
use Rattle.std.specs.Str.{bytes_eq}
use Rattle.avr_part.specs.declared.part.Mem.{Mem}
use Rattle.avr_part.specs.declared.part.Mem.TheVariants.{Flash, Eeprom, Lfuse, Hfuse, Efuse, Lock, Signature, Calibration}

-- the name of a memory
abbrev pub name_of : Mem → List ℕ
name_of Flash = codes "flash"
name_of Eeprom = codes "eeprom"
name_of Lfuse = codes "lfuse"
name_of Hfuse = codes "hfuse"
name_of Efuse = codes "efuse"
name_of Lock = codes "lock"
name_of Signature = codes "signature"
name_of Calibration = codes "calibration"

-- all memories
abbrev pub all_memories : List Mem
all_memories = Flash ∷ Eeprom ∷ Lfuse ∷ Hfuse ∷ Efuse ∷ Lock ∷ Signature ∷ Calibration ∷ []

-- the memory that a name of the command line means
abbrev pub memory_named : List ℕ → Option Mem
memory_named name = find (λ memory. bytes_eq (name_of memory) name) all_memories

-- signature and calibration can only be read
abbrev pub is_writable : Mem → Bool
is_writable Signature = false
is_writable Calibration = false
is_writable m = true
