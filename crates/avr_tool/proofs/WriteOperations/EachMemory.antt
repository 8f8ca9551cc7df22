-- Writes, memory by memory: what a write makes of a memory, by whether the memory can only lose bits.
use Rattle.std.proofs.Common.{◌≡◌, ℕ, List, length, Bool, true, false, rules}
use Rattle.std.specs.Str.{bytes_eq}
use Rattle.std.specs.Prelude.{◌||◌, not, if◌then◌else◌}
use Rattle.avr_part.specs.Mem.{name_of}
use Rattle.avr_part.specs.Part.{Part}
use Rattle.avr_part.specs.declared.part.Mem.{Mem}
use Rattle.avr_part.specs.declared.part.Mem.TheVariants.{Eeprom, Lfuse, Hfuse, Efuse, Lock, Signature, Calibration}
use Rattle.stk_emu.specs.Effect.{Image, Memories, with_image, and_in, are_locked, write_effect, memory_in}
use Rattle.stk_emu.proofs.Memories.LaidImages.{length-laid, length-and_in}

-- Memories of one name are one memory.
pub same_memory : (other mem : Mem) → bytes_eq (name_of other) (name_of mem) ≡ true → other ≡ mem
same_memory other mem e = search rules

-- whether no write turns a zero of the memory into a one: flash, the lock, and what can't be written
abbrev pub keeps_zeros : Mem → Bool
keeps_zeros Eeprom = false
keeps_zeros Lfuse = false
keeps_zeros Hfuse = false
keeps_zeros Efuse = false
keeps_zeros mem = true

-- What a write makes of the bytes of a memory.
abbrev pub laid : Bool → Image → List ℕ → List ℕ
laid true image xs = and_in image xs
laid false image xs = with_image image xs

-- whether a memory can't be written, given whether the chip is locked
abbrev pub is_barred : Mem → Bool → Bool
is_barred Lock locked = false
is_barred Signature locked = true
is_barred Calibration locked = true
is_barred mem locked = locked

-- whether a write to one memory leaves another as it is
abbrev pub leaves_memory : Mem → Mem → Bool → Bool
leaves_memory other mem locked = not (bytes_eq (name_of other) (name_of mem)) || is_barred mem locked

-- A memory after a write: as before, or with the image laid over it.
pub write_is : (part : Part) (other mem : Mem) (image : Image) (m : Memories)
    → memory_in part mem (write_effect other image m)
    ≡ (if leaves_memory other mem (are_locked m) then memory_in part mem m
    else laid (keeps_zeros mem) image (memory_in part mem m))
write_is part other mem image m = search rules

-- a write keeps the size of each memory, and changes no other memory
pub size_stays : (part : Part) (other mem : Mem) (image : Image) (m : Memories)
    → length (memory_in part mem (write_effect other image m)) ≡ length (memory_in part mem m)
size_stays part other mem image m = search (rules, length-and_in, length-laid)

-- A write leaves memories of other names as they are.
pub others_stay : (part : Part) (other mem : Mem) (image : Image) (m : Memories)
    → bytes_eq (name_of other) (name_of mem) ≡ false
    → memory_in part mem (write_effect other image m) ≡ memory_in part mem m
others_stay part other mem image m e = search rules
