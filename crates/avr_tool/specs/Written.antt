-- What the memories hold after a verified run with status 0, address by address.
use Rattle.std.specs.Prelude.{ℕ, ◌≡◌, ◌<◌, ◌&&◌, not, List, [], ◌∷◌, length, map, slice_index, None, if◌then◌else◌}
use Rattle.std.specs.Str.{bytes_eq}
use Rattle.avr_plan.specs.declared.settings.Switches.{Switches}
use Rattle.avr_image.specs.Image.{empty, byte_at, over}
use Rattle.avr_part.specs.Mem.{name_of}
use Rattle.avr_part.specs.Part.{Part, size_of}
use Rattle.avr_part.specs.declared.part.Mem.{Mem}
use Rattle.avr_part.specs.declared.part.Mem.TheVariants.{Flash, Eeprom, Lfuse, Hfuse, Efuse, Lock}
use Rattle.avr_plan.specs.Plan.{Plan}
use Rattle.avr_plan.specs.declared.planned.Task.TheVariants as task
use Rattle.stk_emu.specs.Effect.{Image, Item, Erase, Write, Memories, erase_keeps_eeprom, memory_in}
use Rattle.stk_emu.specs.StepData.{HoldsImage}
use Rattle.avr_tool.specs.Items.{asked_items, has_erase}

-- The images that items write to a memory, later over earlier.
abbrev pub written_to : Part → Mem → List Item → Image
written_to part mem [] = empty (size_of mem part)
written_to part mem (Erase ∷ items) = written_to part mem items
written_to part mem (Write other image ∷ items) =
    if bytes_eq (name_of other) (name_of mem) then over image (written_to part mem items)
    else written_to part mem items

-- After these items each memory has its size, and holds the images written to it. The rest of flash is FF if the chip
-- was erased, and so is the rest of EEPROM unless its fuse keeps it; otherwise both are as before. A fuse that wasn't
-- written is as before, and a lock that wasn't written is open after an erase.
pub record IsWritten (part : Part) (items : List Item) (before after : Memories) : Type 0 where
  pub flash_size : length after.flash ≡ part.flash_size
  pub eeprom_size : length after.eeprom ≡ part.eeprom_size
  pub images : (mem : Mem) → HoldsImage (written_to part mem items) (memory_in part mem after)
  pub rest_of_flash : (addr : ℕ) → addr < part.flash_size → byte_at (written_to part Flash items) addr ≡ None
      → slice_index after.flash addr ≡ (if has_erase items then 255 else slice_index before.flash addr)
  pub rest_of_eeprom : (addr : ℕ) → addr < part.eeprom_size → byte_at (written_to part Eeprom items) addr ≡ None
      → slice_index after.eeprom addr ≡ (if has_erase items && not (erase_keeps_eeprom part before) then 255
      else slice_index before.eeprom addr)
  pub lfuse : byte_at (written_to part Lfuse items) 0 ≡ None → after.lfuse ≡ before.lfuse
  pub hfuse : byte_at (written_to part Hfuse items) 0 ≡ None → after.hfuse ≡ before.hfuse
  pub efuse : byte_at (written_to part Efuse items) 0 ≡ None → after.efuse ≡ before.efuse
  pub lock : byte_at (written_to part Lock items) 0 ≡ None → after.lock ≡ (if has_erase items then 255 else before.lock)

-- A plan that compares these memories with the images that another plan writes to them.
abbrev pub comparing : Plan → Switches → List Mem → Plan
comparing plan s mems =
    record plan { tasks = map (λ m. task.Verify m (written_to plan.part m (asked_items plan))) mems; switches = s }
