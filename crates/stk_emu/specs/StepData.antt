-- The data that each step of a host reads.
use Rattle.std.specs.Prelude.{ℕ, ◌*◌, ◌%◌, ◌^◌, ◌≡◌, List, [], ◌∷◌, ◌++◌, take, drop, ◌<◌, length, slice_index, Some}
use Rattle.avr_part.specs.declared.instruction.Instruction.{Instruction}
use Rattle.avr_part.specs.declared.instruction.Instruction.TheVariants as instruction
use Rattle.avr_part.specs.Instruction.{instruction_of}
use Rattle.avr_part.specs.Part.{Part}
use Rattle.stk_frame.specs.declared.command.Command.{Command}
use Rattle.stk_frame.specs.declared.command.Command.TheVariants.{LoadAddress, ReadFlash, ReadEeprom, ReadFuse, ReadLock, ReadSignature, ReadOsccal}
use Rattle.avr_image.specs.Image.{byte_at}
use Rattle.stk_emu.specs.Effect.{Memories, Image, memory_in}
use Rattle.stk_emu.specs.WriteOperations.{memory_of_fuse, memories_after_step}

-- The byte that an instruction reads without an address.
abbrev pub read_by : Part → Instruction → Memories → List ℕ
read_by part (instruction.ReadFuse f) m = memory_in part (memory_of_fuse f) m
read_by part instruction.ReadLock m = m.lock ∷ []
read_by part (instruction.ReadSignature place) m = take 1 (drop place part.signature)
read_by part instruction.ReadCalibration m = 255 ∷ []
read_by part i m = []

-- The data of a step over these memories; a step that writes has none. An address counts words of flash and bytes of
-- EEPROM.
abbrev pub data_of_step : Part → List Command → Memories → List ℕ
data_of_step part (LoadAddress address ∷ ReadFlash f ∷ []) m = take f.count (drop (address % 2 ^ 31 * 2) m.flash)
data_of_step part (LoadAddress address ∷ ReadEeprom f ∷ []) m = take f.count (drop address m.eeprom)
data_of_step part (ReadFuse f ∷ []) m = read_by part (instruction_of f.instruction) m
data_of_step part (ReadLock f ∷ []) m = read_by part (instruction_of f.instruction) m
data_of_step part (ReadSignature f ∷ []) m = read_by part (instruction_of f.instruction) m
data_of_step part (ReadOsccal f ∷ []) m = read_by part (instruction_of f.instruction) m
data_of_step part commands m = []

-- The data of steps, each over the memories that those before it leave.
abbrev pub data_of_steps : Part → List (List Command) → Memories → List ℕ
data_of_steps part [] m = []
data_of_steps part (commands ∷ steps) m = data_of_step part commands m
    ++ data_of_steps part steps (memories_after_step part commands m)

-- At each address of the memory at which the image has a byte, the memory has that byte.
abbrev pub HoldsImage : Image → List ℕ → Type 0
HoldsImage image bytes = (i b : ℕ) → byte_at image i ≡ Some b → i < length bytes → slice_index bytes i ≡ b
