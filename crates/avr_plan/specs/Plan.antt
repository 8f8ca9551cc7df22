-- The work of a run, after all that it needs was read and checked.
use Rattle.std.specs.Prelude.{◌≡◌, true, List, length}
use Rattle.avr_plan.specs.declared.settings.Switches.{Switches}
use Rattle.avr_part.specs.Mem.{is_writable}
use Rattle.avr_part.specs.Part.{Part, size_of}
use Rattle.avr_plan.specs.declared.planned.Task.{Task}
use Rattle.avr_plan.specs.declared.planned.Task.TheVariants.{Write, Verify}

-- The part, what is to be done, in order, and the switches.
pub record Plan : Type 0 where
  pub part : Part
  pub tasks : List Task
  pub switches : Switches

-- The image of a task has the size of its memory. A memory that the task writes is writable.
abbrev pub IsFitted : Part → Task → Type 0
IsFitted part (Write memory image) = (length image ≡ size_of memory part) × (is_writable memory ≡ true)
IsFitted part (Verify memory image) = length image ≡ size_of memory part
IsFitted part task = Unit {0}
