-- The numbers of image faults, and results that a failed allocation may replace.
use Rattle.std.specs.Prelude.{◌≡◌, ◌⊎◌, ℕ, Result, Err}
use Rattle.avr_image.specs.declared.fault.ImageFault.{ImageFault}
use Rattle.avr_image.specs.declared.fault.ImageFault.TheVariants.{OutOfRange, BadNumber, TooLarge, Failed, Memory, OtherSize}

-- the number of a fault, which never changes
abbrev pub image_fault_number : ImageFault → ℕ
image_fault_number (OutOfRange addr) = 1
image_fault_number (BadNumber value_number) = 2
image_fault_number (TooLarge value_number) = 3
image_fault_number Failed = 4
image_fault_number Memory = 5
image_fault_number OtherSize = 6

-- The call returns this result, or `Memory` because allocation failed.
abbrev pub OrOutOfMemory : {T : Type 0} → Result T ImageFault → Result T ImageFault → Type 0
OrOutOfMemory {T} result wanted = (result ≡ wanted) ⊎ (result ≡ Err Memory)
