-- The numbers of faults.
use Rattle.std.specs.Prelude.{ℕ}
use Rattle.stk_frame.specs.declared.answer.FrameFault.{FrameFault}
use Rattle.stk_frame.specs.declared.answer.FrameFault.TheVariants.{WrongLength, WrongCommand, CheckSum, Status}

abbrev pub frame_fault_number : FrameFault → ℕ
frame_fault_number WrongLength = 1
frame_fault_number WrongCommand = 2
frame_fault_number CheckSum = 3
frame_fault_number (Status status) = 4
