-- The number, line and address of a fault, as `RecordFault` returns them.
use Rattle.std.specs.Prelude.{ℕ, Option, Some, None}
use Rattle.avr_records.specs.declared.fault.RecordFault.{RecordFault}
use Rattle.avr_records.specs.declared.fault.RecordFault.TheVariants.{BadMark, BadDigit, BadLength, BadSum, BadType, OutOfRange, LineTooLong, BadCount, Failed, Memory, TooLong}

-- the number of a fault, which never changes
abbrev pub fault_number : RecordFault → ℕ
fault_number (BadMark line) = 1
fault_number (BadDigit line) = 2
fault_number (BadLength line) = 3
fault_number (BadSum line) = 4
fault_number (BadType line) = 5
fault_number (OutOfRange line addr) = 6
fault_number (LineTooLong line) = 7
fault_number (BadCount line) = 8
fault_number Failed = 9
fault_number Memory = 10
fault_number TooLong = 11

-- The 1-based line at fault. It is `None` for faults of no line.
abbrev pub fault_line_number : RecordFault → Option ℕ
fault_line_number (BadMark line) = Some line
fault_line_number (BadDigit line) = Some line
fault_line_number (BadLength line) = Some line
fault_line_number (BadSum line) = Some line
fault_line_number (BadType line) = Some line
fault_line_number (OutOfRange line addr) = Some line
fault_line_number (LineTooLong line) = Some line
fault_line_number (BadCount line) = Some line
fault_line_number fault = None

-- The byte address outside the memory, of `OutOfRange` alone.
abbrev pub fault_address : RecordFault → Option ℕ
fault_address (OutOfRange line addr) = Some addr
fault_address fault = None
