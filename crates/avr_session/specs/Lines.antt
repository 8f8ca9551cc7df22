-- The lines of a session: information, warnings, and faults.
use Rattle.std.specs.Prelude.{ℕ, List, [], ◌∷◌, codes, nat_lt, if◌then◌else◌}
use Rattle.byteorder.specs.Endian.{big_bytes}
use Rattle.avr_io.specs.Record.{Bytes}
use Rattle.avr_io.specs.Lines.{digits, spaced_digits, information, warning, error, memory_pieces}
use Rattle.avr_io.specs.OutputEvents.{OutputEvent, PrintsLine}
use Rattle.avr_part.specs.Mem.{name_of}
use Rattle.avr_part.specs.Part.{Part}
use Rattle.avr_plan.specs.Lines.{read_only_pieces}
use Rattle.stk_host.specs.declared.fault.HostFault.{HostFault}
use Rattle.stk_host.specs.declared.fault.HostFault.TheVariants.{NoAnswer, LinkEnded, SendFailed, Babble, Refused, BadAnswer, WrongSignature, Differs, ReadOnly, Memory, RecvFailed}

-- Information is printed if `quiet` is 0; a warning also if it is 1.
abbrev pub informs : ℕ → List Bytes → List OutputEvent
informs quiet pieces = if nat_lt 0 quiet then [] else PrintsLine (information pieces) ∷ []

abbrev pub warns : ℕ → List Bytes → List OutputEvent
warns quiet pieces = if nat_lt 1 quiet then [] else PrintsLine (warning pieces) ∷ []

-- The signature found, and the part's.
abbrev pub other_signature : Part → Bytes → List Bytes
other_signature part found =
    codes "signature is " ∷ spaced_digits found ∷ codes ", " ∷ part.id ∷ codes " has " ∷ spaced_digits part.signature
    ∷ []

-- The link failed at sending; below, at receiving.
abbrev pub unsent_pieces : List Bytes
unsent_pieces = codes "link cannot be written" ∷ []

abbrev pub unreceived_pieces : List Bytes
unreceived_pieces = codes "link cannot be read" ∷ []

-- The message of each fault of the host.
abbrev pub fault_pieces : Part → HostFault → List Bytes
fault_pieces part NoAnswer = codes "no answer" ∷ []
fault_pieces part LinkEnded = codes "link ended" ∷ []
fault_pieces part SendFailed = unsent_pieces
fault_pieces part Babble = codes "no answer in 4096 bytes" ∷ []
fault_pieces part (Refused command status) =
    codes "command " ∷ digits (command ∷ []) ∷ codes " refused with status " ∷ digits (status ∷ []) ∷ []
fault_pieces part (BadAnswer command) = codes "command " ∷ digits (command ∷ []) ∷ codes ": bad answer" ∷ []
fault_pieces part (WrongSignature found) = other_signature part found
fault_pieces part (Differs mem address want found) =
    name_of mem ∷ codes ": address " ∷ digits (big_bytes 4 address) ∷ codes ": " ∷ digits (want ∷ [])
    ∷ codes " expected, " ∷ digits (found ∷ []) ∷ codes " found" ∷ []
fault_pieces part (ReadOnly mem) = read_only_pieces mem
fault_pieces part Memory = memory_pieces
fault_pieces part RecvFailed = unreceived_pieces

-- The line that reports a fault of the host.
unfoldable pub fault_line : Part → HostFault → Bytes
fault_line part fault = error (fault_pieces part fault)
