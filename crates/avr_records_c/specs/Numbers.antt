-- The numbers that C has for formats, faults and versions.
use Rattle.std.specs.Prelude.{ℕ, true, false, ◌+◌, ◌*◌, ◌==◌, ◌||◌, Option, Some, None, Result, Err, ok_or, unwrap_or, if◌then◌else◌}
use Rattle.avr_records.specs.Fault.{fault_number, fault_line_number, fault_address}
use Rattle.avr_records.specs.declared.fault.RecordFault.{RecordFault}
use Rattle.avr_records.specs.declared.kind.Kind.{Kind}
use Rattle.avr_records.specs.declared.kind.Kind.TheVariants as kind
use Rattle.avr_records.specs.declared.kind.Ending.{Ending}
use Rattle.avr_records.specs.declared.kind.Ending.TheVariants.{Ended, NoEnd}
use Rattle.avr_records.specs.declared.kind.Found.{Found}
use Rattle.avr_records.specs.declared.kind.Found.TheVariants as found
use Rattle.avr_records_c.specs.declared.outcome.Outcome.{Outcome}

-- The number of a format.
abbrev pub found_number : Found → ℕ
found_number found.Raw = 0
found_number found.Ihex = 1
found_number found.Srec = 2
found_number found.Elf = 3

-- The kind of record file with this number.
abbrev pub kind_numbered : ℕ → Option Kind
kind_numbered number = if number == 1 then Some kind.Ihex else if number == 2 then Some kind.Srec else None

-- The outcome of a read without a fault; below, with one.
abbrev pub outcome_of_end : Ending → Outcome
outcome_of_end Ended = record { line = 0; address = 0; fault = 0; ended = true }
outcome_of_end NoEnd = record { line = 0; address = 0; fault = 0; ended = false }

-- the outcome that a fault has in C
abbrev pub outcome_of_fault : RecordFault → Outcome
outcome_of_fault fault =
    let line = unwrap_or (fault_line_number fault) 0 in
    record { line = line; address = unwrap_or (fault_address fault) 0; fault = fault_number fault; ended = false }

-- The arguments don't fit one another.
abbrev pub misfit : Outcome
misfit = record { line = 0; address = 0; fault = 11; ended = false }

-- The format has no records.
abbrev pub no_records : Outcome
no_records = record { line = 0; address = 0; fault = 12; ended = false }

-- The kind of record file to read. Raw bytes and ELF have no records, and other numbers name no format.
abbrev pub kind_to_read : ℕ → Result Kind Outcome
kind_to_read number = if number == 0 || number == 3 then Err no_records else ok_or (kind_numbered number) misfit

-- The number of a version, as 900 of 0.9.0.
abbrev pub version_number : ℕ → ℕ → ℕ → ℕ
version_number major minor patch = major * 10000 + minor * 100 + patch
