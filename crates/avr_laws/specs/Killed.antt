-- What a run leaves that is killed, or whose machine stops.
use mathlib.Core.Logic.{inl, inr}
use Rattle.std.specs.Prelude.{◌≡◌, ◌⊎◌, ℕ, Option, None, Some}
use Rattle.avr_plan.specs.declared.settings.Settings.{Settings}
use Rattle.avr_io.specs.Record.{Bytes, DeskState}
use Rattle.avr_desk.specs.declared.file_system.FileSystem.{Ghosts}
use Rattle.avr_tool.specs.Emulated.{RunsEmulator}
use Rattle.avr_tool.specs.ServedRun.{RunsServedFor, ServesPart}
use Rattle.avr_part.specs.ChipFile.{chip_file}
use Rattle.avr_part.specs.Part.{Part}
use Rattle.avr_session.specs.Runs.{Devices, devices}
use Rattle.avr_tool.specs.OverNet.{new_link}
use Rattle.avr_tool.specs.ServedNet.{ServesNet}
use Rattle.avr_tool.specs.declared.served_run.TheConstants.{READS}
use Rattle.stk_host.specs.Transcript.{LinkState}

-- After a crash this name has what it had when it was locked, or the file of the chip, if there is one.
abbrev pub LeavesOldOrNew : {S F I H : Type 0} → Ghosts S F I H → S → Bytes → Option Bytes → Type 0
LeavesOldOrNew system now file chip = (found : Option Bytes) → system.left now file found
    → system.began file found ⊎ ((bytes : Bytes) × (chip ≡ Some bytes) × (found ≡ Some bytes))

-- The file of the chip as a run over the emulator has left it, if one was loaded.
abbrev pub chip_file_of_run : (settings : Settings) (file : Bytes) (old new : DeskState) (status : ℕ)
    → RunsEmulator settings file old new status → Option Bytes
chip_file_of_run settings file old new status (inl r) = Some (chip_file r.after.wire.programmer.chip)
chip_file_of_run settings file old new status (inr none) = None

-- The same of a server, from its part on and from its settings on.
abbrev pub chip_file_of_part : (part : Part) (file : Bytes) (most_reads : ℕ) (old new : Devices) (status : ℕ)
    → ServesPart part file most_reads old new status → Option Bytes
chip_file_of_part part file most_reads old new status (inl s) = Some (chip_file s.then_is.left.programmer.chip)
chip_file_of_part part file most_reads old new status (inr none) = None

-- The same for a service over standard streams.
abbrev pub chip_file_of_server : (settings : Settings) (file : Bytes) (most_reads : ℕ) (old new : Devices) (status : ℕ)
    → RunsServedFor settings file most_reads old new status → Option Bytes
chip_file_of_server settings file most_reads old new status (inl s) =
    chip_file_of_part s.part file most_reads (devices old.link s.part_desk) new status s.then_is
chip_file_of_server settings file most_reads old new status (inr none) = None

-- The file of the chip as a service has left it, if there was a client and a chip was loaded for it.
abbrev pub chip_file_of_service : (unused : Type 0) (over : Option LinkState → Type 0) (settings : Settings)
    (port file : Bytes) (old new : DeskState) (status : ℕ) → ServesNet unused over settings port file old new status
    → Option Bytes
chip_file_of_service unused over settings port file old new status (inl (part, checked, is, inl (link, on, serves))) =
    chip_file_of_part part file READS (devices new_link checked) (devices link new) status serves
chip_file_of_service unused over settings port file old new status (inl (part, checked, is, inr none)) = None
chip_file_of_service unused over settings port file old new status (inr refused) = None
