-- A program that serves one client over its link, from a command line to a status.
use Rattle.std.specs.Prelude.{◌≡◌, ◌⊎◌, ℕ, List, [], ◌∷◌, Option, None, Some, is_some, Ok, Err, codes, if◌then◌else◌}
use Rattle.std.specs.Str.{bytes_eq}
use Rattle.clap.specs.Words.{kind_of}
use Rattle.clap.specs.declared.error.Error.{Error}
use Rattle.clap.specs.declared.error.kind.ErrorKind.{ErrorKind}
use Rattle.clap.specs.declared.error.kind.ErrorKind.TheVariants.{DisplayHelp, OutOfMemory}
use Rattle.avr_plan.specs.declared.settings.Port.{Port}
use Rattle.avr_plan.specs.declared.settings.Port.TheVariants.{Emulated}
use Rattle.avr_plan.specs.declared.settings.Settings.{Settings}
use Rattle.avr_io.specs.Lines.{error, memory_pieces}
use Rattle.avr_io.specs.Record.{Bytes, DeskState}
use Rattle.avr_io.specs.OutputEvents.{ReportsLine}
use Rattle.avr_tool.specs.Asked.{GivesSettings, IsRefused, WithSettings}
use Rattle.avr_tool.specs.declared.command_line.NotAsked.TheVariants.{Words}
use Rattle.avr_tool.specs.declared.command_line.CommandLine.{Ghosts as CommandLine}
use Rattle.avr_tool.specs.ServedRun.{ChecksPart, RunsServedFor}
use Rattle.avr_tool.specs.declared.served_run.TheConstants.{READS}
use Rattle.avr_part.specs.Part.{Part}
use Rattle.avr_session.specs.Runs.{Devices}
use Rattle.avrstk_session.specs.Outline.{Outlines}
use Rattle.avrstk_session.specs.declared.mode.Mode.{Mode}
use Rattle.avrstk_session.specs.declared.mode.Mode.TheVariants.{Serve, Check, Outline}

-- How the program is used.
abbrev pub usage_pieces : List Bytes
usage_pieces = codes
    "usage: avrstk_session --serve|--check -p PART [--parts FILE] -P emu:CHIPFILE, or --outline AVRSTK'S OPTIONS" ∷ []

-- The mode of this name.
abbrev pub mode_named : Bytes → Option Mode
mode_named word =
    if bytes_eq word (codes "--serve") then Some Serve
    else if bytes_eq word (codes "--check") then Some Check
    else if bytes_eq word (codes "--outline") then Some Outline
    else None

-- The mode that the first argument names, and avrstk's command line after it, in which it takes the program's place. If
-- the first argument names no mode, the command line is whole.
abbrev pub mode_and_words : List Bytes → Option Mode × List Bytes
mode_and_words (name ∷ word ∷ more) =
    (mode_named word, if is_some (mode_named word) then word ∷ more else name ∷ word ∷ more)
mode_and_words words = (None, words)

-- Help has status 0, any other error 1. A failed allocation has a line of its own.
abbrev pub ReportsUsage : ErrorKind → DeskState → DeskState → ℕ → Type 0
ReportsUsage DisplayHelp old new status = ReportsLine old new (error usage_pieces) × (status ≡ 0)
ReportsUsage OutOfMemory old new status = ReportsLine old new (error memory_pieces) × (status ≡ 1)
ReportsUsage kind old new status = ReportsLine old new (error usage_pieces) × (status ≡ 1)

-- The part of the settings was found and this file checked as a chip of it, or one of these is refused.
abbrev pub ChecksOnly : Settings → Bytes → DeskState → DeskState → ℕ → Type 0
ChecksOnly settings file old new status =
    ((part : Part) × ChecksPart settings file old new (Ok part) × (status ≡ 0))
    ⊎ ChecksPart settings file old new (Err status)

-- How the program is used was reported. Nothing was received or sent, and the status is 1.
abbrev pub RefusesUse : Devices → Devices → ℕ → Type 0
RefusesUse old new status = ReportsLine old.desk new.desk (error usage_pieces) × (new.link ≡ old.link) × (status ≡ 1)

-- With `--serve` the chip file of `-P emu:CHIPFILE` is served over the link. With `--check` it is only checked, and
-- nothing is received or sent. With `--outline` the outline of a session is printed, for any port and without the link.
-- Without one of these, or with another port, the use is refused.
abbrev pub ServesMode : Option Mode → Port → Settings → Devices → Devices → ℕ → Type 0
ServesMode (Some Serve) (Emulated file) settings old new status =
    RunsServedFor settings file READS old new status
ServesMode (Some Check) (Emulated file) settings old new status =
    ChecksOnly settings file old.desk new.desk status × (new.link ≡ old.link)
ServesMode (Some Outline) port settings old new status =
    Outlines settings old.desk new.desk status × (new.link ≡ old.link)
ServesMode mode port settings old new status = RefusesUse old new status

-- From a command line to a status: its settings were served. Or they have a fault, or the command refuses the command
-- line, or allocation failed in it: this was reported, and nothing was received or sent.
abbrev pub ServesWords : List Bytes → Devices → Devices → ℕ → Type 0
ServesWords words old new status = let asked = mode_and_words words in
    WithSettings asked.1 (λ settings. ServesMode asked.0 settings.port settings old new status)
    ⊎ ((IsRefused asked.1 old.desk new.desk status ⊎ ((error : Error)
    × GivesSettings asked.1 old.desk old.desk (Err (Words error))
    × ReportsUsage (kind_of error) old.desk new.desk status)) × (new.link ≡ old.link))

-- From the start of a process: its command line was read and served. Or it could not be read.
abbrev pub StartsSession : {C : Type 0} → CommandLine C → Devices → Devices → ℕ → Type 0
StartsSession line old new status = ((words : List Bytes) × line.is_words words × ServesWords words old new status)
    ⊎ (line.unread × RefusesUse old new status)
