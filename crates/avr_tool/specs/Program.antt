-- THE PROGRAM. What it does with a command line, on its standard streams and at its desk, and its status.
use Rattle.std.specs.Prelude.{◌≡◌, ◌≢◌, ◌⊎◌, ℕ, suc, true, List, [], Result, Ok, Err}
use Rattle.clap.specs.Words.{fault_of, kind_of, takes, HasKind}
use Rattle.clap.specs.declared.error.Error.{Error}
use Rattle.clap.specs.declared.error.kind.ErrorKind.{ErrorKind}
use Rattle.clap.specs.declared.error.kind.ErrorKind.TheVariants.{OutOfMemory, DisplayHelp, DisplayVersion}
use Rattle.avr_plan.specs.Command.{avrstk}
use Rattle.avr_plan.specs.Port.{port_number}
use Rattle.avr_plan.specs.declared.settings.Port.{Port}
use Rattle.avr_plan.specs.declared.settings.Port.TheVariants.{Stdio, Emulated, Network, Served}
use Rattle.avr_plan.specs.declared.settings.Settings.{Settings}
use Rattle.avr_plan.specs.declared.settings.SettingsFault.TheVariants.{Memory}
use Rattle.avr_io.specs.Record.{Bytes}
use Rattle.avr_io.specs.OutputEvents.{ReportsLine}
use Rattle.avr_tool.specs.Emulated.{RunsEmulator}
use Rattle.avr_session.specs.Refusal.{refusal_line}
use Rattle.avr_session.specs.Runs.{Devices}
use Rattle.avr_io.specs.declared.desk.DeskFault.{DeskFault}
use Rattle.avr_io.specs.declared.stream.Stream.{Stream}
use Rattle.avr_io.specs.declared.stream.Stream.TheVariants.{Output, Messages}
use Rattle.avr_tool.specs.Asked.{IsRefused, WithSettings}
use Rattle.avr_tool.specs.declared.command_line.CommandLine.{Ghosts as CommandLine}
use Rattle.avr_tool.specs.Headline.{IsRun, IsStopped}
use Rattle.avr_tool.specs.OverNet.{RunsOverNet}
use Rattle.avr_tool.specs.ServedNet.{ServesNet}
use Rattle.avr_tool.specs.Sockets.{Peers}
use Rattle.avr_tool.specs.Texts.{AnyPart, PrintsText, ReportsText}

-- The port of the settings decides. It is standard input and output, which is the link; the emulator over a chip
-- file; a connection to the address; or a service at the port. A service uses only the chip file, the port and the
-- part. A port that is not of the network leaves that unused.
abbrev pub ActsAtPort : Peers → Port → Settings → Devices → Devices → ℕ → Type 0
ActsAtPort peers Stdio settings old new status =
    (IsRun settings old new status ⊎ IsStopped settings old new status) × peers.unused
ActsAtPort peers (Emulated file) settings old new status =
    RunsEmulator settings file old.desk new.desk status × (new.link ≡ old.link) × peers.unused
ActsAtPort peers (Network address) settings old new status =
    RunsOverNet peers.unused (peers.at_address address) settings address old.desk new.desk status
    × (new.link ≡ old.link)
ActsAtPort peers (Served port chip) settings old new status =
    ServesNet peers.unused (peers.at_port (port_number port)) settings port chip old.desk new.desk status
    × (new.link ≡ old.link)

-- The settings have a fault, or allocation failed. This was reported, and nothing else was done.
pub record RefusesCommandLine (peers : Peers) (words : List Bytes) (old new : Devices) (status : ℕ) : Type 0 where
  pub why : IsRefused words old.desk new.desk status ⊎ ReportsLine old.desk new.desk (refusal_line Memory)
  pub untouched : new.link ≡ old.link
  pub unused : peers.unused
  pub status_is : status ≡ 1

-- The command refuses the command line, or this asks for help. The error is of a kind that the command line calls for.
pub record ReturnsClapError (words : List Bytes) (error : Error) : Type 0 where
  pub kind : HasKind (fault_of avrstk words) error
  pub not_memory : kind_of error ≢ OutOfMemory
  pub not_taken : takes avrstk words ≢ true

-- The settings of the command line were run, or it is refused. An error is left to be printed, and nothing was done.
abbrev pub ActsOnCommandLine : Peers → List Bytes → Devices → Devices → Result ℕ Error → Type 0
ActsOnCommandLine peers words old new (Ok status) =
    WithSettings words (λ settings. ActsAtPort peers settings.port settings old new status)
    ⊎ RefusesCommandLine peers words old new status
ActsOnCommandLine peers words old new (Err error) =
    ReturnsClapError words error × (new.desk ≡ old.desk) × (new.link ≡ old.link) × peers.unused

-- The status after a text of `clap`: 0 for help and the version, if some bytes were printed and no write failed;
-- otherwise 1.
abbrev pub usage_status : ErrorKind → Result ℕ DeskFault → ℕ
usage_status DisplayHelp (Ok (suc more)) = 0
usage_status DisplayVersion (Ok (suc more)) = 0
usage_status kind printed = 1

-- Help and the version go to the output, all else to the messages.
abbrev pub usage_stream : ErrorKind → Stream
usage_stream DisplayHelp = Output
usage_stream DisplayVersion = Output
usage_stream kind = Messages

-- The text of the error was printed there, whole or up to a failure, and nothing else was done. No clause knows the
-- text.
pub record PrintsClapText (peers : Peers) (words : List Bytes) (old new : Devices) (status : ℕ) : Type 0 where
  pub error : Error
  pub leaves : ReturnsClapError words error
  pub printed : Result ℕ DeskFault
  pub prints : PrintsText AnyPart (usage_stream (kind_of error)) old.desk new.desk printed
  pub untouched : new.link ≡ old.link
  pub unused : peers.unused
  pub status_is : status ≡ usage_status (kind_of error) printed

-- The contract of `run_program`: from a command line to a status.
abbrev pub RunsProgram : Peers → List Bytes → Devices → Devices → ℕ → Type 0
RunsProgram peers words old new status =
    ActsOnCommandLine peers words old new (Ok status) ⊎ PrintsClapText peers words old new status

-- The contract of `run_command_line`: the process's command line was read and run. Or it could not be read, this was
-- reported, and the status is 1.
abbrev pub StartsProgram : {C : Type 0} → CommandLine C → Peers → Devices → Devices → ℕ → Type 0
StartsProgram line peers old new status =
    ((words : List Bytes) × line.is_words words × RunsProgram peers words old new status)
    ⊎ (line.unread × (status ≡ 1) × ReportsText AnyPart old.desk new.desk × (new.link ≡ old.link) × peers.unused)
