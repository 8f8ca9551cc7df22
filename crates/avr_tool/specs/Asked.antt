-- What a command line asks for.
use Rattle.std.specs.Prelude.{◌≡◌, ℕ, true, List, [], Result, Ok, Err}
use Rattle.clap.specs.Words.{takes, fault_of, kind_of, HasKind}
use Rattle.clap.specs.declared.error.kind.ErrorKind.TheVariants.{OutOfMemory}
use Rattle.avr_plan.specs.Command.{avrstk, settings_from_arguments}
use Rattle.avr_plan.specs.Settings.{GivesUnlessOutOfMemory, ReportsAnyway}
use Rattle.avr_plan.specs.declared.settings.Settings.{Settings}
use Rattle.avr_plan.specs.declared.settings.SettingsFault.{SettingsFault}
use Rattle.avr_io.specs.Record.{DeskState, Bytes}
use Rattle.avr_io.specs.OutputEvents.{ReportsLine}
use Rattle.avr_session.specs.Refusal.{refusal_line}
use Rattle.avr_tool.specs.declared.command_line.NotAsked.{NotAsked}
use Rattle.avr_tool.specs.declared.command_line.NotAsked.TheVariants.{Words, Refused}

-- The command takes the command line, which asks for these settings, and then this holds.
pub record WithSettings (words : List Bytes) (Then : Settings → Type 0) : Type 0 where
  pub settings : Settings
  pub asked : Ok settings ≡ settings_from_arguments words
  pub taken : fault_of avrstk words ≡ []
  pub then_is : Then settings

-- A fault of the settings, or a failed allocation, was reported, and the status is 1.
pub record IsRefused (words : List Bytes) (old new : DeskState) (status : ℕ) : Type 0 where
  pub fault : SettingsFault
  pub is : GivesUnlessOutOfMemory (settings_from_arguments words) (Err fault)
  pub anyway : ReportsAnyway (settings_from_arguments words) (Err fault)
  pub notice : ReportsLine old new (refusal_line fault)
  pub status_is : status ≡ 1

-- The contract of `asked`. With settings, the command takes the command line, which asks for these settings. With a
-- status, a fault of the settings was reported. An error of `clap` is of a kind that the command line calls for; if the
-- command takes the command line, it is that allocation failed. With settings or an error nothing was done at the desk.
abbrev pub GivesSettings : List Bytes → DeskState → DeskState → Result Settings NotAsked → Type 0
GivesSettings words old new (Ok settings) = (Ok settings ≡ settings_from_arguments words) × (fault_of avrstk words ≡ [])
    × (new ≡ old)
GivesSettings words old new (Err (Refused status)) = IsRefused words old new status
GivesSettings words old new (Err (Words error)) =
    HasKind (fault_of avrstk words) error × (takes avrstk words ≡ true → kind_of error ≡ OutOfMemory) × (new ≡ old)

-- The number of a reason why there are no settings.
abbrev pub not_asked_number : NotAsked → ℕ
not_asked_number (Words error) = 1
not_asked_number (Refused status) = 2
