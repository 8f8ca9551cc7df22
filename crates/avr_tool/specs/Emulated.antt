-- A run over the emulator, whose chip has a file.
use Rattle.std.specs.Prelude.{◌≡◌, ◌⊎◌, ℕ, Bool, true, false, List, [], ◌∷◌, All, Result, Ok, Err, ⊤}
use Rattle.std.specs.List.{list_any}
use Rattle.std.specs.Str.{bytes_eq}
use Rattle.avr_tool.specs.Holding.{FailsWith, LoadsLocked, LocksAndLoads, WithChip}
use Rattle.avr_tool.specs.Saving.{SavesAfterRun}
use Rattle.avr_plan.specs.declared.settings.Settings.{Settings}
use Rattle.avr_plan.specs.declared.planned.Task.{Task}
use Rattle.avr_plan.specs.declared.planned.Task.TheVariants.{Read}
use Rattle.avr_io.specs.Fault.{CountsNeverFall}
use Rattle.avr_io.specs.Lines.{error, not_created_pieces}
use Rattle.avr_io.specs.OutputEvents.{ReportsFailureAs, ReportsLine}
use Rattle.avr_io.specs.Record.{DeskState, Bytes, released, with_none_held}
use Rattle.avr_part.specs.ChipFile.{chip_file}
use Rattle.avr_part.specs.Sound.{IsSoundChip}
use Rattle.avr_part.specs.State.{ChipState as Chip}
use Rattle.avr_plan.specs.Plan.{Plan, IsFitted}
use Rattle.avr_plan.specs.Planning.{planned}
use Rattle.avr_io.specs.StageRuns.{StageCompleted}
use Rattle.avr_io.specs.Stage.{Produced}
use Rattle.ghosts.specs.Preserves.{Preserves}
use Rattle.stk_host.specs.Transcript.{sent}
use Rattle.stk_emu.specs.Programmer.{fresh_programmer}
use Rattle.stk_emu.specs.Wire.{fresh_wire}
use Rattle.stk_emu.specs.Wired.{WiredState, ComesOf, wired_link}
use Rattle.stk_emu.specs.declared.fate.Fate.{Fate}
use Rattle.avr_session.specs.Runs.{devices}
use Rattle.avr_session.specs.Run.{LacksPlan, RunsSession, WithPlan}
use Rattle.avr_tool.specs.OverFaultyLink.{SessionOverWire}

-- whether the task reads a memory into the file of this name
abbrev pub reads_into : Bytes → Task → Bool
reads_into file (Read memory format into) = bytes_eq into file
reads_into file task = false

-- The name of a file to read into was checked, and nothing was done. Or the desk failed at the name: the held file was
-- unlocked, this was reported, and the status is 1.
abbrev pub ChecksRead : Bytes → DeskState → DeskState → Result ⊤ ℕ → Type 0
ChecksRead into old new (Ok done) = new ≡ old
ChecksRead into old new (Err status) =
    (status ≡ 1) × FailsWith with_none_held (ReportsFailureAs (error (not_created_pieces into))) old new

-- The same for all tasks that read a memory: the refused name is one of theirs.
abbrev pub ChecksReads : List Task → DeskState → DeskState → Result ⊤ ℕ → Type 0
ChecksReads tasks old new (Ok done) = new ≡ old
ChecksReads tasks old new (Err status) =
    (into : Bytes) × (list_any (reads_into into) tasks ≡ true) × ChecksRead into old new (Err status)

-- No task reads a memory into the chip's file, which was locked, and the chip was loaded. Or a task does, and this was
-- reported. Or the file could not be locked, or its chip or a read was refused.
abbrev pub TakesChip : Plan → Bytes → DeskState → DeskState → Result Chip ℕ → Type 0
TakesChip plan file old new (Ok chip) =
    (list_any (reads_into file) plan.tasks ≡ false) × LoadsLocked plan.part file old new (Ok chip)
TakesChip plan file old new (Err status) =
    ((list_any (reads_into file) plan.tasks ≡ true) × (status ≡ 1)
    × ReportsLine old new (error (not_created_pieces file))) ⊎ ((list_any (reads_into file) plan.tasks ≡ false)
    × (LocksAndLoads plan.part file old new (Err status)
    ⊎ WithChip plan.part file old (λ chip desk. ChecksReads plan.tasks desk new (Err status))))

-- The chip's file is replaced if anything was sent, otherwise only unlocked. If it can't be replaced, the status is 1.
abbrev pub IsSavedIfSent : List ℕ → DeskState → DeskState → Bytes → Bytes → ℕ → ℕ → Type 0
IsSavedIfSent [] old now file bytes session_status status = (now ≡ released old) × (status ≡ session_status)
IsSavedIfSent (byte ∷ sent) old now file bytes session_status status =
    SavesAfterRun session_status old now file bytes status

-- A fresh wire to a chip, with these fates.
abbrev pub new_wire : Chip → List Fate → WiredState
new_wire chip fates =
    record { held = []; wire = fresh_wire (fresh_programmer chip) fates; waits = []; transcript = []; failures = 0 }

-- A plan was made, whose images have the sizes of their memories, and which reads no memory into the file. The file was
-- locked, and a chip of the plan's part, with memories of its sizes, was loaded from it. The session ran to a status
-- over a new wire to that chip, on which no frame goes wrong. Unless it stopped, it is the expected run. If anything was
-- sent, the chip as the wire left it was saved to the file, which was then unlocked. The desk after planning, loading
-- and the session is `planned_desk`, `loaded_desk` and `played_desk`.
pub record RunsOverEmulator (settings : Settings) (file : Bytes) (old now : DeskState) (status : ℕ) : Type 0 where
  pub plan : Plan
  pub chip : Chip
  pub after : WiredState
  pub session_status : ℕ
  pub planned_desk : DeskState
  pub loaded_desk : DeskState
  pub played_desk : DeskState
  pub made : StageCompleted (planned settings) old planned_desk (Produced plan)
  pub fitted : All (IsFitted plan.part) plan.tasks
  pub apart : list_any (reads_into file) plan.tasks ≡ false
  pub loaded : LoadsLocked plan.part file planned_desk loaded_desk (Ok chip)
  pub part : chip.part ≡ plan.part
  pub sound : IsSoundChip chip
  pub runs : RunsSession plan (devices (wired_link (new_wire chip [])) loaded_desk)
      (devices (wired_link after) played_desk) session_status
  pub comes : Preserves ComesOf (new_wire chip []) after
  pub session : SessionOverWire plan (new_wire chip []) after loaded_desk played_desk session_status
  pub saved : IsSavedIfSent (sent after.transcript) played_desk now file
      (chip_file after.wire.programmer.chip) session_status status
  pub follows : CountsNeverFall played_desk now

-- The contract of `run_emu`: that run; or there is a plan but no chip; or there is no plan. Without a chip nothing was
-- sent.
abbrev pub RunsEmulator : Settings → Bytes → DeskState → DeskState → ℕ → Type 0
RunsEmulator settings file old now status = RunsOverEmulator settings file old now status
    ⊎ (WithPlan settings old (λ plan desk. TakesChip plan file desk now (Err status))
    ⊎ LacksPlan settings old now status)
