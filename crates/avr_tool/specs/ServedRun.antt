-- Serving an emulated programmer, from settings to status.
use Rattle.std.specs.Prelude.{◌≡◌, ◌⊎◌, ℕ, false, List, [], ◌∷◌, Option, Some, None, is_some, MatchOption, Result, Ok, Err, codes, if◌then◌else◌}
use Rattle.avr_tool.specs.Holding.{LocksAndLoads, WithChip}
use Rattle.avr_tool.specs.Saving.{SavesAfterRun}
use Rattle.avr_plan.specs.declared.settings.Settings.{Settings}
use Rattle.avr_io.specs.Fault.{CountsNeverFall}
use Rattle.avr_io.specs.Record.{DeskState, Bytes, released}
use Rattle.avr_io.specs.Lines.{error}
use Rattle.avr_io.specs.OutputEvents.{ReportsLine}
use Rattle.avr_part.specs.ChipFile.{chip_file}
use Rattle.avr_part.specs.Part.{Part}
use Rattle.avr_part.specs.State as chips
use Rattle.avr_plan.specs.Planning.{LacksPart, parts_stage, part_stage}
use Rattle.avr_io.specs.StageRuns.{OnlyAtStart, RunsStage, StageCompleted}
use Rattle.avr_io.specs.Stage.{Stage, Produced, ◌>>=◌}
use Rattle.avr_session.specs.Lines.{unreceived_pieces, unsent_pieces}
use Rattle.avr_session.specs.Runs.{Devices, devices}
use Rattle.stk_emu.specs.Programmer.{fresh_programmer}
use Rattle.stk_emu.specs.Emulator.{EmulatorState}
use Rattle.avr_tool.specs.Serving.{Serves, RepliesInTurn, ServingLeaves, FailsBy}
use Rattle.avr_tool.specs.declared.serving_link.Served.{Served}
use Rattle.avr_tool.specs.declared.serving_link.Served.TheVariants.{Ended, RecvFailed, SendFailed, TooManyReads}

-- The part of the settings: in the part file, if one is given, then in the built-in parts.
abbrev pub settings_part : Settings → Stage Part
settings_part s = parts_stage s.parts >>= λ parts. part_stage s.part parts

-- The part of the settings was found, and then this holds.
pub record WithPart (settings : Settings) (old : DeskState) (Then : Part → DeskState → Type 0) : Type 0 where
  pub part : Part
  pub part_desk : DeskState
  pub found : StageCompleted (settings_part settings) old part_desk (Produced part)
  pub then_is : Then part part_desk

-- There is no part. Without a part file the only reason is that no built-in part has the name.
pub record FindsNoPart (settings : Settings) (old new : DeskState) (status : ℕ) : Type 0 where
  pub refused : RunsStage (OnlyAtStart false) (settings_part settings) old new (Err status)
  pub bare : settings.parts ≡ None → LacksPart settings.part [] old new

-- The contract of `check_part`: the part of the settings was found, a chip of it was loaded from this file, and the file
-- was unlocked. Or one of these is refused.
abbrev pub ChecksPart : Settings → Bytes → DeskState → DeskState → Result Part ℕ → Type 0
ChecksPart settings file old new (Ok checked_part) =
    WithPart settings old (λ part desk. (checked_part ≡ part)
    × WithChip part file desk (λ chip loaded_desk. new ≡ released loaded_desk))
ChecksPart settings file old new (Err status) = FindsNoPart settings old new status
    ⊎ WithPart settings old (λ part desk. LocksAndLoads part file desk new (Err status))

-- The message for how serving ended; the end of the link has none.
abbrev pub end_pieces : Served → Option (List Bytes)
end_pieces Ended = None
end_pieces RecvFailed = Some unreceived_pieces
end_pieces SendFailed = Some unsent_pieces
end_pieces TooManyReads = Some (codes "too many reads" ∷ [])

-- A fresh emulator with this chip served a link in at most `most_reads` reads. It sent its replies to what was
-- received, all of them before the next read, unless a send failed. How serving ended was reported. In each case the
-- chip was saved as the frames received have left it. The status is 0 if there was no message and the chip was saved.
pub record ServesChip (chip : chips.ChipState) (file : Bytes) (most_reads : ℕ) (old new : Devices) (status : ℕ)
    : Type 0 where
  pub served : Served
  pub left : EmulatorState
  pub reported_desk : DeskState
  pub serves : Serves (record { held = []; programmer = fresh_programmer chip }) most_reads served old.link new.link
      left
  pub in_turn : RepliesInTurn (fresh_programmer chip) [] [] serves.during
  pub leaves : ServingLeaves served (fresh_programmer chip) [] serves.during left
  pub fails : FailsBy served old.link new.link
  pub notice : MatchOption (end_pieces served) (reported_desk ≡ old.desk)
      (λ pieces. ReportsLine old.desk reported_desk (error pieces))
  pub rises : CountsNeverFall old.desk reported_desk
  pub saved : SavesAfterRun (if is_some (end_pieces served) then 1 else 0) reported_desk new.desk file
      (chip_file left.programmer.chip) status
  pub follows : CountsNeverFall reported_desk new.desk

-- The contract of `serve_part`: the chip was loaded and served. Or there is no chip: this was reported, and nothing was
-- received or sent.
abbrev pub ServesPart : Part → Bytes → ℕ → Devices → Devices → ℕ → Type 0
ServesPart part file most_reads old new status =
    WithChip part file old.desk (λ chip desk. ServesChip chip file most_reads (devices old.link desk) new status)
    ⊎ (LocksAndLoads part file old.desk new.desk (Err status) × (new.link ≡ old.link))

-- The part of the settings was served in at most `most_reads` reads. Or there is no part: this was reported, and
-- nothing was received or sent.
abbrev pub RunsServedFor : Settings → Bytes → ℕ → Devices → Devices → ℕ → Type 0
RunsServedFor settings file most_reads old new status =
    WithPart settings old.desk (λ part desk. ServesPart part file most_reads (devices old.link desk) new status)
    ⊎ (FindsNoPart settings old.desk new.desk status × (new.link ≡ old.link))
