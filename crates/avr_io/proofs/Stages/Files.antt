-- Files that a stage reads and checks.
use Rattle.std.proofs.Common.{◌≡◌, refl, ℕ, Bool, true, false, List, Result, Ok, Err}
use Rattle.avr_io.specs.Fault.{CountsNeverFall, HasSameCounts}
use Rattle.avr_io.specs.Files.{EndsOrExceedsLimit, with_read, FileBreaks, CountsFileFault}
use Rattle.avr_io.specs.Record.{DeskState, ChangesRecord, Bytes}
use Rattle.avr_io.specs.declared.files.FileFault.{FileFault}
use Rattle.avr_io.specs.declared.files.FileFault.TheVariants as file_fault
use Rattle.avr_io.specs.declared.record.Opening.{Opening}
use Rattle.avr_io.specs.declared.record.Opening.TheVariants.{Absent, Found}
use Rattle.avr_io.specs.declared.record.Reading.{Reading}
use Rattle.avr_io.specs.Lines.{file_fault_line, not_opened_line}
use Rattle.avr_io.specs.OutputEvents.{OutputEvent, ReportsLine}
use Rattle.avr_io.proofs.Stages.Openings.{runs_open, runs_content, runs_until_break}
use Rattle.avr_io.proofs.Stages.Played.{runs_to_refusal}
use Rattle.avr_io.specs.StageRuns.{AllocationPoints, OnlyAtStart, RunsStage, StageCompleted}
use Rattle.avr_io.specs.Stage.{Produced, result_stage, content_stage, file_stage}

-- nothing is allocated
pub never_allocates : (passed : List Opening) (emitted : List OutputEvent) → OnlyAtStart false passed emitted → ⊥
never_allocates passed emitted never = let clash : false ≡ true = never.0 in cc

module _ {A : Type 0} (taking : AllocationPoints) (name : Bytes) (limit : ℕ) (judge : Bytes → Result A Bytes) where
  -- the check of the file's bytes
  pub runs_read_file : (bytes : Bytes) (ended : Bool) (old mid new : DeskState) (result : Result A ℕ)
      → ChangesRecord (with_read name bytes ended) old mid
      → EndsOrExceedsLimit limit (record { bytes = bytes; ended = ended }) → HasSameCounts old mid
      → RunsStage (OnlyAtStart false) (result_stage (judge bytes)) mid new result
      → RunsStage taking (file_stage name limit judge) old new result
  runs_read_file bytes ended old mid new result kept whole same goes =
      let reading : Reading = record { name = name; bytes = bytes; ended = ended } in
      runs_open (OnlyAtStart false) taking name (content_stage name limit judge) (Found reading) old mid new result refl
      kept same (λ passed emitted never. absurd (never_allocates passed emitted never))
      (runs_content (OnlyAtStart false) name limit judge reading mid new result whole goes)

  -- so a file whose bytes are good is a stage that completed
  pub completed_read_file : (bytes : Bytes) (ended : Bool) (old mid : DeskState) (a : A)
      → ChangesRecord (with_read name bytes ended) old mid
      → EndsOrExceedsLimit limit (record { bytes = bytes; ended = ended }) → HasSameCounts old mid
      → StageCompleted (result_stage (judge bytes)) mid mid (Produced a)
      → StageCompleted (file_stage name limit judge) old mid (Produced a)
  completed_read_file bytes ended old mid a kept whole same went =
      runs_read_file bytes ended old mid mid (Ok a) kept whole same went

  -- any fault of the reading
  pub runs_file_fault : (fault : FileFault) (old mid new : DeskState) (status : ℕ)
      → FileBreaks name old mid fault → CountsNeverFall old mid → CountsFileFault old mid fault → status ≡ 1
      → ReportsLine mid new (file_fault_line name fault)
      → RunsStage taking (file_stage name limit judge) old new (Err status)
  runs_file_fault file_fault.Absent old mid new status breaks rose counted one notice =
      runs_open (OnlyAtStart false) taking name (content_stage name limit judge) (Absent name) old mid new (Err status)
      refl breaks counted (λ passed emitted never. absurd (never_allocates passed emitted never))
      (runs_to_refusal {A = A} (OnlyAtStart false) mid new (not_opened_line name) status one notice)
  runs_file_fault fault old mid new status breaks rose counted one notice =
      runs_until_break taking name (content_stage name limit judge) fault old mid new status (λ e. cc) breaks rose
      counted one notice
