-- Stages that begin by opening a file.
use Rattle.std.proofs.Common.{◌≡◌, refl, subst, ap, arith, ℕ, List, [], ◌∷◌, Result, Err, rules}
use Rattle.std.proofs.lemmas.Bool.Decides.{nat_tests}
use Rattle.avr_io.specs.Fault.{CountsNeverFall, HasSameCounts}
use Rattle.avr_io.specs.Files.{EndsOrExceedsLimit, ReadsFile, FileBreaks, CountsFileFault}
use Rattle.avr_io.specs.Record.{DeskState, Record, ChangesRecord, after_err, showing, Bytes}
use Rattle.avr_io.specs.declared.files.FileFault.{FileFault}
use Rattle.avr_io.specs.declared.files.FileFault.TheVariants as file_fault
use Rattle.avr_io.specs.declared.record.Opening.{Opening}
use Rattle.avr_io.specs.declared.record.Opening.TheVariants.{Found}
use Rattle.avr_io.specs.declared.record.Reading.{Reading}
use Rattle.avr_io.proofs.Stages.Outputs.{kept_append}
use Rattle.avr_io.proofs.Lines.ReportedAs.{failure_reported, follows_on}
use Rattle.avr_io.specs.Lines.{file_fault_line, not_opened_line, not_read_line}
use Rattle.avr_io.specs.OutputEvents.{OutputEvent, Opens, PrintsLine, ReportsLine, after_events}
use Rattle.avr_io.proofs.Stages.Played.{runs_then}
use Rattle.avr_io.specs.StageRuns.{BreakCause, NotOpened, NotRead, NoMemoryForFile, events_of_break, BreakFitsNext, AllocatesThere, AllocationPoints, ReportsBreakAs, RunsStage, opened_and_read_in_part}
use Rattle.avr_io.specs.Stage.{Stage, Produced, StageResult, ◌>>=◌, result_stage, open_stage, renamed_opening, content_stage, next_opening}

-- ---- the opening passed

-- the result of a stage that has only opened a file
abbrev after_opening : List Opening → Opening → StageResult Opening
after_opening more opening =
    record { output_events = Opens opening ∷ []; stage_outcome = Produced opening; openings_left = more }

-- the file of this name gave this, so the stage goes on
pub runs_open : {A : Type 0} (inner taking : AllocationPoints) (name : Bytes) (next : Opening
    → Stage A) (opening : Opening) (old mid new : DeskState) (result : Result A ℕ)
    → renamed_opening name opening ≡ opening → ChangesRecord (after_events (Opens opening ∷ [])) old mid
    → HasSameCounts old mid → ((passed : List Opening) (emitted : List OutputEvent) → inner passed emitted
    → taking (opening ∷ passed) (Opens opening ∷ emitted))
    → RunsStage inner (next opening) mid new result → RunsStage taking (open_stage name >>= next) old new result
runs_open inner taking name next opening old mid new result is kept same behind goes =
    runs_then inner taking (open_stage name) next old mid new opening result
    (record {
      passed = opening ∷ [];
      output_events = Opens opening ∷ [];
      comes = λ more. ap (after_opening more) is;
      kept = kept;
      sound = same;
    }) behind goes

-- the file was read to its end or past the limit, and checked
pub runs_content : {A : Type 0} (taking : AllocationPoints) (name : Bytes) (limit : ℕ) (judge : Bytes → Result A Bytes)
    (reading : Reading) (old new : DeskState) (result : Result A ℕ)
    → EndsOrExceedsLimit limit (record { bytes = reading.bytes; ended = reading.ended })
    → RunsStage taking (result_stage (judge reading.bytes)) old new result
    → RunsStage taking (content_stage name limit judge (Found reading)) old new result
runs_content taking name limit judge reading old new result whole goes = grind (arith, nat_tests)

-- ---- the opening broke off

-- such a break is one of the stage
broke_opening : {A : Type 0} (taking : AllocationPoints) (name : Bytes) (next : Opening → Stage A) (break : BreakCause)
    (notice : Bytes) (old new : DeskState) (status : ℕ) → AllocatesThere taking break [] [] → status ≡ 1
    → ((more : List Opening) → BreakFitsNext break more (Opens (next_opening name more) ∷ []))
    → ReportsBreakAs break notice old new → ChangesRecord (after_events (events_of_break break notice)) old new
    → CountsNeverFall old new → RunsStage taking (open_stage name >>= next) old new (Err status)
broke_opening taking name next break notice old new status taken one is is_reported kept follows =
    grind (arith, nat_tests)

-- the file could not be opened, could not be read to its end, or allocation failed for it
pub runs_until_break : {A : Type 0} (taking : AllocationPoints) (name : Bytes) (next : Opening → Stage A)
    (fault : FileFault) (old mid new : DeskState) (status : ℕ) → (fault ≡ file_fault.Absent → ⊥)
    → FileBreaks name old mid fault → CountsNeverFall old mid → CountsFileFault old mid fault → status ≡ 1
    → ReportsLine mid new (file_fault_line name fault)
    → RunsStage taking (open_stage name >>= next) old new (Err status)
runs_until_break taking name next file_fault.Absent old mid new status there breaks rose counted one notice =
    absurd (there refl)
runs_until_break taking name next file_fault.NotOpened old mid new status there same rose failed one notice =
    broke_opening taking name next (NotOpened name) notice.notice old new status tt one (λ more. ([], refl))
    (failure_reported old mid new (not_opened_line name) rose failed notice)
    (subst (λ (kept : Record). new.kept ≡ after_err notice.notice kept) same notice.kept)
    (follows_on old mid new rose notice.follows)
runs_until_break taking name next file_fault.NotRead old mid new status there (bytes, kept) rose failed one notice =
    broke_opening taking name next (NotRead name bytes) notice.notice old new status tt one (λ more. ([], refl))
    (failure_reported old mid new (not_read_line name) rose failed notice)
    (kept_append (opened_and_read_in_part name bytes ∷ []) (PrintsLine notice.notice ∷ []) old.kept mid.kept new.kept
    kept notice.kept) (follows_on old mid new rose notice.follows)
runs_until_break taking name next file_fault.Memory old mid new status there (bytes, ended, kept) rose same one notice =
    let reading : Reading = record { name = name; bytes = bytes; ended = ended } in
    broke_opening taking name next (NoMemoryForFile reading) notice.notice old new status tt one (λ more. ([], refl))
    (search rules)
    (kept_append (Opens (Found reading) ∷ []) (PrintsLine notice.notice ∷ []) old.kept mid.kept new.kept kept
    notice.kept) (follows_on old mid new rose notice.follows)

-- ---- a whole file in memory

-- a file that could not be read breaks the stage as its fault says
pub breaks_as : (name : Bytes) (old mid : Record) (fault : FileFault)
    → ReadsFile name (showing old 0 0) (showing mid 0 0) (Err fault)
    → FileBreaks name (showing old 0 0) (showing mid 0 0) fault
breaks_as name old mid fault reads = search rules
