-- The parts of a part file.
use Rattle.std.proofs.Common.{◌≡◌, ◌∙◌, sym, ap, refl, arith, ℕ, List, length, Bool, true, false, nat_le, Ok, Err, inl, inr, subst, rules}
use Rattle.std.proofs.lemmas.Bool.Decides.{nat_tests}
use Rattle.avr_io.specs.Fault.{HasSameCounts}
use Rattle.avr_io.specs.Files.{EndsOrExceedsLimit, with_read}
use Rattle.avr_io.specs.declared.files.FileFault.TheVariants as file_fault
use Rattle.avr_io.specs.Record.{DeskState, ChangesRecord, Bytes}
use Rattle.avr_io.specs.Lines.{error, too_long_line}
use Rattle.avr_io.specs.OutputEvents.{ReportsLine}
use Rattle.avr_part.specs.Part.{Part}
use Rattle.avr_part.specs.PartFile.{NamedFault, ReadsUnlessOutOfMemory, of_file, parts_of}
use Rattle.avr_part.specs.declared.fault.PartFault.TheVariants.{Memory}
use Rattle.avr_io.proofs.Stages.Files.{runs_read_file, completed_read_file, runs_file_fault}
use Rattle.avr_io.proofs.Lines.ReportedAs.{follows_same}
use Rattle.avr_io.proofs.Stages.Played.{completed_good_result, runs_bad_result}
use Rattle.avr_plan.specs.declared.part_choice.TheConstants.{LARGEST_PART_FILE}
use Rattle.avr_plan.specs.Lines.{part_file_pieces}
use Rattle.avr_plan.specs.Planning.{checked_parts, or_line}
use Rattle.avr_io.specs.StageRuns.{OnlyAtStart, RunsStage, StageCompleted}
use Rattle.avr_io.specs.Stage.{Produced, file_stage}

-- A part file past its limit was refused.
pub long_parts_refused : (file bytes : Bytes) (ended : Bool) (old mid new : DeskState) (status : ℕ)
    → ChangesRecord (with_read file bytes ended) old mid
    → EndsOrExceedsLimit LARGEST_PART_FILE (record { bytes = bytes; ended = ended }) → ended ≡ false
    → HasSameCounts old mid → status ≡ 1 → ReportsLine mid new (too_long_line file LARGEST_PART_FILE)
    → RunsStage (OnlyAtStart false) (file_stage file LARGEST_PART_FILE (checked_parts file)) old new (Err status)
long_parts_refused file bytes true old mid new status kept whole is same one notice = cc
long_parts_refused file bytes false old mid new status kept whole is same one notice =
    let past : nat_le (length bytes) LARGEST_PART_FILE ≡ false = let more = whole.0 in grind (arith, nat_tests) in
    let given : checked_parts file bytes ≡ Err (too_long_line file LARGEST_PART_FILE) = rw past refl in
    search (rules, runs_read_file, runs_bad_result)

-- If a part file was read and checked, its stage completed with its parts.
pub part_file_read : (file bytes : Bytes) (ended : Bool) (old mid : DeskState) (parts : List Part)
    → ChangesRecord (with_read file bytes ended) old mid
    → EndsOrExceedsLimit LARGEST_PART_FILE (record { bytes = bytes; ended = ended }) → ended ≡ true
    → HasSameCounts old mid → ReadsUnlessOutOfMemory (parts_of bytes) (Ok parts)
    → StageCompleted (file_stage file LARGEST_PART_FILE (checked_parts file)) old mid (Produced parts)
part_file_read file bytes false old mid parts kept whole is same gives = cc
part_file_read file bytes true old mid parts kept whole is same (inl gives) =
    let given : checked_parts file bytes ≡ Ok parts =
    (search rules) ∙ ap (or_line (λ (bad : NamedFault). part_file_pieces file bad.fault)) (sym gives) in
    completed_read_file (OnlyAtStart false) file LARGEST_PART_FILE (checked_parts file) bytes true old mid parts kept whole same
    (completed_good_result (checked_parts file bytes) parts mid given)
part_file_read file bytes true old mid parts kept whole is same (inr memory) = cc

-- If a part file was read and has a fault, its stage refused it.
pub bad_parts_refused : (file bytes : Bytes) (ended : Bool) (old mid new : DeskState) (status : ℕ)
    (refused : NamedFault) → ChangesRecord (with_read file bytes ended) old mid
    → EndsOrExceedsLimit LARGEST_PART_FILE (record { bytes = bytes; ended = ended }) → ended ≡ true
    → HasSameCounts old mid → ReadsUnlessOutOfMemory (parts_of bytes) (Err refused) → status ≡ 1
    → ReportsLine mid new (error (part_file_pieces file refused.fault))
    → RunsStage (OnlyAtStart false) (file_stage file LARGEST_PART_FILE (checked_parts file)) old new (Err status)
bad_parts_refused file bytes false old mid new status refused kept whole is same gives one notice = cc
bad_parts_refused file bytes true old mid new status refused kept whole is same (inl gives) one notice =
    let given : checked_parts file bytes ≡ Err (error (part_file_pieces file refused.fault)) =
    (search rules) ∙ ap (or_line (λ (bad : NamedFault). part_file_pieces file bad.fault)) (sym gives) in
    search (rules, runs_read_file, runs_bad_result)
bad_parts_refused file bytes true old mid new status refused kept whole is same (inr memory) one notice =
    let memory_is : refused ≡ of_file Memory = cc in
    let reported_so = subst (λ r. ReportsLine mid new (error (part_file_pieces file r.fault))) memory_is notice in
    runs_file_fault (OnlyAtStart false) file LARGEST_PART_FILE (checked_parts file) file_fault.Memory old mid new status
    (bytes, true, kept) (follows_same old mid same) same one reported_so
