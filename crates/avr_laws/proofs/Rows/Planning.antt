-- The limits of files. Then when allocation may fail with no file open. Then wrong ends, which the contract refuses.
-- One plan writes the file `x.hex` to flash, at a desk that shows no opened file. The other is for a part that doesn't
-- exist.
use Rattle.std.proofs.Common.{◌≡◌, ◌∙◌, ap, arith, ℕ, ◌+◌, ◌<◌, ◌-◌, ◌^◌, ◌⊎◌, inl, inr, List, [], ◌∷◌, ◌++◌, take, get_or, append-nil, refl, true, false, Option, Some, None, Ok, Err, rules}
use Rattle.std.specs.Prelude.{codes}
use Rattle.avr_plan.specs.Settings.{switches_of}
use Rattle.avr_plan.specs.declared.settings.Port.TheVariants.{Stdio}
use Rattle.avr_plan.specs.declared.settings.Settings.{Settings}
use Rattle.avr_plan.specs.declared.update.Format.TheVariants.{Ihex, Immediate}
use Rattle.avr_plan.specs.declared.update.Op.TheVariants as op
use Rattle.avr_plan.specs.declared.update.Update.{Update}
use Rattle.ghosts.specs.Failures.{NoFailureCounted}
use Rattle.avr_io.specs.Record.{DeskState, Record, after_err, showing, Bytes}
use Rattle.avr_io.specs.declared.record.Opening.{Opening}
use Rattle.avr_io.specs.declared.record.Opening.TheVariants.{Found}
use Rattle.avr_io.specs.Lines.{error, memory_line, not_opened_line}
use Rattle.avr_io.specs.OutputEvents.{OutputEvent, Opens, PrintsLine, ReportsLineAs, ReportsFailureAs, after_events}
use Rattle.avr_part.specs.BuiltIn.{m328p}
use Rattle.avr_part.specs.declared.part.Mem.TheVariants.{Eeprom, Flash}
use Rattle.avr_records.specs.declared.kind.Ending.{Ending}
use Rattle.avr_laws.proofs.Limits.{LARGEST_IMAGE_FILE, LARGEST_PART_FILE}
use Rattle.avr_plan.specs.Lines.{no_part_pieces}
use Rattle.avr_plan.specs.Plan.{Plan}
use Rattle.avr_plan.specs.Planning.{planned, file_image_stage, checked_image}
use Rattle.avr_plan.specs.AllocationPoints.{AtAllocatingUpdate, op_allocates}
use Rattle.avr_io.specs.StageRuns.{OnlyAtStart, RunsStage}
use Rattle.avr_io.specs.Stage.{Stage, Produced, Refused, result_stage, file_stage, ◌>>=◌}
use Rattle.avr_plan.specs.declared.planned.Task.{Task}
use Rattle.avr_plan.specs.declared.planned.Task.TheVariants.{Write}
use Rattle.avr_io.proofs.Stages.Breaks.{Begins, begins_then, begins_file, unopened, opened_is_reported, ReportsOne, refused_once}

-- the limits of an image's file and of a part file
limits : (LARGEST_IMAGE_FILE ≡ 4194304) × (LARGEST_PART_FILE ≡ 65536)
limits = (refl, refl)

-- the file of the plan's update
abbrev file : Bytes
file = codes "x.hex"

abbrev other : Bytes
other = codes "y.hex"

-- half of its line
abbrev half : Bytes
half = take 30 (not_opened_line file)

-- an update by this file
abbrev of_file : Update
of_file = record { memory = Flash; op = op.Write; format = Ihex; file = file }

-- an update by a value
abbrev of_values : Update
of_values = record { memory = Eeprom; op = op.Write; format = Immediate; file = codes "1" }

-- the settings
abbrev wanted : Settings
wanted = record {
  part = codes "m328p";
  port = Stdio;
  parts = None;
  updates = of_file ∷ [];
  switches = switches_of [];
}

-- it begins by opening that file

abbrev task : Stage Task
task = file_image_stage (switches_of []) file Ihex 32768 >>= λ image. result_stage (Ok (Write Flash image))

abbrev tasks : Stage (List Task)
tasks = task >>= λ first. result_stage (Ok (first ∷ []))

-- planning begins by opening the file
opening : Begins file (planned wanted)
opening =
    begins_then file tasks (λ all. result_stage (Ok (record { part = m328p; tasks = all; switches = switches_of [] })))
    (begins_then file task (λ first. result_stage (Ok (first ∷ []))) (search (rules, begins_then, begins_file)))

-- a line and a text that differ at this place
differs : (place : ℕ) (line notice : Bytes) (old new : DeskState)
    → ((back : Bytes) → get_or (notice ++ back) place 0 ≡ get_or line place 0 → ⊥) → ReportsLineAs line notice old new
    → ⊥
differs place line notice old new apart (inl whole) =
    apart [] (ap (λ (bytes : Bytes). get_or bytes place 0) (append-nil notice ∙ whole.0))
differs place line notice old new apart (inr part) = search rules

-- ---- when it allocates with no file open

-- a single update is the one that is due
only_due : (u due : Update) (done more : List Update) → u ∷ [] ≡ done ++ due ∷ more → due ≡ u
only_due u due [] more is = cc
only_due u due (x ∷ []) more is = let none : [] ≡ due ∷ more = cc in absurd (cc)
only_due u due (x ∷ y ∷ done) more is = let none : [] ≡ y ∷ (done ++ due ∷ more) = cc in absurd (cc)

-- the same settings, with values for EEPROM before the file: before anything, but not after the file
abbrev mixed : Settings
mixed = record wanted { updates = of_values ∷ of_file ∷ [] }

-- before it allocates for the values nothing was opened
begins_mixed : (passed : List Opening) (emitted : List OutputEvent) (done : List Update) (due : Update)
    (more : List Update)
    (made : Plan) → of_values ∷ of_file ∷ [] ≡ done ++ due ∷ more → op_allocates due due.op ≡ true
    → planned (record mixed { updates = done }) passed ≡ record {
      output_events = emitted;
      stage_outcome = Produced made;
      openings_left = [];
    } → (passed ≡ []) × (emitted ≡ [])
begins_mixed passed emitted [] due more made is allocates planned_so = search rules
begins_mixed passed emitted (x ∷ done) due more made is allocates planned_so = search (rules, only_due)

-- so it is at each such moment
takes_first : (passed : List Opening) (emitted : List OutputEvent) → AtAllocatingUpdate mixed passed emitted
    → (passed ≡ []) × (emitted ≡ [])
takes_first passed emitted at =
    let it = at.point in
    begins_mixed passed emitted it.done it.due it.more it.made it.updates_are it.allocates it.is_made

-- values alone, and a part file: not before that was opened
abbrev parted : Settings
parted = record wanted { parts = Some other; updates = of_values ∷ [] }

takes_behind_parts : (passed : List Opening) → AtAllocatingUpdate parted passed [] → ⊥
takes_behind_parts passed at = search rules

module _ (r : Record) (k l m n status : ℕ) where
  -- the messages grew by this, and the status is that of a refusal
  abbrev Ends : Bytes → Type 0
  Ends notice = RunsStage (AtAllocatingUpdate wanted) (planned wanted) (showing r k m) (showing (after_err notice r) l
      n) (Err status)

  abbrev ReportedAs : Bytes → Type 0
  ReportedAs notice = ReportsFailureAs (not_opened_line file) notice (showing r k m) (showing (after_err notice r) l n)

  notice_by : (notice : Bytes) → Ends notice → ReportedAs notice
  notice_by notice ends = of_file_alone (unopened (AtAllocatingUpdate wanted) file notice (planned wanted) opening r k l
      m n status ends)
    where
      of_file_alone : ReportedAs notice ⊎ (ReportsLineAs memory_line notice (showing r k m)
          (showing (after_err notice r) l n) × ((passed : List Opening) × AtAllocatingUpdate wanted passed []))
          → ReportedAs notice
      of_file_alone (inl failure) = failure
      of_file_alone (inr memory) = absurd (search (rules, only_due))

  -- a failed allocation, before the file was opened
  memory_first : Ends memory_line → ⊥
  memory_first ends = search (rules, notice_by)

  -- the line of another file, whatever failed
  another_file : Ends (not_opened_line other) → ⊥
  another_file ends = search (rules, notice_by)

  -- a second line after its own
  second_line : Ends (not_opened_line file ++ memory_line) → ⊥
  second_line ends = search (rules, notice_by)

  -- half a line, though the desk took all
  half_a_line : l ≡ k + 1 → l < 2 ^ 64 - 1 → Ends half → ⊥
  half_a_line one few ends = search (rules, notice_by)

  -- no message, if the desk has not failed
  reported_silence : RunsStage (AtAllocatingUpdate wanted) (planned wanted) (showing r k m) (showing r l n) (Err status)
      → ReportedAs []
  reported_silence ends = search (rules, notice_by)

  -- no message, though no failure was counted
  silence : NoFailureCounted k l → RunsStage (AtAllocatingUpdate wanted) (planned wanted) (showing r k m)
      (showing r l n) (Err status) → ⊥
  silence sound ends = search (rules, reported_silence)

  silence_behind_a_file : NoFailureCounted m n → RunsStage (AtAllocatingUpdate wanted) (planned wanted) (showing r k m)
      (showing r l n) (Err status) → ⊥
  silence_behind_a_file sound ends = search (rules, reported_silence)

  half_behind_a_file : NoFailureCounted m n → Ends half → ⊥
  half_behind_a_file sound ends = search (rules, notice_by)

  -- the line of a file that was opened, read to its end and good
  opened_well : (bytes : Bytes) (good : List (Option ℕ) × Ending) → checked_image file Ihex 32768 bytes ≡ Ok good
      → RunsStage (OnlyAtStart false) (file_stage file 4194304 (checked_image file Ihex 32768)) (showing r k m)
      (showing (after_events (Opens (Found (record { name = file; bytes = bytes; ended = true }))
      ∷ PrintsLine (not_opened_line file) ∷ []) r) l n) (Err status)
      → ⊥
  opened_well bytes good given ends = differs 15 memory_line (not_opened_line file) (showing r k m) (showing r l n)
      (λ back is. let e : ◌≡◌ {A = ℕ} 120 111 = is in omega (arith, e))
      (search (rules, opened_is_reported))

-- ---- a refusal is reported last

-- the same settings, but for a part that doesn't exist
abbrev lacking : Settings
lacking = record wanted { part = codes "t99" }

abbrev refusal : Bytes
refusal = error (no_part_pieces (codes "t99"))

-- planning is refused, and opens nothing
lacks : (openings : List Opening) → planned lacking openings
    ≡ record { output_events = []; stage_outcome = Refused refusal; openings_left = openings }
lacks openings = refl

module _ (r : Record) (k l m n status : ℕ) where
  -- a failed allocation, after the line of the refusal
  refused_twice : ReportsOne refusal (refusal ++ memory_line) (planned lacking) lacks (AtAllocatingUpdate lacking) r k l
      m n → ⊥
  refused_twice x0 = search rules

  -- so two faults are never reported
  two_faults : RunsStage (AtAllocatingUpdate lacking) (planned lacking) (showing r k m)
      (showing (after_err (refusal ++ memory_line) r) l n) (Err status) → ⊥
  two_faults ends = refused_twice (search (rules, refused_once))
