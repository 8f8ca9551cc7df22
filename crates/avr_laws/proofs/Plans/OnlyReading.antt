-- Planning only reads and reports, stage by stage.
use Rattle.std.proofs.Common.{ℕ, List, [], ◌∷◌, ◌++◌, Result, rules, arith}
use Rattle.avr_plan.specs.declared.settings.Settings.{Settings}
use Rattle.avr_io.specs.declared.record.Opening.{Opening}
use Rattle.avr_io.specs.Record.{Bytes}
use Rattle.avr_io.specs.OutputEvents.{OutputEvent, Opens, PrintsLine}
use Rattle.avr_laws.proofs.Limits.{LARGEST_IMAGE_FILE, LARGEST_PART_FILE}
use Rattle.avr_laws.proofs.Plans.EachStage.{whole_plan}
use Rattle.avr_laws.specs.OnlyReading.{OnlyReadsAndPrints}
use Rattle.avr_plan.specs.Planning.{checked_parts, checked_image, planned}
use Rattle.avr_io.specs.Stage.{Stage, StageOutcome, Refused, events_with_refusal, all_events_of, continued_stage, file_stage}

-- a stage that only reads and reports
abbrev Reads : {A : Type 0} → Stage A → Type 0
Reads stage = (openings : List Opening) → OnlyReadsAndPrints (stage openings).output_events

-- one output after the other
all_read : (xs ys : List OutputEvent) → OnlyReadsAndPrints xs → OnlyReadsAndPrints ys → OnlyReadsAndPrints (xs ++ ys)
all_read [] ys first second = second
all_read (Opens opening ∷ xs) ys first second = all_read xs ys first second
all_read (PrintsLine bytes ∷ xs) ys first second = all_read xs ys first second
all_read (event ∷ xs) ys first second = absurd first

-- a stage that goes on after another
reads_onward : {A B : Type 0} (output_events : List OutputEvent) (openings_left : List Opening) (go_on : A
    → Stage B) (stage_outcome : StageOutcome A) → OnlyReadsAndPrints output_events → ((a : A) → Reads (go_on a))
    → OnlyReadsAndPrints (continued_stage output_events openings_left go_on stage_outcome).output_events
reads_onward output_events openings_left go_on stage_outcome f g = grind (arith, all_read)

-- a stage that reads a file
file : {A : Type 0} (name : Bytes) (limit : ℕ) (judge : Bytes → Result A Bytes) → Reads (file_stage name limit judge)
file name limit judge = search rules

-- so it is for planning as a whole
reads_plan : (s : Settings) → Reads (planned s)
reads_plan = whole_plan (λ A stage names. Reads {A = A} stage) (λ A result. (search rules))
    (λ s name ending openings. (search rules))
    (λ name. file name LARGEST_PART_FILE (checked_parts name))
    (λ name kind size. file name LARGEST_IMAGE_FILE (checked_image name kind size))
    (λ A B stage go_on first back f g. (search (rules, reads_onward)))

-- so is the line of a refusal
refused_so : {A : Type 0} (output_events : List OutputEvent) (stage_outcome : StageOutcome A)
    → OnlyReadsAndPrints output_events → OnlyReadsAndPrints (events_with_refusal output_events stage_outcome)
refused_so output_events (Refused line) reads = all_read output_events (PrintsLine line ∷ []) reads tt
refused_so output_events stage_outcome reads = reads

pub only_reads : (s : Settings) (openings : List Opening) → OnlyReadsAndPrints (all_events_of (planned s openings))
only_reads s openings = search (rules, refused_so, reads_plan)
