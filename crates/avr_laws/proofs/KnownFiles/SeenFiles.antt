-- What planning saw of the files was so before the run.
use Rattle.std.proofs.Common.{◌≡◌, ◌∙◌, ap, refl, List, [], ◌∷◌, ◌++◌, append-nil, rules}
use Rattle.avr_plan.specs.declared.settings.Settings.{Settings}
use Rattle.avr_io.proofs.Stages.Breaks.{openings_in, openings_shown}
use Rattle.avr_desk.proofs.FileUses.Uses.{absent_used, files_used, openings_used, files_opened, files_absent}
use Rattle.avr_desk.specs.Memory.{Stock}
use Rattle.avr_io.specs.StageRuns.{StageCompleted}
use Rattle.avr_io.specs.Record.{after_err, DeskState, Record, all_files, all_openings, all_uses, files_among, nothing_kept, openings_among}
use Rattle.avr_io.specs.OutputEvents.{OutputEvent, Opens, PrintsLine, after_events, after_opening}
use Rattle.avr_io.specs.Stage.{StageOutcome, NotReadToEnd, events_with_refusal}
use Rattle.avr_desk.specs.Truth.{OpeningsAreTrue, IsTrueOpening}
use Rattle.avr_io.specs.declared.record.FileUse.{FileUse}
use Rattle.avr_io.specs.declared.record.FileUse.TheVariants.{Opened, Created}
use Rattle.avr_io.specs.declared.record.Opening.{Opening}
use Rattle.avr_laws.proofs.Plans.OnlyReading.{only_reads}
use Rattle.avr_laws.specs.FilesRead.{AreTrueOpenings}
use Rattle.avr_laws.specs.OnlyReading.{OnlyReadsAndPrints}
use Rattle.avr_plan.specs.Plan.{Plan}
use Rattle.avr_plan.specs.Planning.{planned}

-- ---- the files were seen as they were before the run

-- each of these openings was true before any file was made
abbrev AreOpened : Stock → List Opening → Type 0
AreOpened stock [] = Unit {0}
AreOpened stock (opening ∷ openings) = IsTrueOpening stock [] opening × AreOpened stock openings

-- the openings among these uses, if no file was made
opened_uses : (stock : Stock) (uses : List FileUse) → files_among uses ≡ [] → OpeningsAreTrue stock [] uses
    → AreOpened stock (openings_among uses)
opened_uses stock [] none are = tt
opened_uses stock (Opened opening ∷ uses) none are = (are.0, opened_uses stock uses none are.1)
opened_uses stock (Created file ∷ uses) none are = absurd (cc)

-- the openings among these output events
seen_outputs : (stock : Stock) (output_events : List OutputEvent) → AreOpened stock (openings_in output_events)
    → AreTrueOpenings stock output_events
seen_outputs stock [] are = tt
seen_outputs stock (Opens opening ∷ output_events) are = (are.0, seen_outputs stock output_events are.1)
seen_outputs stock (event ∷ output_events) are = seen_outputs stock output_events are

-- reading and reporting make no file
reads_make_none : (output_events : List OutputEvent) (r : Record) → OnlyReadsAndPrints output_events
    → all_files (after_events output_events r) ≡ all_files r
reads_make_none [] r reads = refl
reads_make_none (Opens opening ∷ output_events) r reads = reads_make_none output_events (after_opening opening r) reads
    ∙ search (rules, absent_used, files_used, append-nil, files_opened, files_absent)
reads_make_none (PrintsLine bytes ∷ output_events) r reads = reads_make_none output_events (after_err bytes r) reads
reads_make_none (event ∷ output_events) r reads = absurd reads

-- ---- planning

module _ (settings : Settings) (stock : Stock) (old m : DeskState) (stage_outcome : StageOutcome Plan)
    (unused : old.kept ≡ nothing_kept) (are : OpeningsAreTrue stock [] (all_uses m.kept))
    (verdict : stage_outcome ≡ NotReadToEnd → ⊥) (went : StageCompleted (planned settings) old m stage_outcome) where
  -- what planning puts out, with the line of a refusal
  abbrev notice : List OutputEvent
  notice = events_with_refusal went.output_events stage_outcome

  -- planning only reads and reports
  only_read : OnlyReadsAndPrints notice
  only_read = search (rules, only_reads settings (went.passed ++ []))

  kept_is : m.kept ≡ after_events notice nothing_kept
  kept_is = went.kept ∙ ap (after_events notice) unused

  -- so it made no file
  no_files : all_files m.kept ≡ []
  no_files = ap all_files kept_is ∙ reads_make_none notice nothing_kept only_read

  -- its openings are those in the record
  opened : all_openings m.kept ≡ openings_in notice
  opened = ap all_openings kept_is ∙ openings_shown notice nothing_kept

  -- what it saw is what the files held before the run
  pub seen : AreTrueOpenings stock notice
  seen = search (rules, seen_outputs, openings_used, opened, opened_uses, files_used, no_files)
