-- A run over the emulator with status 0: its plan was kept for the chip of its file.
use Rattle.std.proofs.Common.{◌≡◌, ◌∙◌, inl, inr, ap, sym, refl, ℕ, List, [], ◌∷◌, ◌++◌, append-nil, append_assoc, Option, None, Some, arith, rules}
use Rattle.std.proofs.lemmas.Grind.{common_steps}
use Rattle.std.proofs.lemmas.Bool.Decides.{nat_tests}
use Rattle.std.proofs.lemmas.List.Elements.{filter_map-append}
use Rattle.avr_plan.specs.declared.settings.Settings.{Settings}
use Rattle.avr_desk.proofs.FileUses.Uses.{files_used}
use Rattle.avr_io.proofs.Stages.Breaks.{openings_in, openings_shown}
use Rattle.avr_io.specs.Record.{Bytes, DeskState, ChangesRecord, Record, all_files, all_openings, with_replaced}
use Rattle.avr_io.specs.OutputEvents.{OutputEvent, Opens, after_events}
use Rattle.avr_io.specs.Stage.{Produced, StageResult, next_opening}
use Rattle.avr_io.specs.declared.record.Opening.{Opening}
use Rattle.avr_io.specs.declared.record.Opening.TheVariants.{Absent, Found}
use Rattle.avr_io.specs.declared.record.Writing.{Writing}
use Rattle.avr_part.specs.ChipFile.{chip_file}
use Rattle.avr_part.specs.Part.{Part}
use Rattle.avr_part.specs.State.{ChipState as Chip}
use Rattle.avr_tool.specs.OverFaultyLink.{EndsOverExchanges, events_over}
use Rattle.avr_tool.specs.Emulated.{IsSavedIfSent, RunsOverEmulator, new_wire}
use Rattle.avr_tool.specs.Loading.{chip_stage}
use Rattle.avr_tool.specs.Outcome.{IsExpectedRun}
use Rattle.stk_emu.specs.Effect.{Memories, memories_of}
use Rattle.stk_emu.specs.Wire.{exchanges_of_fates}
use Rattle.stk_host.specs.Dialog.{outputs}
use Rattle.stk_host.specs.Transcript.{heard, sent}
use Rattle.avr_laws.proofs.AnyWire.{came_to}
use Rattle.avr_laws.proofs.ChipFile.Found.{found, found_kept}
use Rattle.avr_laws.proofs.ChipFile.Left.{no_silence}
use Rattle.avr_laws.proofs.Held.Chip.{IsReadFrom, in_file, memories_in_file}
use Rattle.avr_laws.proofs.Outcomes.ByTasks.{made_by_tasks, tasks_agree}
use Rattle.avr_laws.proofs.Outcomes.Saved.{WritesFiles, expected_writes, reading_writes, these_saved}
use Rattle.avr_laws.proofs.Outcomes.Openings.{session_opens_none}
use Rattle.avr_laws.proofs.Plans.Given.{opened_by_uses, openings_since, went_asked}
use Rattle.avr_laws.proofs.Plans.OnlyReading.{only_reads}
use Rattle.avr_laws.specs.ChipFound.{IsChipInFile}
use Rattle.avr_laws.specs.FilesRead.{read_whole}
use Rattle.avr_laws.specs.Kept.{FilesAreSaved, named_files, dash_output, saved_files}
use Rattle.avr_laws.specs.KeptByPort.{IsKeptInFile, KeepsPlan}
use Rattle.avr_laws.specs.OnlyReading.{OnlyReadsAndPrints}

-- status 0 isn't status 1
pub zero_is_not_one : ◌≡◌ {A = ℕ} 0 1 → ⊥
zero_is_not_one e = cc

-- ---- the chip that an opening gives

-- a chip that was produced was read from this opening
gave_chip : (part : Part) (file : Bytes) (openings : List Opening) (chip : Chip)
    → (chip_stage part file openings).stage_outcome ≡ Produced chip
    → (found : Option Bytes) × ((next_opening file openings ≡ read_whole file found) × IsReadFrom part found chip)
gave_chip part file [] chip made = (None, (refl, (search rules)))
gave_chip part file (Absent name ∷ openings) chip made = (None, (refl, (search rules)))
gave_chip part file (Found reading ∷ openings) chip made =
    (Some reading.bytes, ((grind (arith, common_steps, nat_tests)), (grind (arith, common_steps, nat_tests))))

-- ---- reading changes no file

-- what only reads and reports changes no file
reads_change_no_file : (output_events : List OutputEvent) → OnlyReadsAndPrints output_events → (k : Record)
    → (all_files (after_events output_events k) ≡ all_files k) × ((after_events output_events k).output ≡ k.output)
reads_change_no_file output_events reads k =
    let writes : WritesFiles output_events [] = reading_writes output_events reads in
    (writes.created k ∙ append-nil (all_files k), writes.output k ∙ append-nil k.output)

-- ---- what was opened

-- replacing a file opens none
openings_replaced : (name bytes : Bytes) (r : Record) → all_openings (with_replaced name bytes r) ≡ all_openings r
openings_replaced name bytes r = grind (arith, nat_tests, append-nil, filter_map-append)

-- ---- with status 0 the chip is saved

-- a session that sent something has its chip saved
saved_with_zero : (out : List ℕ) (old new : DeskState) (file bytes : Bytes) (ran : ℕ) → (out ≡ [] → ran ≡ 0 → ⊥)
    → IsSavedIfSent out old new file bytes ran 0 → ChangesRecord (with_replaced file bytes) old new
saved_with_zero [] old new file bytes ran some saved = absurd (some refl (sym saved.1))
saved_with_zero (byte ∷ out) old new file bytes ran some (inl saved) = saved.0.0
saved_with_zero (byte ∷ out) old new file bytes ran some (inr failed) = absurd (zero_is_not_one failed.2)

module _ (settings : Settings) (file : Bytes) (old new : DeskState) (r : RunsOverEmulator settings file old new 0) where
  abbrev left_chip : Chip
  left_chip = r.after.wire.programmer.chip

  abbrev before : Memories
  before = memories_of r.chip

  abbrev emitted : List OutputEvent
  emitted = outputs (events_over r.plan r.after)

  abbrev files : List Writing
  files = saved_files r.plan before

  zero : r.session_status ≡ 0
  zero = search rules

  -- the session came to its end
  came : EndsOverExchanges r.plan before (memories_of left_chip) (exchanges_of_fates []) emitted r.session_status
      × ChangesRecord (after_events emitted) r.loaded_desk r.played_desk
  came = came_to r.plan (new_wire r.chip []) r.after r.loaded_desk r.played_desk r.session_status r.session zero

  -- so it is the expected run
  expected : IsExpectedRun r.plan before (memories_of left_chip) emitted r.session_status
  expected = came.0.success zero

  -- its chip's file replaced the old one
  replaced : ChangesRecord (with_replaced file (chip_file left_chip)) r.played_desk new
  replaced = saved_with_zero (sent r.after.transcript) r.played_desk new file (chip_file left_chip) r.session_status
      (no_silence r.plan r.chip r.after r.loaded_desk r.played_desk r.session_status r.runs) r.saved

  -- ---- the opening of the chip file

  abbrev opening : Opening
  opening = found r.plan.part file r.loaded.held_desk r.loaded_desk r.chip r.loaded.loaded

  -- what the opening gave is what the chip was read from
  opening_read : (found : Option Bytes) × ((opening ≡ read_whole file found) × IsChipInFile r.plan.part found r.chip)
  opening_read =
      let read = gave_chip r.plan.part file (r.loaded.loaded.passed ++ []) r.chip
      (ap (λ (p : StageResult Chip). p.stage_outcome) (r.loaded.loaded.comes [])) in
      (read.0, (read.1.0, in_file r.plan.part read.0 r.chip read.1.1))

  -- loading opened the chip file once
  loaded_by_opening : r.loaded_desk.kept ≡ after_events (Opens opening ∷ []) r.loaded.held_desk.kept
  loaded_by_opening = found_kept r.plan.part file r.loaded.held_desk r.loaded_desk r.chip r.loaded.loaded

  -- the session opened none
  session_opens_no_file : openings_in emitted ≡ []
  session_opens_no_file = session_opens_none r.plan 1 (heard r.after.transcript)

  abbrev plan_files : List Opening
  plan_files = openings_in r.made.output_events

  -- the run opened the plan's files, and then the chip file
  opened : all_openings new.kept ≡ all_openings old.kept ++ (plan_files ++ read_whole file opening_read.0 ∷ [])
  opened =
      ap all_openings replaced
      ∙ (openings_replaced file (chip_file left_chip) r.played_desk.kept
      ∙ (ap all_openings came.1
      ∙ (openings_shown emitted r.loaded_desk.kept
      ∙ (ap (λ (os : List Opening). all_openings r.loaded_desk.kept ++ os) session_opens_no_file
      ∙ (append-nil (all_openings r.loaded_desk.kept)
      ∙ (ap all_openings loaded_by_opening
      ∙ (openings_shown (Opens opening ∷ []) r.loaded.held_desk.kept
      ∙ (ap (λ (k : Record). all_openings k ++ opening ∷ []) r.loaded.held.0
      ∙ (ap (λ (o : Opening). all_openings r.planned_desk.kept ++ o ∷ []) opening_read.1.0
      ∙ (ap (λ (os : List Opening). os ++ read_whole file opening_read.0 ∷ [])
      (openings_since old r.planned_desk r.made.output_events r.made.kept)
      ∙ append_assoc (all_openings old.kept) plan_files (read_whole file opening_read.0 ∷ [])))))))))))

  -- ---- the files that memories were read into

  -- planning only read and reported
  planned_read : OnlyReadsAndPrints r.made.output_events
  planned_read = search (rules, only_reads settings (r.made.passed ++ []))

  -- until the session nothing was created or put out
  until_then : (all_files r.loaded_desk.kept ≡ all_files old.kept) × (r.loaded_desk.kept.output ≡ old.kept.output)
  until_then =
      let first = reads_change_no_file r.made.output_events planned_read old.kept in
      search (rules, reads_change_no_file, loaded_by_opening)

  -- the session saved its files
  session_saved : FilesAreSaved files r.loaded_desk.kept r.played_desk.kept
  session_saved = grind (arith, these_saved, expected_writes)

  -- so the run did
  saved : FilesAreSaved files old.kept r.played_desk.kept
  saved = record {
    created = session_saved.created ∙ ap (λ (first : List Writing). first ++ named_files files)
        (files_used r.loaded_desk.kept ∙ (until_then.0 ∙ sym (files_used old.kept)));
    output = session_saved.output ∙ ap (λ (bytes : Bytes). bytes ++ dash_output files) until_then.1;
  }

  -- ---- so the plan was kept

  -- the plan was kept for the chip that was found
  pub file_kept : (found : Option Bytes) × KeepsPlan settings old.kept new.kept (read_whole file found ∷ [])
      (λ plan. IsKeptInFile file found plan old.kept new.kept)
  file_kept = (
    opening_read.0,
    (
      r.plan,
      plan_files,
      opened_by_uses old.kept new.kept (plan_files ++ read_whole file opening_read.0 ∷ []) opened,
      went_asked settings r.plan old r.planned_desk r.made,
      record {
        before = before;
        after = memories_of left_chip;
        ended = r.played_desk.kept;
        was = memories_in_file r.plan.part opening_read.0 r.chip opening_read.1.1;
        keeps = record {
          made = made_by_tasks r.plan before (memories_of left_chip) (came.0.done zero);
          agrees = tasks_agree r.plan before (came.0.done zero).agrees;
          images = came.0.images zero;
          saved = saved;
        };
        saved = replaced;
      },
    ),
  )
