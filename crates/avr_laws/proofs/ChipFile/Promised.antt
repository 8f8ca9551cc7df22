-- A run over the emulator with status 0 leaves the images that the settings and files ask for in the chip file.
use Rattle.std.proofs.Common.{◌≡◌, ◌∙◌, ap, subst, sym, refl, List, [], ◌++◌, false, rules}
use Rattle.avr_plan.specs.declared.settings.Settings.{Settings}
use Rattle.avr_desk.proofs.FileUses.Uses.{files_used}
use Rattle.avr_desk.specs.Memory.{MemDeskState, Stock, memory_state, content_of_name}
use Rattle.avr_io.specs.Named.{is_dash, newest}
use Rattle.avr_io.specs.Record.{Bytes, ChangesRecord, Record, all_files, nothing_kept}
use Rattle.avr_io.specs.OutputEvents.{after_events}
use Rattle.avr_io.specs.Stage.{Produced, NotReadToEnd, StageOutcome, StageResult}
use Rattle.avr_desk.specs.Truth.{HoldsTrue}
use Rattle.avr_io.specs.declared.record.Writing.{Writing}
use Rattle.avr_tool.specs.Emulated.{RunsOverEmulator}
use Rattle.avr_tool.proofs.Plans.Items.{items_by_tasks}
use Rattle.avr_tool.specs.OverFaultyLink.{EndsOverExchanges, events_over}
use Rattle.avr_tool.specs.Outcome.{IsExpectedRun}
use Rattle.avr_part.specs.ChipFile.{chip_file}
use Rattle.avr_laws.proofs.Plans.Given.{seen_asked}
use Rattle.avr_laws.specs.AskedPlan.{FileHolds, IsAsked}
use Rattle.avr_laws.specs.FilesRead.{AreTrueOpenings}
use Rattle.avr_plan.specs.Plan.{Plan}
use Rattle.stk_emu.specs.Effect.{memories_of}
use Rattle.stk_emu.specs.Wire.{exchanges_of_fates}
use Rattle.stk_host.specs.Dialog.{outputs}
use Rattle.stk_host.specs.Transcript.{sent}
use Rattle.avr_laws.proofs.ChipFile.Found.{chip_found, loaded_files, planned_true}
use Rattle.avr_laws.proofs.ChipFile.Others.{stood_named, stood_saved}
use Rattle.avr_laws.proofs.Outcomes.ByTasks.{tasks_agree}
use Rattle.avr_laws.proofs.Outcomes.Saved.{expected_writes, these_saved}
use Rattle.avr_laws.proofs.ChipFile.Left.{chip_left}
use Rattle.avr_laws.proofs.KnownFiles.SeenFiles.{seen}
use Rattle.avr_laws.specs.ChipFound.{IsChipInFile, contents_held}
use Rattle.avr_laws.specs.Kept.{FilesAreSaved, named_files, saved_files}
use Rattle.avr_laws.specs.Promise.{Promised}

module _ (settings : Settings) (file : Bytes) (stock : Stock) (old new : MemDeskState) (no_dash : is_dash file ≡ false)
    (unused : old.kept ≡ nothing_kept) (holds : HoldsTrue stock new)
    (r : RunsOverEmulator settings file (memory_state old) (memory_state new) 0) where
  -- the plan is the one that the settings and files ask for
  asked : IsAsked settings (FileHolds (content_of_name stock [])) [] r.plan
  asked =
      let verdict : ◌≡◌ {A = StageOutcome Plan} (Produced r.plan) NotReadToEnd → ⊥ = λ e. cc in
      let true_openings : AreTrueOpenings stock r.made.output_events =
      seen settings stock (memory_state old) r.planned_desk (Produced r.plan) unused
      (planned_true settings file stock old new 0 holds r) verdict r.made in
      seen_asked stock settings (r.made.passed ++ []) r.plan
      (subst (λ (p : StageResult Plan). AreTrueOpenings stock p.output_events) (sym (r.made.comes [])) true_openings)
      (ap (λ (p : StageResult Plan). p.stage_outcome) (r.made.comes []))

  -- the session's status is 0, too
  zero : r.session_status ≡ 0
  zero = search rules

  -- the session came to its end
  ended_over_exchanges : EndsOverExchanges r.plan (memories_of r.chip) (memories_of r.after.wire.programmer.chip)
      (exchanges_of_fates []) (outputs (events_over r.plan r.after)) r.session_status
      × ChangesRecord (after_events (outputs (events_over r.plan r.after))) r.loaded_desk r.played_desk
  ended_over_exchanges = search rules

  -- so it is the expected run
  expected : IsExpectedRun r.plan (memories_of r.chip) (memories_of r.after.wire.programmer.chip)
      (outputs (events_over r.plan r.after)) r.session_status
  expected = ended_over_exchanges.0.success zero

  -- the files that its memories were read into
  abbrev files : List Writing
  files = saved_files r.plan (memories_of r.chip)

  -- these files were saved
  files_saved : FilesAreSaved files r.loaded_desk.kept r.played_desk.kept
  files_saved = search (rules, these_saved, expected_writes r.plan (memories_of r.chip) (sym expected.status_is ∙ zero))

  -- they are all files that were made
  created : all_files r.played_desk.kept ≡ named_files files
  created =
      sym (files_used r.played_desk.kept)
      ∙ (files_saved.created
      ∙ ap (λ (before : List Writing). before ++ named_files files)
      (files_used r.loaded_desk.kept ∙ (loaded_files settings file stock old new 0 holds r ∙ ap all_files unused)))

  -- other names mean these files, or what they meant before
  kept : (name : Bytes) → (name ≡ file → ⊥)
      → contents_held stock new.kept name ≡ newest name (content_of_name stock [] name) (named_files files)
  kept name differs =
      stood_saved stock (sent r.after.transcript) r.played_desk (memory_state new) file
      (chip_file r.after.wire.programmer.chip) r.session_status name differs r.saved
      ∙ (ap (λ (made : List Writing). content_of_name stock made name) created ∙ stood_named stock files name)

  -- so all that is promised holds
  pub promised : Promised settings file (content_of_name stock []) (contents_held stock new.kept)
  promised = record {
    plan = r.plan;
    asked = asked;
    chip = r.chip;
    left = r.after.wire.programmer.chip;
    was = subst (λ (kept : Record). IsChipInFile r.plan.part (contents_held stock kept file) r.chip) unused
        (chip_found settings file stock old new 0 holds r);
    is = chip_left settings file stock old new 0 no_dash refl r;
    made = search (rules, items_by_tasks);
    agrees = tasks_agree r.plan (memories_of r.chip) (ended_over_exchanges.0.done zero).agrees;
    images = ended_over_exchanges.0.images zero;
    others = kept;
  }
