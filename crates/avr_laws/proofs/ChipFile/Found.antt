-- A run over the emulator finds the chip of its file, and leaves it there.
use Rattle.std.proofs.Common.{◌≡◌, ◌∙◌, ap, ℕ, List, [], ◌∷◌, ◌++◌, append_assoc, rules, arith}
use Rattle.std.proofs.lemmas.Grind.{common_steps}
use Rattle.std.proofs.lemmas.List.Elements.{filter_map-append}
use Rattle.avr_tool.specs.Loading.{chip_stage}
use Rattle.avr_plan.specs.declared.settings.Settings.{Settings}
use Rattle.avr_desk.proofs.Desks.InMemory.{all_true, true_behind}
use Rattle.avr_desk.proofs.FileUses.Uses.{files_absent, files_used}
use Rattle.avr_desk.specs.Memory.{MemDeskState, Stock, memory_state}
use Rattle.avr_io.specs.StageRuns.{StageCompleted}
use Rattle.avr_io.specs.Record.{Bytes, DeskState, all_files, all_uses, files_among}
use Rattle.avr_io.specs.OutputEvents.{after_opening}
use Rattle.avr_io.specs.Stage.{Produced, next_opening}
use Rattle.avr_desk.specs.Truth.{OpeningsAreTrue, HoldsTrue, IsTrueOpening}
use Rattle.avr_io.specs.declared.record.FileUse.{FileUse}
use Rattle.avr_io.specs.declared.record.FileUse.TheVariants.{Opened, Created}
use Rattle.avr_io.specs.declared.record.Opening.{Opening}
use Rattle.avr_io.specs.declared.record.Writing.{Writing}
use Rattle.avr_tool.specs.Emulated.{RunsOverEmulator}
use Rattle.avr_part.specs.Part.{Part}
use Rattle.avr_part.specs.State.{ChipState as Chip}
use Rattle.avr_laws.proofs.Held.Chip.{IsReadFrom, in_file}
use Rattle.avr_laws.proofs.Plans.OnlyReading.{only_reads}
use Rattle.avr_laws.proofs.KnownFiles.PastUses.{ArePast, none_made, only_opened, opened, opened_past, past_shown, run_past, saved_past}
use Rattle.avr_laws.specs.ChipFound.{IsChipInFile, contents_held}

-- ---- the chip that is loaded

-- the next opening is the chip's
module _ (part : Part) (file : Bytes) (old new : DeskState) (chip : Chip)
    (went : StageCompleted (chip_stage part file) old new (Produced chip)) where
  abbrev pub found : Opening
  found = next_opening file (went.passed ++ [])

  -- the record has this opening
  pub found_kept : new.kept ≡ after_opening found old.kept
  found_kept = search rules

-- ---- a run

-- the first uses were true by themselves
true_front : (stock : Stock) (made : List Writing) (first last : List FileUse) → OpeningsAreTrue stock made (first
    ++ last) → OpeningsAreTrue stock made first
true_front stock made [] last are = tt
true_front stock made (Opened opening ∷ first) last are = (are.0, true_front stock made first last are.1)
true_front stock made (Created file ∷ first) last are = true_front stock (made ++ file ∷ []) first last are

module _ (settings : Settings) (file : Bytes) (stock : Stock) (old new : MemDeskState) (status : ℕ)
    (holds : HoldsTrue stock new)
    (r : RunsOverEmulator settings file (memory_state old) (memory_state new) status) where
  -- the openings before the chip's file
  earlier_openings : (openings : List Opening) × (all_uses r.planned_desk.kept ≡ all_uses old.kept ++ opened openings)
  earlier_openings = search (
    rules,
    only_opened r.made.output_events old.kept (search (rules, only_reads settings (r.made.passed ++ []))),
  )

  abbrev first_uses : List FileUse
  first_uses = all_uses old.kept ++ opened earlier_openings.0

  abbrev opening : Opening
  opening = found r.plan.part file r.loaded.held_desk r.loaded_desk r.chip r.loaded.loaded

  -- they stay the first uses while the session runs
  played_past : ArePast (first_uses ++ Opened opening ∷ []) r.played_desk.kept
  played_past = run_past (first_uses ++ Opened opening ∷ []) _ _ _ _ _ r.session_status r.runs (search (
    rules,
    opened_past opening r.loaded.held_desk.kept,
  ))

  -- and until the run ends
  later : (more : List FileUse) × (all_uses new.kept ≡ (first_uses ++ Opened opening ∷ []) ++ more)
  later = past_shown (first_uses ++ Opened opening ∷ []) new.kept
      (saved_past (first_uses ++ Opened opening ∷ []) _ r.played_desk (memory_state new) file _ r.session_status status
      r.saved played_past)

  -- none of the first uses creates a file
  first_files : files_among first_uses ≡ all_files old.kept
  first_files = search (rules, filter_map-append, none_made)

  -- until the session begins nothing is created
  pub loaded_files : all_files r.loaded_desk.kept ≡ all_files old.kept
  loaded_files = ap all_files (found_kept r.plan.part file r.loaded.held_desk r.loaded_desk r.chip r.loaded.loaded)
      ∙ (search (rules, files_absent, files_used, first_files))

  -- all uses were true
  each_true : OpeningsAreTrue stock [] (first_uses ++ Opened opening ∷ later.0)
  each_true = search (rules, append_assoc, all_true, later.1)

  -- so were all uses when the plan was made
  pub planned_true : OpeningsAreTrue stock [] (all_uses r.planned_desk.kept)
  planned_true = search (rules, true_front, each_true)

  -- its opening was true by the files before the run
  is_true : IsTrueOpening stock (all_files old.kept) opening
  is_true = search (rules, true_behind stock [] first_uses (Opened opening ∷ later.0) each_true, each_true, first_files)

  -- the chip was read from what the file held before the run
  pub chip_read : IsReadFrom r.plan.part (contents_held stock old.kept file) r.chip
  chip_read = grind (arith, common_steps, is_true)

  -- so it is the chip in that file
  pub chip_found : IsChipInFile r.plan.part (contents_held stock old.kept file) r.chip
  chip_found = in_file r.plan.part (contents_held stock old.kept file) r.chip chip_read
