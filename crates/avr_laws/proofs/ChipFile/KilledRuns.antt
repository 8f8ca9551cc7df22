-- Which bytes a run tries to put under the name of its chip file.
use Rattle.std.proofs.Common.{◌≡◌, ◌⊎◌, ◌∙◌, refl, inl, inr, arith, rules, ℕ, List, [], ◌∷◌, Option, None, Some, Ok, Err}
use Rattle.std.specs.Prelude.{MatchOption}
use Rattle.std.specs.declared.io.Read.{Ghosts as Reads}
use Rattle.std.specs.declared.io.Write.{Ghosts as Writes}
use Rattle.avr_plan.specs.declared.settings.Settings.{Settings}
use Rattle.avr_io.specs.StageRuns.{RunsStage, AllocationPoints, StageCompleted}
use Rattle.avr_io.specs.Record.{Bytes, DeskState, Record}
use Rattle.avr_io.specs.Lines.{error}
use Rattle.avr_io.specs.OutputEvents.{OutputEvent, ReportsLine, after, after_events}
use Rattle.avr_desk.specs.Shown.{IsNewDesk, Shown, RecordsAll, system_desk_view}
use Rattle.avr_io.specs.Stage.{Stage, StageOutcome}
use Rattle.avr_desk.specs.declared.file_system.FileSystem.{Ghosts}
use Rattle.avr_io.specs.declared.record.Writing.{Writing}
use Rattle.avr_tool.specs.Emulated.{RunsEmulator, TakesChip}
use Rattle.avr_tool.specs.Holding.{LocksAndLoads, LoadsLocked}
use Rattle.avr_laws.specs.Killed.{LeavesOldOrNew, chip_file_of_part, chip_file_of_run, chip_file_of_server}
use Rattle.avr_tool.specs.ServedRun.{RunsServedFor, ServesPart, end_pieces}
use Rattle.avr_part.specs.Part.{Part}
use Rattle.avr_plan.specs.Plan.{Plan}
use Rattle.avr_part.specs.State as chips
use Rattle.avr_session.specs.Runs.{Devices, devices}
use Rattle.stk_host.specs.Transcript.{LinkState}

-- ---- what a run does before it saves its chip replaces nothing

-- output events replace no file
tried_all : (output_events : List OutputEvent) (r : Record) → (after_events output_events r).tried ≡ r.tried
tried_all [] r = refl
tried_all (event ∷ output_events) r = let more = tried_all output_events (after event r) in grind arith

-- the replacements that were tried
abbrev pub tried_at : DeskState → List Writing
tried_at d = d.kept.tried

-- nor does a stage that completed
pub tried_went : {A : Type 0} (stage : Stage A) (old new : DeskState) (stage_outcome : StageOutcome A)
    → StageCompleted stage old new stage_outcome → tried_at new ≡ tried_at old
tried_went stage old new stage_outcome went = search (rules, tried_all)

-- nor loading a chip
pub tried_loaded : (part : Part) (file : Bytes) (old new : DeskState) (chip : chips.ChipState)
    → LoadsLocked part file old new (Ok chip) → tried_at new ≡ tried_at old
tried_loaded part file old new chip loaded = cc (tried_went _ _ _ _ loaded.loaded, loaded.held.0)

-- nor a message
tried_reported : (pieces : Option (List Bytes)) (old new : DeskState) → MatchOption pieces (new ≡ old)
    (λ p. ReportsLine old new (error p))
    → tried_at new ≡ tried_at old
tried_reported pieces old new notice = grind arith

-- nor a stage that was refused
pub tried_goes : {A : Type 0} (taking : AllocationPoints) (stage : Stage A) (old new : DeskState) (status : ℕ)
    → RunsStage taking stage old new (Err status) → tried_at new ≡ tried_at old
tried_goes taking stage old new status goes = grind (arith, tried_all, tried_went)

-- without a chip
pub tried_unloaded : (part : Part) (file : Bytes) (old new : DeskState) (status : ℕ)
    → LocksAndLoads part file old new (Err status) → tried_at new ≡ tried_at old
tried_unloaded part file old new status (inl unheld) = grind arith
tried_unloaded part file old new status (inr vain) = cc (tried_goes _ _ _ _ _ vain.1.loaded)

-- a run that doesn't take the chip
tried_untaken : (plan : Plan) (file : Bytes) (old new : DeskState) (status : ℕ)
    → TakesChip plan file old new (Err status) → tried_at new ≡ tried_at old
tried_untaken plan file old new status (inl own) = grind arith
tried_untaken plan file old new status (inr (apart, inl unloaded)) = tried_unloaded _ _ _ _ _ unloaded
tried_untaken plan file old new status (inr (apart, inr then)) = (search rules) ∙ tried_loaded _ _ _ _ _ then.loaded

-- ---- it tries no other bytes than its chip's

-- no replacement was tried, or one with the file of the chip
abbrev pub TriesOnly : Bytes → Option Bytes → List Writing → Type 0
TriesOnly file None tried = tried ≡ []
TriesOnly file (Some bytes) tried = (tried ≡ []) ⊎ (tried ≡ record { name = file; bytes = bytes } ∷ [])

-- a run over the emulator
run_tries : (settings : Settings) (file : Bytes) (old new : DeskState) (status : ℕ)
    → (r : RunsEmulator settings file old new status) → tried_at old ≡ []
    → TriesOnly file (chip_file_of_run settings file old new status r) (tried_at new)
run_tries settings file old new status (inl r) none = search (rules, tried_loaded, tried_went, tried_all)
run_tries settings file old new status (inr (inl with)) none =
    tried_untaken with.plan _ _ _ _ with.then_is ∙ tried_went _ _ _ _ with.made ∙ none
run_tries settings file old new status (inr (inr lacks)) none = tried_goes _ _ _ _ _ lacks.goes ∙ none

-- a service of a part
pub part_tries : (part : Part) (file : Bytes) (most_reads : ℕ) (old new : Devices) (status : ℕ)
    → (s : ServesPart part file most_reads old new status) → tried_at old.desk ≡ []
    → TriesOnly file (chip_file_of_part part file most_reads old new status s) (tried_at new.desk)
part_tries part file most_reads old new status (inl s) none =
    search (rules, tried_reported (end_pieces s.then_is.served) _ _ s.then_is.notice, tried_loaded _ _ _ _ _ s.loaded)
part_tries part file most_reads old new status (inr (unloaded, same)) none = tried_unloaded _ _ _ _ _ unloaded ∙ none

-- a service over standard streams
server_tries : (settings : Settings) (file : Bytes) (most_reads : ℕ) (old new : Devices) (status : ℕ)
    → (s : RunsServedFor settings file most_reads old new status) → tried_at old.desk ≡ []
    → TriesOnly file (chip_file_of_server settings file most_reads old new status s) (tried_at new.desk)
server_tries settings file most_reads old new status (inl s) none =
    part_tries _ _ _ _ _ _ s.then_is (tried_went _ _ _ _ s.found ∙ none)
server_tries settings file most_reads old new status (inr no_part) none = tried_goes _ _ _ _ _ no_part.0.refused ∙ none

-- ---- so a crash leaves these, or what was there

module _ {S F I H O E : Type 0} (system : Ghosts S F I H) (reads : Reads F) (writes : Writes F) (input : Reads I)
    (old new : Shown S F H I O E) (fresh : IsNewDesk system old) (is_reported : RecordsAll system reads writes input old
    new) (file : Bytes) where
  -- a crash leaves the file of this chip or the old one
  pub left_old_or_new : (chip : Option Bytes) → TriesOnly file chip new.kept.tried
      → LeavesOldOrNew system new.system file chip
  left_old_or_new chip only found left = search (rules, (is_reported fresh).crash)

  pub run_killed : (settings : Settings) (status : ℕ)
      → (r : RunsEmulator settings file (system_desk_view old) (system_desk_view new) status)
      → LeavesOldOrNew system new.system file
      (chip_file_of_run settings file (system_desk_view old) (system_desk_view new) status r)
  run_killed settings status r = left_old_or_new _ (run_tries settings file _ _ status r (search rules))

  pub server_killed : (settings : Settings) (most_reads : ℕ) (before after : LinkState) (status : ℕ)
      → (s : RunsServedFor settings file most_reads (devices before (system_desk_view old))
      (devices after (system_desk_view new)) status)
      → LeavesOldOrNew system new.system file (chip_file_of_server settings file most_reads
      (devices before (system_desk_view old)) (devices after (system_desk_view new)) status s)
  server_killed settings most_reads before after status s =
      left_old_or_new _ (server_tries settings file most_reads _ _ status s (search rules))
