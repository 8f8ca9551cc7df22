-- A run over the emulated programmer, from its stages.
use Rattle.std.proofs.Common.{◌≡◌, ℕ, List, [], All, Ok, Err, length, subst, rules}
use Rattle.std.specs.Prelude.{◌<◌, get_or}
use Rattle.std.proofs.lemmas.List.Folds.{list_any_at}
use Rattle.std.proofs.lemmas.Slice.Eq.{bytes_eq-Decides}
use Rattle.avr_part.specs.declared.part.Mem.{Mem}
use Rattle.avr_plan.specs.declared.planned.Task.{Task}
use Rattle.avr_plan.specs.declared.planned.Task.TheVariants.{Read}
use Rattle.avr_plan.specs.declared.update.Format.{Format}
use Rattle.avr_plan.specs.declared.settings.Settings.{Settings}
use Rattle.avr_io.specs.Fault.{CountsNeverFall}
use Rattle.avr_io.specs.Record.{DeskState, Bytes}
use Rattle.avr_part.specs.ChipFile.{chip_file}
use Rattle.avr_part.specs.Sound.{IsSoundChip}
use Rattle.avr_part.specs.State.{ChipState as Chip}
use Rattle.avr_plan.specs.Plan.{Plan, IsFitted}
use Rattle.avr_plan.specs.Planning.{planned}
use Rattle.avr_io.specs.StageRuns.{StageCompleted}
use Rattle.avr_io.specs.Stage.{Produced}
use Rattle.ghosts.specs.Preserves.{Preserves}
use Rattle.stk_host.specs.Transcript.{sent}
use Rattle.stk_emu.specs.Programmer.{fresh_programmer}
use Rattle.stk_emu.specs.Wire.{fresh_wire}
use Rattle.stk_emu.specs.Wired.{WiredState, ComesOf, wired_link}
use Rattle.avr_session.specs.Run.{RunsSession}
use Rattle.avr_session.specs.Runs.{devices}
use Rattle.avr_tool.specs.OverFaultyLink.{SessionOverWire}
use Rattle.avr_tool.specs.Emulated.{ChecksRead, ChecksReads, IsSavedIfSent, TakesChip, new_wire, RunsOverEmulator}

-- the refused name is that of a task
pub read_refused : (tasks : List Task) (i : ℕ) (task : Task) (memory : Mem) (format : Format) (into file : Bytes)
    (old mid new : DeskState) (status told : ℕ) → i < length tasks → task ≡ get_or tasks i task
    → task ≡ Read memory format file → into ≡ file → mid ≡ old → status ≡ told → ChecksRead into mid new (Err told)
    → ChecksReads tasks old new (Err status)
read_refused tasks i task memory format into file old mid new status told below is reads same here one checks =
    rw (← here, one) (into, search (rules, list_any_at, bytes_eq-Decides), checks)

module _ (settings : Settings) (file : Bytes) (plan : Plan) (chip : Chip) (w v : WiredState) (held : w.held ≡ [])
    (begun : w.wire ≡ fresh_wire (fresh_programmer chip) []) (waits : w.waits ≡ []) (silent : w.transcript ≡ [])
    (unfailed : w.failures ≡ 0)
    (fitted : All (IsFitted plan.part) plan.tasks) (part_is : chip.part ≡ plan.part) (is_sound : IsSoundChip chip) where
  -- a wire that holds, brings and has passed nothing is a new one
  is_new : w ≡ new_wire chip []
  is_new = search rules

  -- The stages of the run together are `RunsOverEmulator`.
  pub runs_over_emulator : (old planned_desk loaded_desk played_desk now : DeskState) (ran status : ℕ)
      → StageCompleted (planned settings) old planned_desk (Produced plan)
      → TakesChip plan file planned_desk loaded_desk (Ok chip) → CountsNeverFall played_desk now
      → RunsSession plan (devices (wired_link w) loaded_desk) (devices (wired_link v) played_desk) ran
      → Preserves ComesOf w v → (w.wire.programmer.chip.part ≡ plan.part
      → SessionOverWire plan w v loaded_desk played_desk ran) → IsSavedIfSent (sent v.transcript) played_desk now file
      (chip_file v.wire.programmer.chip) ran status → RunsOverEmulator settings file old now status
  runs_over_emulator old planned_desk loaded_desk played_desk now ran status made takes by_saving runs
      comes line saved =
      let comes_of_new = subst (λ (x : WiredState). Preserves ComesOf x v) is_new comes in
      let runs_new : RunsSession plan (devices (wired_link (new_wire chip [])) loaded_desk)
      (devices (wired_link v) played_desk) ran =
      search (rules, is_new) in
      let session : SessionOverWire plan (new_wire chip []) v loaded_desk played_desk ran = search (rules, is_new) in
      search rules
