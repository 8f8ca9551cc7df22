-- A fresh emulator that served, from settings to status.
use Rattle.std.proofs.Common.{◌≡◌, ℕ, false, List, [], ap₂, Result}
use Rattle.avr_plan.specs.declared.settings.Settings.{Settings}
use Rattle.avr_io.specs.Record.{DeskState, Bytes}
use Rattle.avr_part.specs.Part.{Part}
use Rattle.avr_part.specs.State as chips
use Rattle.avr_plan.specs.Planning.{parts_stage, part_stage}
use Rattle.avr_io.specs.StageRuns.{OnlyAtStart, RunsStage, StageCompleted}
use Rattle.avr_io.specs.Stage.{Produced}
use Rattle.avr_io.proofs.Stages.Files.{never_allocates}
use Rattle.avr_io.proofs.Stages.Played.{runs_then}
use Rattle.stk_emu.specs.Programmer.{fresh_programmer}
use Rattle.stk_emu.specs.Emulator.{EmulatorState}
use Rattle.avr_tool.specs.ServedRun.{settings_part}

-- The parts were read, and then the part was found or refused.
pub part_found_in_parts : (s : Settings) (id : Bytes) (old mid new : DeskState) (parts : List Part)
    (result : Result Part ℕ) → id ≡ s.part → StageCompleted (parts_stage s.parts) old mid (Produced parts)
    → RunsStage (OnlyAtStart false) (part_stage id parts) mid new result
    → RunsStage (OnlyAtStart false) (settings_part s) old new result
part_found_in_parts s id old mid new parts result same went goes =
    runs_then (OnlyAtStart false) (OnlyAtStart false) _ (λ parts. part_stage s.part parts) old mid new parts result went
    (λ passed emitted never. absurd (never_allocates passed emitted never)) (rw same at goes)

-- An emulator that was fed nothing.
pub is_fresh : (chip : chips.ChipState) (machine : EmulatorState) → machine.held ≡ []
    → machine.programmer ≡ fresh_programmer chip → machine ≡ record { held = []; programmer = fresh_programmer chip }
is_fresh chip machine held programmer = ap₂ (λ h p. record { held = h; programmer = p }) held programmer
