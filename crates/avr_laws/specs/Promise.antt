-- The promise over the emulator, to be read alone: what the files hold after a run with status 0.
use Rattle.std.specs.Prelude.{◌≡◌, false, [], Some}
use Rattle.avr_plan.specs.declared.settings.Settings.{Settings}
use Rattle.avr_io.specs.Named.{newest}
use Rattle.avr_io.specs.Record.{Bytes}
use Rattle.avr_tool.specs.Items.{asked_items}
use Rattle.avr_tool.specs.Written.{IsWritten}
use Rattle.avr_part.specs.ChipFile.{chip_file}
use Rattle.avr_part.specs.State.{ChipState as Chip}
use Rattle.avr_laws.specs.AskedPlan.{Files, FileHolds, IsAsked}
use Rattle.avr_plan.specs.Plan.{Plan}
use Rattle.avr_laws.specs.ChipFound.{IsChipInFile}
use Rattle.avr_laws.specs.Kept.{PlanAgrees, named_files, saved_files}
use Rattle.stk_emu.specs.Effect.{effects, memories_of}

-- `files` and `after` are what each file holds before and after a run over the chip file `file`. The settings and
-- files ask for a plan. The chip file held a chip of the plan's part; without a file the chip is fresh. All that the
-- plan compares agreed. The file then holds the chip that the plan's erase and writes make of that. Unless verifying
-- was off, the images are in its memories, and elsewhere what they held before, or an erase's FF. Each other file that
-- a memory was read into has the text of what the chip held then, of the last such read. No other file has changed.
pub record Promised (settings : Settings) (file : Bytes) (files after : Files) : Type 0 where
  pub plan : Plan
  pub asked : IsAsked settings (FileHolds files) [] plan
  pub chip : Chip
  pub left : Chip
  pub was : IsChipInFile plan.part (files file) chip
  pub is : after file ≡ Some (chip_file left)
  pub made : memories_of left ≡ effects plan.part (asked_items plan) (memories_of chip)
  pub agrees : PlanAgrees plan (memories_of chip)
  pub images : plan.switches.no_verify ≡ false
      → IsWritten plan.part (asked_items plan) (memories_of chip) (memories_of left)
  pub others : (name : Bytes) → (name ≡ file → ⊥)
      → after name ≡ newest name (files name) (named_files (saved_files plan (memories_of chip)))
