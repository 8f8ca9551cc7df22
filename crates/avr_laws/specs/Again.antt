-- When the same run again has the result of one run, and when a run succeeds whatever the chip held.
use Rattle.std.specs.Prelude.{ℕ, Bool, true, ◌==◌, ◌≡◌, List, [], ◌∷◌, Option, Some, None, replicate, ⊤}
use Rattle.std.specs.Int.{bit_at}
use Rattle.avr_image.specs.Image.{byte_at}
use Rattle.avr_part.specs.Part.{Part}
use Rattle.avr_part.specs.declared.part.Mem.TheVariants.{Hfuse}
use Rattle.avr_plan.specs.Plan.{Plan}
use Rattle.stk_emu.specs.Effect.{Item, Write, Memories}
use Rattle.avr_tool.specs.ComparisonsAgree.{ComparisonsAgree}
use Rattle.avr_tool.specs.ExpectedRun.{expected_run}

-- This byte of the high fuse keeps EEPROM at an erase, or there is none.
abbrev pub byte_keeps_eeprom : Part → Option ℕ → Bool
byte_keeps_eeprom part None = true
byte_keeps_eeprom part (Some byte) = bit_at byte part.eesave_bit == 0

-- What an item writes to the high fuse keeps EEPROM.
abbrev pub ItemKeepsEeprom : Part → Item → Type 0
ItemKeepsEeprom part (Write Hfuse image) = byte_keeps_eeprom part (byte_at image 0) ≡ true
ItemKeepsEeprom part item = ⊤

-- Each of these items does so.
abbrev pub ItemsKeepEeprom : Part → List Item → Type 0
ItemsKeepEeprom part [] = ⊤
ItemsKeepEeprom part (item ∷ items) = ItemKeepsEeprom part item × ItemsKeepEeprom part items

-- Memories of this part in which each byte is this one.
abbrev pub chip_filled_with : Part → ℕ → Memories
chip_filled_with part byte = record {
  flash = replicate part.flash_size byte;
  eeprom = replicate part.eeprom_size byte;
  lfuse = byte;
  hfuse = byte;
  efuse = byte;
  lock = byte;
}

-- The comparisons of a plan agree on a chip of 00 and on one of FF. So each compares only bytes that the plan has
-- made, with what it made.
pub record AgreesOnTwoChips (plan : Plan) : Type 0 where
  pub zeros : ComparisonsAgree plan (chip_filled_with plan.part 0)
  pub ones : ComparisonsAgree plan (chip_filled_with plan.part 255)

-- REPAIRS: the plan's expected run from what was left has status 0, and leaves what the one from before would have
-- left.
pub record RunRepairs (plan : Plan) (before left : Memories) : Type 0 where
  pub status : (expected_run plan left).status ≡ 0
  pub memories : (expected_run plan left).memories ≡ (expected_run plan before).memories
