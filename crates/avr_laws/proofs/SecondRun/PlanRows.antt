-- Worked rows of plans over a chip of 00 and over one of FF: which of them end with status 0 on both.
use Rattle.std.proofs.Common.{◌≡◌, ℕ, [], ◌∷◌, List, Some, None, true, false, refl}
use Rattle.avr_plan.specs.declared.settings.Switches.{Switches}
use Rattle.avr_part.specs.Part.{Part}
use Rattle.avr_part.specs.declared.part.Mem.TheVariants.{Flash, Eeprom, Lfuse, Hfuse, Lock}
use Rattle.avr_plan.specs.Plan.{Plan}
use Rattle.avr_plan.specs.declared.planned.Task.{Task}
use Rattle.avr_plan.specs.declared.planned.Task.TheVariants.{Write, Verify}
use Rattle.avr_laws.specs.Again.{chip_filled_with}
use Rattle.avr_tool.specs.ExpectedRun.{expected_run}

-- four bytes of flash and two of EEPROM
abbrev pub tiny : Part
tiny = record {
  id = [];
  signature = 0x1E ∷ 0x95 ∷ 0x0F ∷ [];
  flash_size = 4;
  flash_page = 2;
  eeprom_size = 2;
  eeprom_page = 2;
  eesave_bit = 3;
}

abbrev pub erasing : Switches
erasing = record {
  erase = true;
  keep_flash = false;
  no_verify = false;
  dry = false;
  force = false;
  all = false;
  quiet = 2;
}

abbrev plan_of : List Task → Plan
plan_of tasks = record { part = tiny; tasks = tasks; switches = erasing }

abbrev statuses : List Task → List ℕ
statuses tasks = (expected_run (plan_of tasks) (chip_filled_with tiny 0)).status
    ∷ (expected_run (plan_of tasks) (chip_filled_with tiny 255)).status
    ∷ []

-- flash, EEPROM, fuses and the lock last; a gap of flash is FF
whole : statuses (Write Flash (Some 1 ∷ Some 2 ∷ None ∷ None ∷ []) ∷ Write Eeprom (Some 3 ∷ None ∷ [])
    ∷ Write Hfuse (Some 0xD9 ∷ []) ∷ Write Lock (Some 0xFC ∷ []) ∷ Verify Flash (None ∷ None ∷ Some 255 ∷ None ∷ [])
    ∷ []) ≡ 0 ∷ 0 ∷ []
whole = refl

-- flash takes zeros only: a second image may clear bits of the first, and set none
clears : statuses (Write Flash (Some 0x3F ∷ None ∷ None ∷ None ∷ []) ∷ Write Flash (Some 0x0F ∷ None ∷ None ∷ None ∷ [])
    ∷ []) ≡ 0 ∷ 0 ∷ []
clears = refl

-- a second image that sets bits
sets : statuses (Write Flash (Some 0x0F ∷ None ∷ None ∷ None ∷ []) ∷ Write Flash (Some 0x3F ∷ None ∷ None ∷ None ∷ [])
    ∷ []) ≡ 1 ∷ 1 ∷ []
sets = refl

-- EEPROM that the plan doesn't write: each byte is wrong on one of the two chips
unwritten_00 : statuses (Verify Eeprom (Some 0 ∷ None ∷ []) ∷ []) ≡ 0 ∷ 1 ∷ []
unwritten_00 = refl

-- the same with FF
unwritten_ff : statuses (Verify Eeprom (Some 255 ∷ None ∷ []) ∷ []) ≡ 1 ∷ 0 ∷ []
unwritten_ff = refl

-- so is a fuse that isn't written
unwritten_fuse : statuses (Verify Lfuse (Some 0x62 ∷ []) ∷ []) ≡ 1 ∷ 1 ∷ []
unwritten_fuse = refl

-- lock bits set first
locks_first : statuses (Write Lock (Some 0xFC ∷ []) ∷ Write Flash (Some 1 ∷ None ∷ None ∷ None ∷ []) ∷ []) ≡ 1 ∷ 1 ∷ []
locks_first = refl

-- the lock takes zeros only
unlocks : statuses (Write Lock (Some 0xFD ∷ []) ∷ Write Lock (Some 0xFF ∷ []) ∷ []) ≡ 1 ∷ 1 ∷ []
unlocks = refl

-- an EEPROM compared before it is written
too_early : statuses (Verify Eeprom (Some 3 ∷ None ∷ []) ∷ Write Eeprom (Some 3 ∷ None ∷ []) ∷ []) ≡ 1 ∷ 1 ∷ []
too_early = refl

-- Without an erase the two chips don't represent all: a locked chip of FF keeps its FF.
abbrev unerased : Plan
unerased = record {
  part = tiny;
  tasks = Write Flash (Some 0 ∷ None ∷ None ∷ None ∷ []) ∷ [];
  switches = record erasing { erase = false; keep_flash = true };
}

zeros_agree : (expected_run unerased (chip_filled_with tiny 0)).status ≡ 0
zeros_agree = refl

ones_agree : (expected_run unerased (chip_filled_with tiny 255)).status ≡ 0
ones_agree = refl

-- a locked chip of FF doesn't agree
locked_differs : (expected_run unerased (record (chip_filled_with tiny 255) { lock = 0xFE })).status ≡ 1
locked_differs = refl
