-- What a run leaves in a chip, whatever the link did.
use Rattle.std.specs.Prelude.{ℕ, suc, ◌≡◌, ◌≤◌, ◌-◌, List, take}
use Rattle.avr_io.specs.OutputEvents.{OutputEvent}
use Rattle.avr_plan.specs.Plan.{Plan}
use Rattle.stk_emu.specs.Exchange.{Exchange}
use Rattle.stk_emu.specs.Effect.{Item, Memories, effects}
use Rattle.stk_emu.specs.Programmer.{Programmer}
use Rattle.stk_emu.specs.WriteOperations.{steps_of_items, write_operations_of}
use Rattle.avr_tool.specs.Items.{items}
use Rattle.avr_tool.specs.ComparisonsAgree.{ComparisonsAgree}
use Rattle.avr_tool.specs.ExpectedRun.{expected_run}
use Rattle.avr_tool.specs.Completed.{operations_completed}

-- The write operations of a plan, in order: its erase, and for each write one for each page, EEPROM run, fuse or lock.
abbrev pub write_operations : Plan → List Item
write_operations plan = write_operations_of (steps_of_items plan.part (items plan))

-- The memories after some number of the plan's first write operations.
pub record HasFirstOperations (plan : Plan) (before after : Memories) : Type 0 where
  pub count : ℕ
  pub memories : after ≡ effects plan.part (take count (write_operations plan)) before

-- The same, with bounds, after this many frames over a link with these exchanges. At least the write operations
-- completed by then were made. At most one more was made than was completed before the last frame, whose reply may not
-- have come. Without a frame none was made.
pub record MakesWriteOperations (plan : Plan) (p : Programmer) (exchanges : List Exchange) (frames : ℕ)
    (before after : Memories) : Type 0 where
  pub made : HasFirstOperations plan before after
  pub at_least : operations_completed plan frames p exchanges ≤ made.count
  pub at_most : made.count ≤ suc (operations_completed plan (frames - 1) p exchanges)
  pub none : frames ≡ 0 → made.count ≡ 0

-- After status 0: all that the plan writes was written, and all that it compares agreed.
pub record IsDone (plan : Plan) (before after : Memories) : Type 0 where
  pub memories : after ≡ effects plan.part (items plan) before
  pub agrees : ComparisonsAgree plan before

-- The output, the status and the memories are those of the expected run.
pub record IsExpectedRun (plan : Plan) (before after : Memories) (output_events : List OutputEvent)
    (status : ℕ) : Type 0 where
  pub emitted : output_events ≡ (expected_run plan before).output_events
  pub status_is : status ≡ (expected_run plan before).status
  pub memories : after ≡ (expected_run plan before).memories
