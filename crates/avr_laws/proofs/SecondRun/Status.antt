-- A second run over what the first one left: its status, and its memories.
use Rattle.std.proofs.lemmas.Grind.{common_steps}
use Rattle.std.proofs.Common.{◌≡◌, ℕ, subst, sym, take, true, rules, arith}
use Rattle.std.proofs.lemmas.List.{length-replicate}
use Rattle.std.specs.Prelude.{◌<◌, All}
use Rattle.avr_part.specs.Part.{Part, IsPart}
use Rattle.avr_plan.specs.Plan.{Plan, IsFitted}
use Rattle.stk_emu.specs.Effect.{Memories, erase_keeps_eeprom, effects}
use Rattle.stk_emu.specs.Settled.{FitsPart}
use Rattle.avr_laws.specs.Again.{ItemsKeepEeprom, chip_filled_with, AgreesOnTwoChips, RunRepairs}
use Rattle.avr_tool.specs.ComparisonsAgree.{ComparisonsAgree}
use Rattle.avr_tool.specs.ExpectedRun.{expected_run}
use Rattle.avr_tool.specs.Items.{items, has_erase}
use Rattle.avr_tool.specs.Outcome.{write_operations, HasFirstOperations, IsDone}
use Rattle.avr_laws.proofs.SecondRun.EveryChip.{agrees_anyway}
use Rattle.avr_laws.proofs.SecondRun.ErasesTwice.{plan_again}
use Rattle.avr_tool.proofs.Memories.ExpectedAgrees.{expected_status, expected_memories}
use Rattle.avr_tool.proofs.OverFaultyLink.FirstSteps.{effects_sizes}

-- a chip filled with one byte fits its part
filled_fits : (part : Part) (byte : ℕ) → byte < 256 → FitsPart part (chip_filled_with part byte)
filled_fits part byte l = grind (arith, common_steps, length-replicate)

-- a plan that agrees on every chip agrees on the two
pub two_of_all : (plan : Plan) → ((m : Memories) → FitsPart plan.part m → ComparisonsAgree plan m)
    → AgreesOnTwoChips plan
two_of_all plan all = search (rules, filled_fits)

-- a second run over any first write operations has the outcome of one run
pub run_repairs : (plan : Plan) (k : ℕ) (m : Memories) → IsPart plan.part → All (IsFitted plan.part) plan.tasks
    → FitsPart plan.part m → has_erase (items plan) ≡ true → AgreesOnTwoChips plan
    → (erase_keeps_eeprom plan.part m ≡ true → ItemsKeepEeprom plan.part (items plan))
    → RunRepairs plan m (effects plan.part (take k (write_operations plan)) m)
run_repairs plan k m sound fitted sizes erases two kept =
    search (rules, agrees_anyway, effects_sizes, expected_status, expected_memories, plan_again)

-- so it is over what a run left
pub first_writes_repaired : (plan : Plan) (before after : Memories) → IsPart plan.part
    → All (IsFitted plan.part) plan.tasks → FitsPart plan.part before → has_erase (items plan) ≡ true
    → AgreesOnTwoChips plan → (erase_keeps_eeprom plan.part before ≡ true → ItemsKeepEeprom plan.part (items plan))
    → HasFirstOperations plan before after → RunRepairs plan before after
first_writes_repaired plan before after sound fitted f erases two kept touched =
    subst (RunRepairs plan before) (sym touched.memories) (run_repairs plan touched.count before sound fitted f erases
    two kept)

-- a second run that did everything has the outcome that the first one would have had
pub done_again : (plan : Plan) (before left after : Memories) → IsPart plan.part → All (IsFitted plan.part) plan.tasks
    → FitsPart plan.part before → (has_erase (items plan) ≡ true → erase_keeps_eeprom plan.part before ≡ true
    → ItemsKeepEeprom plan.part (items plan)) → HasFirstOperations plan before left → IsDone plan left after → after
    ≡ effects plan.part (items plan) before
done_again plan before left after sound fitted sizes kept touched all = search (rules, plan_again)

-- an expected run that succeeds, whatever the chip was
pub repair_succeeds : (plan : Plan) (before : Memories) (status : ℕ) → FitsPart plan.part before
    → has_erase (items plan) ≡ true → AgreesOnTwoChips plan → status ≡ (expected_run plan before).status → status ≡ 0
repair_succeeds plan before status sizes erases two status_is = search (rules, expected_status, agrees_anyway)
