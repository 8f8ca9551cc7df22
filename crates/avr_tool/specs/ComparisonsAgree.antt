-- Whether the memories hold what a plan compares them with.
use Rattle.std.specs.Prelude.{List, [], ◌∷◌, ⊤}
use Rattle.avr_part.specs.Part.{Part}
use Rattle.avr_plan.specs.Plan.{Plan}
use Rattle.avr_session.specs.Actions.{Action, CompareImage, actions}
use Rattle.stk_emu.specs.Effect.{Memories, effects, memory_in}
use Rattle.stk_emu.specs.StepData.{HoldsImage}
use Rattle.avr_tool.specs.Items.{action_items}

-- If the action is a comparison, the memory holds its image.
abbrev pub ComparisonAgrees : Part → Action → Memories → Type 0
ComparisonAgrees part (CompareImage mem image) m = HoldsImage image (memory_in part mem m)
ComparisonAgrees part action m = ⊤

-- Each action in order, over the memories that those before it leave.
abbrev pub EachComparisonAgrees : Part → List Action → Memories → Type 0
EachComparisonAgrees part [] m = ⊤
EachComparisonAgrees part (action ∷ actions) m =
    ComparisonAgrees part action m × EachComparisonAgrees part actions (effects part (action_items action) m)

-- The comparisons of a plan agree, if the chip has these memories before the run.
abbrev pub ComparisonsAgree : Plan → Memories → Type 0
ComparisonsAgree plan m = EachComparisonAgrees plan.part (actions plan) m
