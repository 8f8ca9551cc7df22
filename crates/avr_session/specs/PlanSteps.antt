-- All the steps that a run of a plan may take.
use Rattle.std.specs.Prelude.{List, [], ◌∷◌, ◌++◌}
use Rattle.avr_part.specs.Part.{Part}
use Rattle.avr_plan.specs.Plan.{Plan}
use Rattle.avr_session.specs.Actions.{Action, OpenSession, EraseChip, WriteImage, CompareImage, SaveMemory, actions}
use Rattle.stk_frame.specs.declared.command.Command.{Command}
use Rattle.stk_host.specs.Bound.{opening_steps, erasing_steps, closing_steps}
use Rattle.stk_host.specs.ReadSteps.{read_steps}
use Rattle.stk_host.specs.WriteSteps.{write_steps}

-- The steps of one action. A comparison reads its memory, and a skipped action takes no steps.
abbrev pub action_steps : Part → Action → List (List Command)
action_steps part OpenSession = opening_steps
action_steps part EraseChip = erasing_steps
action_steps part (WriteImage mem image) = write_steps part mem image
action_steps part (CompareImage mem image) = read_steps part mem
action_steps part (SaveMemory mem format file) = read_steps part mem
action_steps part action = []

-- The steps of actions, in order.
abbrev pub actions_steps : Part → List Action → List (List Command)
actions_steps part [] = []
actions_steps part (action ∷ actions) = action_steps part action ++ actions_steps part actions

-- The steps of all actions in order, and the closing.
abbrev pub run_steps : Plan → List (List Command)
run_steps plan = actions_steps plan.part (actions plan) ++ closing_steps
