-- How many write operations of a plan were completed over a link, each by all of its commands.
use Rattle.std.specs.Prelude.{ℕ, suc, List, [], ◌∷◌, Ok}
use Rattle.avr_plan.specs.declared.settings.Switches.{Switches}
use Rattle.avr_part.specs.Part.{Part}
use Rattle.avr_plan.specs.Plan.{Plan}
use Rattle.avr_session.specs.Actions.{Action, actions}
use Rattle.avr_session.specs.Session.{action_dialog}
use Rattle.avr_session.specs.Standing.{Standing, NoFault}
use Rattle.stk_emu.specs.DialogOverExchanges.{state_after}
use Rattle.stk_emu.specs.Device.{Device, device}
use Rattle.stk_emu.specs.Exchange.{Exchange}
use Rattle.stk_frame.specs.declared.command.Command.{Command}
use Rattle.stk_host.specs.Dialog.{Dialog, Done}
use Rattle.stk_host.specs.Steps.{StepOutcome, step}
use Rattle.stk_emu.specs.Programmer.{Programmer}
use Rattle.stk_emu.specs.WriteOperations.{steps_of_items}
use Rattle.avr_tool.specs.Tallies.{Count, then_count}
use Rattle.avr_tool.specs.Items.{action_items}

-- Counts a step if it was completed.
abbrev pub step_count : Dialog ⊥ StepOutcome → ℕ → ℕ
step_count (Done (Ok bytes)) more = suc more
step_count dialog more = 0

-- The number of steps completed after `k` commands, by what the link's exchanges bring, not by what was received.
abbrev pub steps_completed : {P : Type 0} → Device P → List (List Command) → ℕ → P → List Exchange → ℕ
steps_completed m [] k p exchanges = 0
steps_completed m (commands ∷ steps) k p exchanges = let s = state_after m k (step commands) p exchanges in
    step_count s.dialog (steps_completed m steps s.left s.programmer s.exchanges)

-- The count of the actions that follow. After a fault none follow.
abbrev pub completed_unless_fault : Count Programmer → Standing → Count Programmer
completed_unless_fault next NoFault = next
completed_unless_fault next _ = λ k p exchanges. 0

-- The number of write operations of these actions that were completed. An action's write operations are those of its
-- items; opening, comparing and saving have none.
abbrev pub actions_completed : Part → Switches → List Action → Count Programmer
actions_completed part s [] = λ k p exchanges. 0
actions_completed part s (action ∷ actions) =
    then_count device (action_dialog part s action) (steps_completed device (steps_of_items part (action_items action)))
    (completed_unless_fault (actions_completed part s actions))

-- The number of the plan's write operations completed after `k` commands. The end of a session has none.
abbrev pub operations_completed : Plan → Count Programmer
operations_completed plan = actions_completed plan.part plan.switches (actions plan)
