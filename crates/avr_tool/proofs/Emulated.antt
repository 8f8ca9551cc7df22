-- The emulated programmer and its chip do what the proofs use, from all memories.
use Rattle.std.proofs.Common.{rules}
use Rattle.std.specs.Prelude.{List, [], ◌∷◌}
use Rattle.avr_part.specs.Part.{Part, IsPart}
use Rattle.avr_session.specs.Actions.{Action}
use Rattle.avr_session.specs.PlanSteps.{action_steps}
use Rattle.stk_frame.specs.declared.command.Command.{Command}
use Rattle.stk_emu.specs.Device.{device}
use Rattle.stk_emu.specs.Effect.{Memories, effects, memories_of}
use Rattle.stk_emu.specs.Programmer.{Programmer}
use Rattle.stk_emu.specs.Settled.{HasMemories}
use Rattle.stk_emu.specs.WriteOperations.{memories_after_step}
use Rattle.stk_emu.proofs.Repeatable.{Settled}
use Rattle.stk_emu.proofs.Replies.Commands.{settled_idle}
use Rattle.avr_tool.specs.Items.{action_items}
use Rattle.avr_tool.proofs.StepData.EachStep.{data_of_attempt}
use Rattle.avr_tool.proofs.Real.{ActionsWork, AllWork, Real}
use Rattle.avr_tool.proofs.WriteOperations.OutsideMode.{step_fits}
use Rattle.avr_tool.proofs.WriteOperations.Steps.{enter_fits, leave_fits, sign_on_fits}

-- The emulated programmer of a part, with the facts that proofs use. It can be relied on for all steps.
abbrev pub emulated : (part : Part) → IsPart part → Real part
emulated part sound = record {
  P = Programmer;
  device = device;
  memories = λ p. memories_of p.chip;
  Has = HasMemories part;
  HasSettled = Settled part;
  Works = λ commands m. Unit {0};
  has = λ m p has. has.memories;
  idle = settled_idle part;
  sign_on = sign_on_fits part;
  enters = enter_fits part;
  leaves = leave_fits part;
  steps = λ commands m is fits works. step_fits part sound commands m is;
  gives = λ commands m p bytes is fits works stood has.
      data_of_attempt part sound commands m bytes is fits (record { from = p; stood = stood; is = has });
}

-- it does all steps, from any memories
pub all_work : (part : Part) (sound : IsPart part) (steps : List (List Command)) (m : Memories)
    → AllWork (emulated part sound) steps m
all_work part sound [] m = tt
all_work part sound (commands ∷ steps) m = (tt, all_work part sound steps (memories_after_step part commands m))

-- it does the steps of all actions
pub actions_work : (part : Part) (sound : IsPart part) (actions : List Action) (m : Memories)
    → ActionsWork (emulated part sound) actions m
actions_work part sound [] m = tt
actions_work part sound (action ∷ actions) m =
    search (rules, all_work, actions_work part sound actions (effects part (action_items action) m))
