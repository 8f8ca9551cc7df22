-- The output of a session, whatever the link does: that of the expected run, or that of the actions that ended and
-- then the line of a failed step.
use Rattle.std.specs.Prelude.{◌≡◌, ◌⊎◌, List, [], ◌∷◌, ◌++◌}
use Rattle.avr_plan.specs.declared.settings.Switches.{Switches}
use Rattle.avr_io.specs.OutputEvents.{OutputEvent, PrintsLine}
use Rattle.avr_part.specs.Part.{Part}
use Rattle.avr_plan.specs.Plan.{Plan}
use Rattle.stk_host.specs.Operations.{host_fault}
use Rattle.stk_host.specs.declared.fault.StepFault.{StepFault}
use Rattle.stk_emu.specs.Effect.{Memories}
use Rattle.avr_session.specs.Actions.{Action, actions}
use Rattle.avr_session.specs.Lines.{fault_line}
use Rattle.avr_tool.specs.ExpectedRun.{actions_expected, expected_run}

-- The output of some first actions, which ended without a fault in the expected run.
pub record FirstActionsOutput (part : Part) (s : Switches) (actions : List Action) (m : Memories)
    (output_events : List OutputEvent) : Type 0 where
  pub done : List Action
  pub more : List Action
  pub actions_are : actions ≡ done ++ more
  pub fine : (actions_expected part s done m).status ≡ 0
  pub output_events_are : output_events ≡ (actions_expected part s done m).output_events

-- After this output the line of a failed step follows: of the next action, or of the closing after all of them.
pub record OutputToFault (part : Part) (s : Switches) (actions : List Action) (m : Memories)
    (output_events : List OutputEvent) : Type 0 where
  pub before_fault : List OutputEvent
  pub first : FirstActionsOutput part s actions m before_fault
  pub fault : StepFault
  pub output_events_are : output_events ≡ before_fault ++ PrintsLine (fault_line part (host_fault fault)) ∷ []

-- The output at any moment of a session.
abbrev pub IsExpectedOutput : Plan → Memories → List OutputEvent → Type 0
IsExpectedOutput plan m output_events = (output_events ≡ (expected_run plan m).output_events)
    ⊎ (FirstActionsOutput plan.part plan.switches (actions plan) m output_events
    ⊎ OutputToFault plan.part plan.switches (actions plan) m output_events)
