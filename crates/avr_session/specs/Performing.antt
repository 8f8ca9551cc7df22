-- How an action of a session ends: for contracts inside this crate.
use Rattle.std.specs.Prelude.{Bool, true, false, ◌≡◌, ◌≤◌, List, Result, Ok, Err, ⊤}
use Rattle.std.specs.List.{list_any}
use Rattle.avr_io.specs.Fault.{CountsNeverFall}
use Rattle.avr_plan.specs.Plan.{Plan}
use Rattle.stk_host.specs.Dialog.{Dialog}
use Rattle.stk_host.specs.Play.{Progress}
use Rattle.stk_host.specs.State.{HostState}
use Rattle.avr_io.specs.OutputEvents.{OutputEvent}
use Rattle.avr_session.specs.Standing.{Standing, NoFault}
use Rattle.avr_session.specs.Actions.{Action, action_allocates, actions, plan_allocates}
use Rattle.avr_session.specs.Concluding.{HostIsUsable}
use Rattle.avr_session.specs.Runs.{Devices, RunAllocationPoints, Terms, before_fault, RanWhole, BrokeOff}
use Rattle.avr_session.specs.Session.{actions_dialog, ending, session_dialog}
use Rattle.avr_session.specs.AllocationPoints.{AtStartOnly, AtAllocation}

-- A fault was reported.
abbrev pub has_fault : Standing → Bool
has_fault NoFault = false
has_fault standing = true

-- The result of a call: the dialog ran whole, or it broke off.
abbrev pub Runs : {R : Type 0} → Dialog OutputEvent R → Progress → Devices → Devices → Terms → RunAllocationPoints
    → Result R ⊤ → Progress → Type 0
Runs dialog before old new terms points (Ok result) after = RanWhole dialog before old new result after
Runs dialog before old new terms points (Err stopped) after = BrokeOff dialog before old new terms points

-- A host ran this dialog on these terms, between these states of the devices. Then it can be used, unless the link has
-- ended, programming mode was left or the run has stopped.
pub record PerformsOnTerms (terms : Terms) (points : RunAllocationPoints) (dialog : Dialog OutputEvent Standing)
    (host_old host_new : HostState) (old new : Devices) (result : Result Standing ⊤) : Type 0 where
  pub runs : Runs dialog host_old.progress old new terms points result host_new.progress
  pub serves : HostIsUsable result host_new.broken
  pub part : host_new.part ≡ host_old.part
  pub link : old.link.failures ≤ new.link.failures
  pub desk : CountsNeverFall old.desk new.desk

-- A part of a run, between these states of the host and the devices.
abbrev pub Performing : Type 1
Performing = HostState → HostState → Devices → Devices → Result Standing ⊤ → Type 0

-- These actions of a plan, in order, up to the first fault. Allocation can fail only at an action that allocates.
abbrev pub DoesPlanActions : Plan → List Action → Performing
DoesPlanActions plan actions =
    PerformsOnTerms (before_fault (list_any action_allocates actions)) (AtAllocation plan.part plan.switches actions)
    (actions_dialog plan.part plan.switches actions)

-- The end of a session that is in this state after its actions.
abbrev pub EndsSession : Plan → Standing → Performing
EndsSession plan standing = PerformsOnTerms (record { allocates = false; has_reported = has_fault standing })
    (AtStartOnly false) (ending plan.part plan.switches standing)

-- The whole session of a plan.
abbrev pub PlaysSession : Plan → Performing
PlaysSession plan =
    PerformsOnTerms (before_fault (plan_allocates plan)) (AtAllocation plan.part plan.switches (actions plan))
    (session_dialog plan)
