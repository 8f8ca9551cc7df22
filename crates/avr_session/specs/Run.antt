-- A run, from settings to status.
use Rattle.std.specs.Prelude.{ℕ, ◌≡◌, ◌⊎◌, [], None, Err}
use Rattle.avr_plan.specs.declared.settings.Settings.{Settings}
use Rattle.avr_io.specs.Record.{DeskState}
use Rattle.avr_plan.specs.Plan.{Plan}
use Rattle.avr_plan.specs.Planning.{LacksPart, planned}
use Rattle.avr_plan.specs.AllocationPoints.{AtAllocatingUpdate}
use Rattle.avr_io.specs.StageRuns.{RunsStage, StageCompleted}
use Rattle.avr_io.specs.Stage.{Produced}
use Rattle.avr_session.specs.Actions.{actions, plan_allocates}
use Rattle.avr_session.specs.Runs.{Devices, devices, start, before_fault, BrokeOff}
use Rattle.avr_session.specs.Session.{session}
use Rattle.avr_session.specs.AllocationPoints.{AtAllocation}
use Rattle.avr_session.specs.Stopping.{RanToStatus}
use Rattle.ghosts.specs.Preserves.{Preserves}
use Rattle.stk_host.specs.Transcript.{LinkState}

-- The session of a plan broke off. Allocation can fail only at an action that allocates.
abbrev pub StopsSession : Plan → Devices → Devices → Type 0
StopsSession plan old new =
    BrokeOff (session plan) start old new (before_fault (plan_allocates plan)) (AtAllocation plan.part plan.switches
    (actions plan))

-- The contract of `drive`: the session of a plan ran whole to its status, or it broke off with status 1.
abbrev pub RunsSession : Plan → Devices → Devices → ℕ → Type 0
RunsSession plan old new status = RanToStatus (session plan) old new status ⊎ (StopsSession plan old new × (status ≡ 1))

-- A plan was made from what the files gave, up to `between`, and then this holds.
pub record WithPlan (settings : Settings) (old : DeskState) (Then : Plan → DeskState → Type 0) : Type 0 where
  pub plan : Plan
  pub between : DeskState
  pub made : StageCompleted (planned settings) old between (Produced plan)
  pub then_is : Then plan between

-- There is no plan: the refusal was reported, or planning broke off, and the status is 1. Allocation failed only for
-- the next file, or at an update that allocates without a file. Without a part file and updates the only fault is an
-- unknown part, which was reported.
pub record LacksPlan (settings : Settings) (old new : DeskState) (status : ℕ) : Type 0 where
  pub goes : RunsStage (AtAllocatingUpdate settings) (planned settings) old new (Err status)
  pub bare : settings.parts ≡ None → settings.updates ≡ [] → LacksPart settings.part [] old new

-- A plan was made from what the files gave, up to `between`, and its session was run from there. Or there is no plan,
-- and nothing was sent or received.
abbrev pub RunsSettings : Settings → Devices → DeskState → Devices → ℕ → Type 0
RunsSettings settings old between new status =
    ((plan : Plan) × StageCompleted (planned settings) old.desk between (Produced plan)
    × RunsSession plan (devices old.link between) new status)
    ⊎ (LacksPlan settings old.desk new.desk status × (new.link ≡ old.link))

-- The same for a desk of any type. `between` is the desk when the plan was made.
pub record RunsBetween {D Start : Type 0} (view : D → DeskState) (ComesOf : Start → D → Type 0) (settings : Settings)
    (link_old link_new : LinkState) (old new : D) (status : ℕ) : Type 0 where
  pub between : D
  pub stays : Preserves ComesOf old between
  pub runs : RunsSettings settings (devices link_old (view old)) (view between) (devices link_new (view new)) status
