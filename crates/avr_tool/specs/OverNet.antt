-- A run over a port of the network, from settings to status.
use Rattle.std.specs.Prelude.{ℕ, ◌≡◌, ◌⊎◌, [], Option, Some, None, codes}
use Rattle.avr_plan.specs.declared.settings.Settings.{Settings}
use Rattle.avr_io.specs.Record.{DeskState, Bytes}
use Rattle.avr_io.specs.OutputEvents.{ReportsLine}
use Rattle.avr_session.specs.Run.{LacksPlan, RunsSession, WithPlan}
use Rattle.avr_session.specs.Runs.{devices}
use Rattle.stk_host.specs.Transcript.{LinkState}
use Rattle.avr_io.specs.Lines.{error}
use Rattle.avr_tool.specs.Lines.{unopened_pieces}

-- The state of a link over which nothing has passed.
abbrev pub new_link : LinkState
new_link = record { transcript = []; failures = 0 }

-- A plan was made, and its session was run over a link to the port. Or the port could not be opened: this was
-- reported, nothing else was done at the desk, and the status is 1. `over` states what happened to the socket, as
-- `IsOverAddress` does. Or there is no plan, and the network was left unused.
abbrev pub RunsOverNet : Type 0 → (Option LinkState → Type 0) → Settings → Bytes → DeskState → DeskState → ℕ → Type 0
RunsOverNet unused over settings address old new status =
    ((link : LinkState) × over (Some link) × WithPlan settings old (λ plan desk.
    RunsSession plan (devices new_link desk) (devices link new) status))
    ⊎ ((over None × WithPlan settings old (λ plan desk.
    ReportsLine desk new (error (unopened_pieces (codes "net:") address))) × (status ≡ 1))
    ⊎ (LacksPlan settings old new status × unused))
