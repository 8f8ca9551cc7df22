-- Serving an emulated programmer to a client at a port of this machine, from settings to status.
use Rattle.std.specs.Prelude.{ℕ, ◌≡◌, ◌⊎◌, [], Option, Some, None, Ok, Err}
use Rattle.avr_plan.specs.declared.settings.Settings.{Settings}
use Rattle.avr_io.specs.Record.{DeskState, Bytes}
use Rattle.avr_io.specs.OutputEvents.{ReportsLine}
use Rattle.avr_tool.specs.ServedRun.{ChecksPart, ServesPart}
use Rattle.avr_tool.specs.declared.served_run.TheConstants.{READS}
use Rattle.avr_part.specs.Part.{Part}
use Rattle.avr_session.specs.Runs.{devices}
use Rattle.avr_io.specs.Lines.{error}
use Rattle.avr_tool.specs.Lines.{unopened_pieces}
use Rattle.avr_tool.specs.OverNet.{new_link}
use Rattle.stk_host.specs.Transcript.{LinkState}

-- A connection was accepted. Then the chip file was locked and its chip loaded and served over it, or the chip was
-- refused. Or no connection could be accepted: this was reported, nothing else was done at the desk, and the status is
-- 1. `over` states what happened to the socket, as `IsOverClient` and `IsOverPort` do.
abbrev pub ServesOn : (Option LinkState → Type 0) → Part → Bytes → Bytes → DeskState → DeskState → ℕ → Type 0
ServesOn over part port file old new status = ((link : LinkState) × over (Some link)
    × ServesPart part file READS (devices new_link old) (devices link new) status)
    ⊎ (over None × ReportsLine old new (error (unopened_pieces [] port)) × (status ≡ 1))

-- The contract of `serve_on` and `serve_net`. The part and the chip file of the settings were checked; then a client
-- was served, or none could be accepted. Or the part or the chip file is refused, and the network was left unused.
abbrev pub ServesNet : Type 0 → (Option LinkState → Type 0) → Settings → Bytes → Bytes → DeskState → DeskState
    → ℕ → Type 0
ServesNet unused over settings port file old new status =
    ((part : Part) × (checked_desk : DeskState) × ChecksPart settings file old checked_desk (Ok part)
    × ServesOn over part port file checked_desk new status) ⊎ (ChecksPart settings file old new (Err status) × unused)
