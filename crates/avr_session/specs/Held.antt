-- What a session holds before and after a call: for contracts inside this crate.
use Rattle.std.specs.Prelude.{◌≡◌, List, None, Result, ⊤}
use Rattle.avr_io.specs.declared.desk.Desk.{Ghosts as Desks}
use Rattle.avr_session.specs.declared.session.Session.{Session}
use Rattle.avr_session.specs.declared.ending.End.{End}
use Rattle.avr_session.specs.Actions.{Action}
use Rattle.avr_session.specs.Concluding.{standing_after}
use Rattle.avr_session.specs.Outcomes.{EndsWithFaultLine, outcome_of}
use Rattle.avr_session.specs.Performing.{Performing, DoesPlanActions}
use Rattle.avr_session.specs.Runs.{devices}
use Rattle.ghosts.specs.Preserves.{Preserves}
use Rattle.stk_host.specs.declared.link.Link.{Ghosts as Links}

-- The host can be used, and works on the part of the plan.
abbrev pub IsReady : {D L : Type 0} → Session D L → Type 0
IsReady session = (session.host.broken ≡ None) × (session.host.part ≡ session.plan.now.part)

-- A part of a session was run, of the same plan and on the same devices. If a fault ended the session, its line is the
-- last one reported.
pub record RunsSessionPart {D L : Type 0} (link : Links L) (desk : Desks D) (Part : Performing) (old new : Session D L)
    (result : Result ⊤ End) : Type 0 where
  pub performs : Part old.host new.host (devices (link.view old.link.now) (desk.view old.desk.now))
      (devices (link.view new.link.now) (desk.view new.desk.now)) (standing_after result)
  pub plan : new.plan ≡ old.plan
  pub same_link : new.link.ghost_name ≡ old.link.ghost_name
  pub same_desk : new.desk.ghost_name ≡ old.desk.ghost_name
  pub link_kept : Preserves link.started_as old.link.now new.link.now
  pub desk_kept : Preserves desk.started_as old.desk.now new.desk.now
  pub last_line : EndsWithFaultLine new.plan.now.part (desk.view new.desk.now) (outcome_of result)

-- These actions of the plan were done in order, up to the first fault.
abbrev pub Does : {D L : Type 0} → Links L → Desks D → List Action → Session D L → Session D L → Result ⊤ End → Type 0
Does link desk actions old new result = RunsSessionPart link desk (DoesPlanActions old.plan.now actions) old new result
