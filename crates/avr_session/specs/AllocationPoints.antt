-- When allocation can fail in a session: at an action that allocates, before anything of it has happened.
use Rattle.std.specs.Prelude.{ℕ, Bool, true, List, [], ◌∷◌, ◌++◌, ◌≡◌, Some}
use Rattle.avr_plan.specs.declared.settings.Switches.{Switches}
use Rattle.avr_io.specs.OutputEvents.{OutputEvent}
use Rattle.avr_part.specs.Part.{Part}
use Rattle.stk_host.specs.Dialog.{Event}
use Rattle.stk_host.specs.Play.{Progress, played_over}
use Rattle.stk_host.specs.Transcript.{Transcript}
use Rattle.stk_host.specs.Tape.{Tape}
use Rattle.avr_session.specs.Standing.{NoFault}
use Rattle.avr_session.specs.Actions.{Action, action_allocates}
use Rattle.avr_session.specs.Session.{actions_dialog}

-- At the start, if the dialog allocates.
abbrev pub AtStartOnly : Bool → Progress → Transcript → List (Event OutputEvent) → Type 0
AtStartOnly allocates before during shown = (allocates ≡ true) × (shown ≡ [])

-- An action that allocates is next, and what happened so far is the whole run of the actions before it.
pub record AtAllocation (part : Part) (switches : Switches) (actions : List Action) (before : Progress)
    (during : Transcript) (shown : List (Event OutputEvent)) : Type 0 where
  pub done : List Action
  pub due : Action
  pub more : List Action
  pub actions_are : actions ≡ done ++ due ∷ more
  pub allocates : action_allocates due ≡ true
  pub next : ℕ
  pub left : Tape
  pub is_played : played_over (actions_dialog part switches done) before during
      ≡ record { events = shown; outcome = Some (NoFault, next, left) }
