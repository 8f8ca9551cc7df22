use Rattle.std.proofs.Common.{◌≡◌, List, [], ◌∷◌, ◌++◌, refl, rules}
use Rattle.avr_plan.specs.declared.settings.Switches.{Switches}
use Rattle.avr_part.specs.Part.{Part}
use Rattle.stk_host.specs.Dialog.{◌>>=◌}
use Rattle.stk_host.proofs.Dialogs.Bound.{bind_done, bind_assoc}
use Rattle.avr_session.specs.Actions.{Action}
use Rattle.avr_session.specs.Session.{unless_fault, action_dialog, actions_dialog}

-- a list of one action has that action's dialog
pub actions_dialog_one : (part : Part) (s : Switches) (action : Action) → actions_dialog part s (action ∷ [])
    ≡ action_dialog part s action
actions_dialog_one part s action = search (rules, bind_done (action_dialog part s action))

-- after a fault in the first of two lists the second is skipped
pub actions_dialog_append : (part : Part) (s : Switches) (xs ys : List Action)
    → actions_dialog part s (xs ++ ys) ≡ actions_dialog part s xs >>= unless_fault (actions_dialog part s ys)
actions_dialog_append part s [] ys = refl
actions_dialog_append part s (x ∷ xs) ys =
    search (rules, bind_assoc, actions_dialog_append part s xs ys)
