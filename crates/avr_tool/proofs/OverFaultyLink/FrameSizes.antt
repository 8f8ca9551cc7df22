-- Every body that a session asks fits a frame: if each other body weighs 1, all that it asks weighs 0.
use Rattle.std.proofs.Common.{◌≡◌, ℕ, ◌-◌, ◌≤◌, List, [], ◌∷◌, map, flat_map, sum_by, length, subst, arith, rules}
use Rattle.std.proofs.lemmas.Bool.Decides.{nat_tests}
use Rattle.std.proofs.lemmas.List.Sums.{sum_by-append, sum_by-cons}
use Rattle.std.specs.Prelude.{All, nat_le, ◌&&◌, if◌then◌else◌}
use Rattle.avr_part.specs.Part.{Part, IsPart}
use Rattle.avr_plan.specs.Plan.{Plan, IsFitted}
use Rattle.stk_frame.specs.Commands.{body}
use Rattle.stk_frame.specs.declared.command.Command.{Command}
use Rattle.stk_host.specs.Dialog.{Dialog, Done, Emit, Ask}
use Rattle.stk_emu.specs.DialogOverExchanges.{SendsValidBodies}
use Rattle.stk_emu.specs.Lawful.{IsFrameBody}
use Rattle.avr_tool.proofs.Each.{each_on}
use Rattle.avr_tool.proofs.Hosts.FrameSizes.{AreSendable, EachSendable, all_sendable}
use Rattle.avr_tool.proofs.WriteOperations.Items.{write_are_steps, read_are_steps}
use Rattle.avr_session.specs.Actions.{Action}
use Rattle.avr_session.specs.Session.{session}
use Rattle.avr_session.specs.PlanSteps.{actions_steps}
use Rattle.avr_tool.proofs.Plans.Fits.{AllFitActions, work_fits}
use Rattle.avr_tool.proofs.Bounds.Weights.{WeighsAtMost, session_weighs}

-- The weight 1 of a body that fits no frame, and 0 of any other.
abbrev unsendable : List ℕ → ℕ
unsendable bytes = if nat_le 1 (length bytes) && nat_le (length bytes) 275 then 0 else 1

-- A body without weight fits a frame.
sendable : (bytes : List ℕ) → unsendable bytes ≤ 0 → IsFrameBody bytes
sendable bytes le = record { some = grind (arith, nat_tests); few = grind (arith, nat_tests) }

-- A dialog whose bodies have no weight sends bodies that fit.
asks_light : {E R : Type 0} (d : Dialog E R) → WeighsAtMost unsendable 0 d → SendsValidBodies d
asks_light (Done r) f = tt
asks_light (Emit e d) f = asks_light d f.1
asks_light (Ask asked resume) f = (
  sendable asked f.0,
  λ reading.
      let none : 0 - unsendable asked ≡ 0 = omega arith in
      asks_light (resume reading) (subst (λ n. WeighsAtMost unsendable n (resume reading)) none (f.1 reading)),
)

-- The commands of a step have no weight.
commands_light : (commands : List Command) → AreSendable commands → sum_by unsendable (map body commands) ≡ 0
commands_light [] s = omega arith
commands_light (command ∷ commands) s =
    let none : unsendable (body command) ≡ 0 = search (rules, nat_tests) in
    omega (arith, none, sum_by-cons unsendable (body command) (map body commands), commands_light commands s.1)

-- Nor have those of all steps.
steps_light : (steps : List (List Command)) → EachSendable steps → sum_by unsendable (flat_map (map body) steps) ≡ 0
steps_light [] s = omega arith
steps_light (commands ∷ steps) s =
    let both = sum_by-append unsendable (map body commands) (flat_map (map body) steps) in
    omega (arith, both, commands_light commands s.0, steps_light steps s.1)

module _ (part : Part) (sound : IsPart part) where
  -- The commands of all actions fit a frame.
  actions_sendable : (actions : List Action) → AllFitActions part actions → EachSendable (actions_steps part actions)
  actions_sendable [] fits = tt
  actions_sendable (action ∷ actions) fits =
      search (rules, each_on, all_sendable, write_are_steps, read_are_steps, actions_sendable actions fits.1)

-- every command of a session
pub session_asks : (plan : Plan) → IsPart plan.part → All (IsFitted plan.part) plan.tasks
    → SendsValidBodies (session plan)
session_asks plan sound fitted =
    search (rules, steps_light, each_on, actions_sendable, work_fits, asks_light, session_weighs)
