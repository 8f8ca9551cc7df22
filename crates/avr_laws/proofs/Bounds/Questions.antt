-- A session asks at most four times the commands of its plan's steps, because that is what its bodies weigh if each
-- weighs 1.
use Rattle.std.proofs.Common.{◌≡◌, ℕ, zero, suc, ◌*◌, ◌-◌, List, [], ◌∷◌, map, flat_map, sum_by, length, subst, arith, rules}
use Rattle.std.proofs.lemmas.List.Sums.{sum_by-append, sum_by-cons}
use Rattle.avr_io.specs.OutputEvents.{IsPartOfEvent}
use Rattle.avr_plan.specs.Plan.{Plan}
use Rattle.avr_session.specs.Session.{session}
use Rattle.stk_frame.specs.Commands.{body}
use Rattle.stk_frame.specs.declared.command.Command.{Command}
use Rattle.stk_host.specs.Bound.{AsksAtMost, SendsAtMost, commands_in}
use Rattle.stk_host.specs.Dialog.{Dialog, Done, Emit, Ask}
use Rattle.stk_host.proofs.Dialogs.Questions.{sends_asked}
use Rattle.avr_session.specs.PlanSteps.{run_steps}
use Rattle.avr_tool.proofs.Bounds.Weights.{WeighsAtMost, session_weighs}

abbrev one : List ℕ → ℕ
one bytes = 1

-- commands weigh as much as there are
commands_weigh : (commands : List Command) → sum_by one (map body commands) ≡ length commands
commands_weigh [] = omega arith
commands_weigh (command ∷ commands) =
    let more = commands_weigh commands in omega (arith, more, sum_by-cons one (body command) (map body commands))

-- so do the commands of steps
steps_weigh : (steps : List (List Command)) → sum_by one (flat_map (map body) steps) ≡ commands_in steps
steps_weigh [] = omega arith
steps_weigh (commands ∷ steps) =
    let both = sum_by-append one (map body commands) (flat_map (map body) steps) in
    omega (arith, both, commands_weigh commands, steps_weigh steps)

-- a dialog whose bodies weigh at most `n` asks at most `n` commands
asks_weighed : {E R : Type 0} (n : ℕ) (d : Dialog E R) → WeighsAtMost one n d → AsksAtMost n d
asks_weighed n (Done r) weighs = tt
asks_weighed n (Emit e d) weighs = asks_weighed n d weighs.1
asks_weighed zero (Ask asked resume) weighs = let first = weighs.0 in absurd (omega (arith, first))
asks_weighed (suc n) (Ask asked resume) weighs = λ reading.
    let rest : suc n - 1 ≡ n = omega arith in
    asks_weighed n (resume reading) (subst (λ k. WeighsAtMost one k (resume reading)) rest (weighs.1 reading))

-- a session asks at most four times its commands
pub session_most : (plan : Plan) → AsksAtMost (4 * commands_in (run_steps plan)) (session plan)
session_most plan = asks_weighed (4 * commands_in (run_steps plan)) (session plan)
    (subst (λ n. WeighsAtMost one (4 * n) (session plan)) (steps_weigh (run_steps plan)) (session_weighs one plan))

pub session_sends : (plan : Plan) → SendsAtMost IsPartOfEvent (4 * commands_in (run_steps plan)) (session plan)
session_sends plan = sends_asked IsPartOfEvent (4 * commands_in (run_steps plan)) (session plan) (session_most plan)
