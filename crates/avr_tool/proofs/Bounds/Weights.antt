-- How much a session asks, by any weight of bodies: at most four times the commands of its plan's steps.
use Rattle.std.proofs.Common.{◌≡◌, ℕ, ◌+◌, ◌*◌, ◌-◌, ◌≤◌, List, [], ◌∷◌, ◌++◌, map, flat_map, sum_by, ap, ◌∙◌, subst, arith, Bool, Ok, Err, Result, rules}
use Rattle.std.proofs.lemmas.Grind.{flat_map-append}
use Rattle.std.proofs.lemmas.List.Sums.{sum_by-append, sum_by-cons}
use Rattle.std.proofs.Math.Nat.{suc-mul}
use Rattle.avr_plan.specs.declared.settings.Switches.{Switches}
use Rattle.avr_io.specs.OutputEvents.{OutputEvent}
use Rattle.avr_part.specs.Part.{Part}
use Rattle.avr_plan.specs.Plan.{Plan}
use Rattle.stk_frame.specs.Commands.{body}
use Rattle.stk_frame.specs.HostCommands.{enter, leave}
use Rattle.stk_frame.specs.declared.command.Command.{Command}
use Rattle.stk_frame.specs.declared.command.Command.TheVariants.{SignOn}
use Rattle.stk_host.specs.declared.fault.HostFault.{HostFault}
use Rattle.stk_host.specs.declared.fault.StepFault.TheVariants.{NoAnswer}
use Rattle.stk_host.specs.Tape.{Reading}
use Rattle.stk_host.proofs.Dialogs.Logic.{World, HoldsFrom, Upholds, NoOutput, done, emit, ask, bind, outcome_mapped, wider, call, attempts}
use Rattle.stk_host.specs.Dialog.{Dialog, Done, ◌>>=◌}
use Rattle.stk_host.specs.Steps.{exchange, Reply, reply_from_reading, with_data, attempt, StepOutcome, step, unless_step_fault, play}
use Rattle.stk_host.specs.ReadSteps.{signature_steps}
use Rattle.stk_host.specs.Operations.{handshake, signature_checked, opening, no_result, closing, checked_by, operation}
use Rattle.stk_host.specs.Bound.{opening_steps, closing_steps}
use Rattle.avr_session.specs.Standing.{Standing, NoFault, Faulty, Over}
use Rattle.avr_session.specs.Actions.{Action, OpenSession, actions}
use Rattle.avr_session.specs.Session.{emits, standing, reported, unless_fault, closing_output, action_dialog, actions_dialog, ending, status_of, session}
use Rattle.avr_session.specs.PlanSteps.{action_steps, actions_steps, run_steps}
use Rattle.avr_tool.proofs.Plans.Calls.{call_of, dialog_is}

-- what is left of a budget after each command, whatever is read
abbrev pub budget : (List ℕ → ℕ) → World ℕ Reading
budget w = record { reads = λ asked left reading. reading; after = λ asked left reading. left - w asked }

-- the commands weigh at most `n`, whatever is read
abbrev pub WeighsAtMost : {E R : Type 0} → (List ℕ → ℕ) → ℕ → Dialog E R → Type 0
WeighsAtMost w n d = HoldsFrom (budget w) (λ asked left. w asked ≤ left) (λ e left. Unit {0}) (λ r left. Unit {0}) d n

module _ (w : List ℕ → ℕ) where
  -- the weight of a step's commands, and of all steps'
  abbrev of_step : List Command → ℕ
  of_step commands = sum_by w (map body commands)

  -- The weight of the commands of all these steps.
  abbrev total : List (List Command) → ℕ
  total steps = sum_by w (flat_map (map body) steps)

  -- The weights of two lists of steps add up.
  total_on : (xs ys : List (List Command)) → total (xs ++ ys) ≡ total xs + total ys
  total_on xs ys = ap (sum_by w) (flat_map-append (map body) xs ys) ∙ sum_by-append w (flat_map (map body) xs) _

  -- a dialog of a call, and of a session, that leaves part of a budget
  abbrev Call : {R : Type 0} → (R → ℕ → Type 0) → Dialog ⊥ R → ℕ → Type 0
  Call After d left = Upholds (budget w) (λ asked left. w asked ≤ left) NoOutput After d left

  -- The same for dialogs that print.
  abbrev OneAction : (Standing → ℕ → Type 0) → Dialog OutputEvent Standing → ℕ → Type 0
  OneAction After d left = Upholds (budget w) (λ asked left. w asked ≤ left) (λ e left. Unit {0}) After d left

  -- it spends at most `n` of any budget
  abbrev Spends : {R : Type 0} → ℕ → Dialog ⊥ R → Type 0
  Spends {R} n d = (k left : ℕ) → n + k ≤ left → Call (λ (r : R) rest. k ≤ rest) d left

  -- Such a dialog spends at most `n` of any budget.
  abbrev Costs : ℕ → Dialog OutputEvent Standing → Type 0
  Costs n d = (k left : ℕ) → n + k ≤ left → OneAction (λ r rest. k ≤ rest) d left

  -- ---- steps

  -- Data lead to more commands, any other reply to none.
  by_reply : {After : Reply → ℕ → Type 0} (go_on : List ℕ → Dialog ⊥ Reply) (reply : Reply) (left : ℕ)
      → ((bytes : List ℕ) → Call After (go_on bytes) left)
      → ((other : Reply) → After other left) → Call After (with_data go_on reply) left
  by_reply go_on reply left each stop = search rules

  -- One attempt weighs at most as much as the step.
  attempt_spends : (commands : List Command) (before : List ℕ) → Spends (of_step commands) (attempt commands before)
  unfolding attempt exchange
  attempt_spends [] before k left le = done (omega (arith, le))
  attempt_spends (command ∷ commands) before k left le =
      let size : of_step (command ∷ commands) ≡ w (body command) + of_step commands =
      sum_by-cons w (body command) (map body commands) in
      ask (omega (arith, le, size))
      (λ reading.
      by_reply (λ bytes. attempt commands (before ++ bytes)) (reply_from_reading command reading)
      (left - w (body command)) (λ bytes. attempt_spends commands (before ++ bytes) k (left - w (body command))
      (omega (arith, le, size))) (λ other. omega (arith, le, size)))

  -- Four attempts weigh at most four times as much.
  step_spends : (commands : List Command) → Spends (4 * of_step commands) (step commands)
  step_spends commands k left le =
      attempts (budget w) (λ asked left. w asked ≤ left) commands (λ more t. more * of_step commands + k ≤ t)
      (λ outcome t. k ≤ t)
      (λ more t e. let size = suc-mul more (of_step commands) in
      wider (λ asked t e. e) (λ e t f. f) (λ reply t e. search rules)
      (attempt_spends commands [] (more * of_step commands + k) t (omega (arith, e, size))))
      (λ fault t e. omega (arith, e)) 4 NoAnswer left le

  -- A step and what follows it spend what all steps weigh.
  then_spends : (commands : List Command) (steps : List (List Command)) (go_on : List ℕ → Dialog ⊥ StepOutcome)
      → ((bytes : List ℕ) → Spends (4 * total steps) (go_on bytes))
      → Spends (4 * total (commands ∷ steps)) (step commands >>= unless_step_fault go_on)
  then_spends commands steps go_on each k left le =
      let size : total (commands ∷ steps) ≡ of_step commands + total steps =
      sum_by-append w (map body commands) (flat_map (map body) steps) in
      bind (step_spends commands (4 * total steps + k) left (omega (arith, le, size))) behind
    where
      -- After a step the rest follows, or a fault ends it.
      behind : (o : StepOutcome) (t : ℕ) → 4 * total steps + k ≤ t
          → Call (λ r rest. k ≤ rest) (unless_step_fault go_on o) t
      behind (Ok bytes) t e = each bytes k t e
      behind (Err fault) t e = done (omega (arith, e))

  -- A run of steps spends at most four times its weight.
  play_spends : (steps : List (List Command)) (before : List ℕ) → Spends (4 * total steps) (play steps before)
  unfolding play
  play_spends [] before = λ k left le. done (omega (arith, le))
  play_spends (commands ∷ steps) before = search (rules, then_spends, play_spends steps)

  -- ---- operations

  -- So does an operation.
  operation_spends : {A : Type 0} (steps : List (List Command)) (judge : List ℕ → Result A HostFault)
      → Spends (4 * total steps) (operation steps judge)
  unfolding operation
  operation_spends steps judge k left le = outcome_mapped (checked_by judge) (play_spends steps [] k left le)
      (λ o t e. e)

  -- So does the opening.
  opening_spends : (signature : List ℕ) (force : Bool) → Spends (4 * total opening_steps) (opening signature force)
  unfolding opening handshake
  opening_spends signature force k left le =
      outcome_mapped (checked_by (signature_checked signature force))
      (then_spends (SignOn ∷ []) ((enter ∷ []) ∷ signature_steps)
      (λ name. step (enter ∷ []) >>= unless_step_fault (λ nothing. play signature_steps []))
      (λ name. search (rules, then_spends, play_spends)) k left le)
      (λ o t e. e)

  -- So does the closing.
  closing_spends : Spends (4 * total closing_steps) closing
  unfolding closing
  closing_spends k left le =
      let size : total closing_steps ≡ of_step (leave ∷ []) + 0 = sum_by-append w (map body (leave ∷ [])) [] in
      outcome_mapped (checked_by no_result) (step_spends (leave ∷ []) k left (omega (arith, le, size))) (λ o t e. e)

  -- ---- the actions of a session

  -- Output costs nothing.
  output_costs : (outputs : List OutputEvent) (s : Standing) (k left : ℕ) → k ≤ left
      → OneAction (λ r rest. k ≤ rest) (emits outputs (Done s)) left
  output_costs [] s k left le = done le
  output_costs (event ∷ outputs) s k left le = emit tt (output_costs outputs s k left le)

  -- An operation and its output cost what the operation does.
  reported_costs : {A : Type 0} (n : ℕ) (operation : Dialog ⊥ (Result A HostFault))
      (is_reported : Result A HostFault → List OutputEvent) → Spends n operation
      → Costs n (reported operation is_reported)
  reported_costs n operation is_reported asks k left le =
      bind (call (asks k left le)) (λ r t e. output_costs (is_reported r) (standing r) k t e)

  module _ (part : Part) (s : Switches) where
    -- The call of an action spends at most four times the weight of its steps.
    call_spends : (action : Action) → Spends (4 * total (action_steps part action)) (call_of part s action)
    call_spends OpenSession = opening_spends part.signature s.force
    call_spends action = search (rules, operation_spends)

    -- So does an action with its output.
    action_costs : (action : Action) → Costs (4 * total (action_steps part action)) (action_dialog part s action)
    action_costs action = subst (Costs (4 * total (action_steps part action))) (dialog_is part s action)
        (search (rules, reported_costs, call_spends))

    -- So do all actions.
    actions_cost : (actions : List Action)
        → Costs (4 * total (actions_steps part actions)) (actions_dialog part s actions)
    actions_cost [] k left le = done (omega (arith, le))
    actions_cost (action ∷ actions) k left le =
        let size = total_on (action_steps part action) (actions_steps part actions) in
        bind (action_costs action (4 * total (actions_steps part actions) + k) left (omega (arith, le, size)))
        (after (actions_cost actions))
      where
        -- The next actions, unless there was a fault.
        after : Costs (4 * total (actions_steps part actions)) (actions_dialog part s actions) → (at : Standing) (t : ℕ)
            → 4 * total (actions_steps part actions) + k ≤ t
            → OneAction (λ r rest. k ≤ rest) (unless_fault (actions_dialog part s actions) at) t
        after more at t e = search (rules, done, more)

    -- So does the end of a session.
    ending_costs : (at : Standing) → Costs (4 * total closing_steps) (ending part s at)
    ending_costs NoFault = reported_costs (4 * total closing_steps) closing (closing_output s.quiet part) closing_spends
    ending_costs Faulty = λ k left le. outcome_mapped (λ closed. Over)
        (reported_costs (4 * total closing_steps) closing (λ _. []) closing_spends k left le) (λ a t e. e)
    ending_costs Over = λ k left le. done (omega (arith, le))

  -- A session weighs at most four times the steps of its plan.
  pub session_weighs : (plan : Plan) → WeighsAtMost w (4 * total (run_steps plan)) (session plan)
  unfolding session
  session_weighs plan =
      let size = total_on (actions_steps plan.part (actions plan)) closing_steps in
      (outcome_mapped {After = λ r rest. Unit {0}} status_of
      (bind (actions_cost plan.part plan.switches (actions plan) (4 * total closing_steps) _ (omega (arith, size)))
      (λ at t e. ending_costs plan.part plan.switches at 0 t (omega (arith, e)))) (λ at t e. tt)).holds
