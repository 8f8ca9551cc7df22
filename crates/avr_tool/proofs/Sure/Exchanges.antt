-- Exchanges over which each step gives its data: then a run of steps gives all that they give.
use Rattle.std.proofs.Common.{◌≡◌, ℕ, ◌≤◌, List, [], ◌∷◌, ◌++◌, length, sym, ap, ◌∙◌, append_assoc, inl, inr, ◌⊎◌, Ok, rules}
use Rattle.std.proofs.lemmas.List.{append-nil}
use Rattle.std.specs.Prelude.{⊤}
use Rattle.avr_part.specs.Part.{Part, IsPart}
use Rattle.stk_frame.specs.declared.command.Command.{Command}
use Rattle.stk_host.specs.Dialog.{Dialog, Done, ◌>>=◌}
use Rattle.stk_host.specs.Steps.{Data, step, unless_step_fault, play}
use Rattle.stk_host.proofs.Dialogs.Logic.{done, bind, outcome_mapped}
use Rattle.stk_emu.specs.Exchange.{Exchange}
use Rattle.stk_emu.specs.Programmer.{Programmer}
use Rattle.stk_emu.specs.Device.{device}
use Rattle.stk_emu.specs.Effect.{Memories}
use Rattle.stk_emu.specs.Settled.{Ready, FitsPart}
use Rattle.stk_emu.specs.WriteOperations.{memories_after_step, IsStep, AreSteps}
use Rattle.avr_tool.proofs.Leads.{memories_after_steps}
use Rattle.stk_emu.specs.StepData.{data_of_step, data_of_steps}
use Rattle.stk_emu.proofs.Repeatable.{joined_reply, IsRepeatable}
use Rattle.avr_tool.proofs.Hosts.OneLink.{Spot, Runs}
use Rattle.stk_emu.proofs.Replies.Commands.{steady}
use Rattle.avr_tool.proofs.WriteOperations.Steps.{step_ready}
use Rattle.avr_tool.proofs.StepData.EachStep.{step_data, changed_sizes, data_stays}

-- from each programmer under the first condition, over such exchanges, to this result and one under the second
abbrev pub Brings : {R : Type 0} → (List Exchange → Type 0) → (Programmer → Type 0) → Dialog ⊥ R → R
    → (Programmer → Type 0) → Type 0
Brings Such Before d r After = (z : Spot Programmer) → Before z.0 → Such z.1
    → Runs device (λ y. ⊤) (λ got y. ((got ≡ r) × After y.0) × Such y.1) d z

-- a step of at most two commands, which have these data under either condition, brings them
abbrev pub IsSure : (List Exchange → Type 0) → Type 1
IsSure Such = (commands : List Command) (got : List ℕ) (Before After : Programmer → Type 0)
    → IsRepeatable steady commands Before After → length commands ≤ 2
    → ((q : Programmer) → Before q ⊎ After q → joined_reply device commands [] q ≡ Data got)
    → Brings Such Before (step commands) (Ok got) After

module _ (Such : List Exchange → Type 0) where
  -- Two dialogs in sequence bring what the second one brings.
  pub brings_bind : {A B : Type 0} (next : A → Dialog ⊥ B) (a : A) (b : B) (Before Between After : Programmer → Type 0)
      (d : Dialog ⊥ A) → Brings Such Before d a Between → Brings Such Between (next a) b After
      → Brings Such Before (d >>= next) b After
  brings_bind next a b Before Between After d first more z before such = search (rules, bind)

  -- A result in another form is brought, too.
  pub brings_reported : {A B : Type 0} (d : Dialog ⊥ A) (report_line : A → B) (a : A) (Before After : Programmer
      → Type 0) → Brings Such Before d a After → Brings Such Before (d >>= (λ outcome. Done (report_line outcome)))
      (report_line a) After
  brings_reported d report_line a Before After l z before such = search (rules, outcome_mapped)

-- ---- the steps of a host

module _ (part : Part) (sound : IsPart part) where
  -- A step has at most two commands.
  pub step_short : (commands : List Command) → IsStep part commands → length commands ≤ 2
  step_short commands is = search rules

  -- all commands of one attempt have their data, whether or not the step was already done
  data_either : (commands : List Command) (m : Memories) → IsStep part commands → FitsPart part m → (q : Programmer)
      → Ready part m q ⊎ Ready part (memories_after_step part commands m) q
      → joined_reply device commands [] q ≡ Data (data_of_step part commands m)
  data_either commands m is f q (inl t) = step_data part sound commands m q is f t
  data_either commands m is f q (inr t) = step_data part sound commands (memories_after_step part commands m) q is
      (changed_sizes part commands m sound f) t ∙ ap Data (data_stays part sound commands m is)

  module _ (Such : List Exchange → Type 0) (sure : IsSure Such) where
    -- One step brings its data.
    pub brings_one : (commands : List Command) (m : Memories) → IsStep part commands → FitsPart part m
        → Brings Such (Ready part m) (step commands) (Ok (data_of_step part commands m))
        (Ready part (memories_after_step part commands m))
    brings_one commands m is f = search (rules, sure, step_ready, step_short, data_either)

    -- A run of steps brings the data of all.
    pub brings_play : (steps : List (List Command)) (m : Memories) (before : List ℕ) → AreSteps part steps
        → FitsPart part m → Brings Such (Ready part m) (play steps before) (Ok (before ++ data_of_steps part steps m))
        (Ready part (memories_after_steps part (length steps) steps m))
    unfolding play
    brings_play [] m before are f = λ z ready such. done ((ap (λ x. Ok x) (sym (append-nil before)), ready), such)
    brings_play (commands ∷ steps) m before are f =
        let bytes = data_of_step part commands m in
        let after = memories_after_step part commands m in
        brings_bind Such (unless_step_fault (λ got. play steps (before ++ got))) (Ok bytes) _ _ (Ready part after) _ _
        (brings_one commands m are.0 f) (rw (← append_assoc before bytes (data_of_steps part steps after))
        (brings_play steps after (before ++ bytes) are.1 (changed_sizes part commands m sound f)))
