-- The calls of a host over exchanges that are sure: each has all its data, and only the faults that these data give.
use Rattle.std.proofs.Common.{ℕ, List, [], ◌∷◌, refl, subst, arith, inl, Bool, Ok, rules}
use Rattle.avr_plan.specs.declared.settings.Switches.{Switches}
use Rattle.avr_part.specs.declared.part.Mem.TheVariants.{Signature}
use Rattle.avr_part.specs.Part.{Part, IsPart}
use Rattle.avr_session.specs.Actions.{Action, OpenSession}
use Rattle.avr_session.specs.PlanSteps.{action_steps}
use Rattle.stk_frame.specs.HostCommands.{enter, leave}
use Rattle.stk_host.proofs.Dialogs.Logic.{wider}
use Rattle.stk_host.specs.Dialog.{Dialog, ◌>>=◌}
use Rattle.stk_host.specs.Steps.{StepOutcome, step, unless_step_fault, play}
use Rattle.stk_host.specs.ReadSteps.{signature_steps}
use Rattle.stk_host.specs.Operations as host
use Rattle.stk_host.specs.Operations.{checked_by, signature_checked, no_result}
use Rattle.stk_emu.proofs.Replies.Commands.{one_steady, ready_idle, ready_settled}
use Rattle.stk_emu.specs.Device.{device}
use Rattle.stk_emu.specs.Programmer.{Programmer}
use Rattle.stk_emu.specs.Effect.{Memories, effects}
use Rattle.stk_emu.specs.StepData.{data_of_steps}
use Rattle.stk_emu.specs.Settled.{HasMemories, Ready, FitsPart}
use Rattle.stk_emu.specs.Exchange.{Exchange}
use Rattle.avr_tool.proofs.Emulated.{all_work, emulated}
use Rattle.avr_tool.proofs.OverFaultyLink.EachAction.{CallHasOutcome, Passes, operation_comes, opening_comes}
use Rattle.avr_tool.proofs.StepData.Comparisons.{signature_taken}
use Rattle.avr_tool.proofs.Sure.Exchanges.{Brings, IsSure, brings_bind, brings_reported, brings_play}
use Rattle.avr_tool.proofs.StepData.WholeMemories.{read_gives}
use Rattle.avr_tool.proofs.Hosts.Operations.{closing_goes}
use Rattle.avr_tool.proofs.Hosts.OneLink.{Spot, on_link, upholds_both}
use Rattle.avr_tool.proofs.WriteOperations.Items.{read_are_steps}
use Rattle.avr_tool.proofs.WriteOperations.Steps.{enter_ready, leave_steady, leave_fits}
use Rattle.avr_tool.proofs.Plans.Calls.{outcome_of, call_of, is_operation}
use Rattle.avr_tool.proofs.Plans.Fits.{FitsAction}
use Rattle.avr_tool.specs.Items.{action_items}

module _ (Such : List Exchange → Type 0) (sure : IsSure Such) where
  module _ (part : Part) (sound : IsPart part) (m : Memories) (f : FitsPart part m) where
    -- The call of an action brings its outcome.
    operation_brings : (s : Switches) (action : Action) → FitsAction part action
        → Brings Such (Ready part m) (call_of part s action) (outcome_of part action m)
        (Ready part (effects part (action_items action) m))
    unfolding host.operation
    operation_brings s action fits =
        let o = is_operation part s sound m f action fits in
        let steps = action_steps part action in
        rw (← o.call_is, ← o.gives, ← o.all) (brings_reported Such (play steps []) (checked_by o.judge)
        (Ok (data_of_steps part steps m)) _ _ (brings_play part sound Such sure steps m [] o.are f))

    -- SIGN_ON, ENTER and the reading of the signature bring the signature of the part.
    handshake_brings : Brings Such (HasMemories part m) host.handshake (Ok part.signature) (Ready part m)
    unfolding host.handshake
    handshake_brings =
        let read : List ℕ → Dialog ⊥ StepOutcome = λ nothing. play signature_steps [] in
        let name : List ℕ = 0x53 ∷ 0x54 ∷ 0x4B ∷ 0x35 ∷ 0x30 ∷ 0x30 ∷ 0x5F ∷ 0x32 ∷ [] in
        brings_bind Such (unless_step_fault (λ signed. step (enter ∷ []) >>= unless_step_fault read)) (Ok name) _ _
        (HasMemories part m) _ _ (search (rules, sure, one_steady))
        (brings_bind Such (unless_step_fault read) (Ok []) _ _ (Ready part m) _ _
        (sure (enter ∷ []) [] _ _ (enter_ready part m) (omega arith) (λ q stands. refl))
        (subst (λ bytes. Brings Such (Ready part m) (play signature_steps []) (Ok bytes) (Ready part m))
        (read_gives part sound m f Signature)
        (brings_play part sound Such sure signature_steps m [] (read_are_steps part sound Signature) f)))

    -- The opening brings this signature, and accepts it.
    opening_brings : (force : Bool) → Brings Such (HasMemories part m) (host.opening part.signature force)
        (Ok part.signature) (Ready part m)
    unfolding host.opening
    opening_brings force =
        subst (λ r. Brings Such (HasMemories part m) (host.opening part.signature force) r (Ready part m))
        (signature_taken part.signature force) (brings_reported Such host.handshake
        (checked_by (signature_checked part.signature force)) (Ok part.signature) _ _ handshake_brings)

  -- The closing succeeds.
  closing_brings : (part : Part) (m : Memories) → Brings Such (HasMemories part m) host.closing (Ok tt)
      (HasMemories part m)
  unfolding host.closing
  closing_brings part m =
      brings_reported Such _ (checked_by no_result) (Ok []) _ _
      (sure (leave ∷ []) [] _ _ (leave_steady part m) (omega arith) (λ q stands. refl))

  -- ---- the calls of a session

  -- the programmer is in programming mode, and few of the exchanges to come are bad
  abbrev pub AtSure : Part → Memories → Spot Programmer → Type 0
  AtSure part m z = Ready part m z.0 × Such z.1

  -- No step of a session fails over such exchanges.
  pub no_failure : (part : Part) (sound : IsPart part) (s : Switches)
      → Passes part (emulated part sound) s (AtSure part) ⊥
  no_failure part sound s = record {
    idle = λ m z t. ready_idle part m z.0 t.0;
    calls = λ action m z fits f w t.
        wider (λ bytes y r. r) (λ e y x. x) (λ got y x. inl (x.1.0.0, (x.1.0.1, x.1.1)))
        (upholds_both device (on_link device (operation_comes part sound (emulated part sound) s action m fits f w z.0
        (ready_settled part m z.0 t.0)))
        (operation_brings part sound m f s action fits z t.0 t.1));
    closes = λ m z t.
        let i = ready_idle part m z.0 t.0 in
        wider (λ bytes y i. i) (λ e y x. x) (λ r y x. (x.0.0, inl x.1.0.0))
        (upholds_both device (on_link device (closing_goes device (HasMemories part m) (leave_fits part m) z.0 i))
        (closing_brings part m z i t.1));
  }

  -- The opening of a session does not fail over such exchanges.
  pub opens_sure : (part : Part) (sound : IsPart part) (s : Switches) (m : Memories) (z : Spot Programmer)
      → FitsPart part m
      → HasMemories part m z.0 → Such z.1 → CallHasOutcome part (emulated part sound) s (AtSure part) ⊥ OpenSession m z
  opens_sure part sound s m z f idle few =
      wider (λ bytes y r. r) (λ e y x. x) (λ got y x. inl (x.1.0.0, (x.1.0.1, x.1.1)))
      (upholds_both device (on_link device (opening_comes part sound (emulated part sound) s m f
      (all_work part sound signature_steps m) z.0 idle))
      (opening_brings part sound m f s.force z idle few))
