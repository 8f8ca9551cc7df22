-- An expected run is fine exactly if its comparisons agree.
use Rattle.std.proofs.Common.{◌≡◌, ℕ, zero, suc, arith, refl, sym, subst, List, [], ◌∷◌, rules}
use Rattle.std.specs.Prelude.{⊤, ◌↔◌}
use Rattle.avr_plan.specs.declared.settings.Switches.{Switches}
use Rattle.avr_part.specs.Part.{Part}
use Rattle.avr_plan.specs.Plan.{Plan}
use Rattle.avr_session.specs.Actions.{Action, actions}
use Rattle.stk_emu.specs.Effect.{Memories, effects}
use Rattle.avr_tool.proofs.StepData.Comparisons.{no_difference, held_same}
use Rattle.avr_tool.proofs.WriteOperations.Pages.{effects_on}
use Rattle.avr_tool.specs.ComparisonsAgree.{ComparisonAgrees, EachComparisonAgrees, ComparisonsAgree}
use Rattle.avr_tool.specs.ExpectedRun.{Expected, next_unless_fault, action_expected, actions_expected, expected_run}
use Rattle.avr_tool.specs.Items.{action_items, actions_items, items}

-- An expected run that is fine exactly if something agrees, and then leaves these memories.
pub record EndsAsActionsAgree (c : Expected) (Agree : Type 0) (left : Memories) : Type 0 where
  pub if_fine : c.status ≡ 0 → Agree
  pub is_fine : Agree → c.status ≡ 0
  pub memories : c.status ≡ 0 → c.memories ≡ left

-- two runs in sequence, the second from the memories that the first leaves
agrees_in_sequence : (first : Expected) (status : ℕ) (next : Memories → Expected) (A B : Type 0)
    (between left : Memories) → first.status ≡ status
    → EndsAsActionsAgree first A between → EndsAsActionsAgree (next between) B left
    → EndsAsActionsAgree (next_unless_fault first status next) (A × B) left
agrees_in_sequence first zero next A B between left is agreement more = search rules
agrees_in_sequence first (suc fault) next A B between left is agreement more = record {
  if_fine = λ fine. absurd (omega (arith, is, fine));
  is_fine = λ agree. agreement.is_fine agree.0;
  memories = λ fine. absurd (omega (arith, is, fine));
}

-- A status other than 0 comes of a fault.
one_fault : {A : Type 0} → ◌≡◌ {A = ℕ} 1 0 → A
one_fault e = absurd (omega (arith, e))

-- ---- an action

-- a run that compares nothing
agrees_without_fault : (c : Expected) → c.status ≡ 0 → EndsAsActionsAgree c ⊤ c.memories
agrees_without_fault c is = record { if_fine = λ f. tt; is_fine = λ agree. is; memories = λ f. refl }

module _ (part : Part) (s : Switches) where
  -- one action: only a comparison can fail
  agrees_for_action : (action : Action) (m : Memories)
      → EndsAsActionsAgree (action_expected part s action m) (ComparisonAgrees part action m)
      (effects part (action_items action) m)
  agrees_for_action action m = search (rules, no_difference, one_fault, held_same, agrees_without_fault)

  -- all actions of a list
  pub agrees_for_actions : (actions : List Action) (m : Memories)
      → EndsAsActionsAgree (actions_expected part s actions m) (EachComparisonAgrees part actions m)
      (effects part (actions_items actions) m)
  agrees_for_actions [] m = record { if_fine = λ f. tt; is_fine = λ agree. refl; memories = λ f. refl }
  agrees_for_actions (action ∷ actions) m =
      subst (EndsAsActionsAgree _ _) (sym (effects_on part (action_items action) (actions_items actions) m))
      (agrees_in_sequence _ _ (actions_expected part s actions) _ _ _ _ refl (agrees_for_action action m)
      (agrees_for_actions actions _))

-- ---- the whole

-- the actions of a plan
agrees_for_plan : (plan : Plan) (m : Memories)
    → EndsAsActionsAgree (actions_expected plan.part plan.switches (actions plan) m) (ComparisonsAgree plan m)
    (effects plan.part (items plan) m)
agrees_for_plan plan m = agrees_for_actions plan.part plan.switches (actions plan) m

-- the expected run has status 0 exactly if the comparisons of its plan agree
pub expected_status : (plan : Plan) (m : Memories) → (expected_run plan m).status ≡ 0 ↔ ComparisonsAgree plan m
expected_status plan m = let agreement = agrees_for_plan plan m in (agreement.if_fine, agreement.is_fine)

-- it then leaves what the items of the plan make of the memories
pub expected_memories : (plan : Plan) (m : Memories) → ComparisonsAgree plan m
    → (expected_run plan m).memories ≡ effects plan.part (items plan) m
expected_memories plan m agree = let agreement = agrees_for_plan plan m in agreement.memories (agreement.is_fine agree)
