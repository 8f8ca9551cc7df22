-- Nothing comes before the erase of a plan, its items fit the part, and what its comparisons come to.
use Rattle.std.proofs.Common.{◌≡◌, refl, sym, ◌∙◌, List, [], ◌∷◌, ◌++◌, Bool, true, false, rules}
use Rattle.avr_part.specs.Part.{Part}
use Rattle.avr_plan.specs.Plan.{Plan}
use Rattle.avr_session.specs.Actions.{Action, erase_actions, tasks_actions}
use Rattle.stk_emu.specs.Effect.{Memories, Item, Erase, Write, effects}
use Rattle.avr_tool.specs.ComparisonsAgree.{EachComparisonAgrees, ComparisonsAgree}
use Rattle.avr_tool.specs.Items.{actions_items, items, has_erase}
use Rattle.avr_tool.proofs.WriteOperations.Items.{ItemsFit}
use Rattle.avr_tool.proofs.Plans.Items.{erase_if, items_are, tasks_write, writes}
use Rattle.avr_tool.proofs.Plans.Fits.{AllFitActions}

-- items whose last part erases
erases_behind : (xs ys : List Item) → has_erase ys ≡ true → has_erase (xs ++ ys) ≡ true
erases_behind [] ys has = has
erases_behind (Erase ∷ xs) ys has = refl
erases_behind (Write mem image ∷ xs) ys has = erases_behind xs ys has

-- an erase that is due comes first
nothing_before : (due : Bool) (xs first later : List Item) → has_erase xs ≡ false
    → erase_if due ++ xs ≡ first ++ Erase ∷ later → first ≡ []
nothing_before due xs [] later none is = refl
nothing_before due xs (x ∷ first) later none is = search (rules, erases_behind)

-- nothing comes before an erase
pub erase_first : (plan : Plan) (first later : List Item) → items plan ≡ first ++ Erase ∷ later → first ≡ []
erase_first plan first later is =
    nothing_before (has_erase (items plan)) (writes plan) first later (tasks_write plan.switches plan.tasks)
    (sym (items_are plan) ∙ is)

-- comparisons that agree after the erase agree
pub plan_agrees : (plan : Plan) (m : Memories) → EachComparisonAgrees plan.part (tasks_actions plan.switches plan.tasks)
    (effects plan.part (actions_items (erase_actions plan.switches plan.tasks)) m) → ComparisonsAgree plan m
plan_agrees plan m agree = search rules

module _ (part : Part) where
  -- the items of actions that fit the part
  pub items_fit : (actions : List Action) → AllFitActions part actions → ItemsFit part (actions_items actions)
  items_fit [] fits = tt
  items_fit (action ∷ actions) fits = search (rules, items_fit actions fits.1)
