-- The write operations of a plan that erases: an erase and writes, which keep EEPROM if the plan's do.
use Rattle.std.proofs.lemmas.Grind.{common_steps}
use Rattle.std.proofs.Common.{◌≡◌, ℕ, zero, suc, ◌+◌, refl, sym, ◌∙◌, subst, List, [], ◌∷◌, ◌++◌, Bool, true, false, cond, Option, Some, rules, arith}
use Rattle.std.proofs.lemmas.Bool.{true≢false}
use Rattle.std.specs.Prelude.{take, ⊤, All}
use Rattle.avr_image.specs.Image.{byte_at}
use Rattle.avr_part.specs.Part.{Part, IsPart}
use Rattle.avr_part.specs.declared.part.Mem.{Mem}
use Rattle.avr_part.specs.declared.part.Mem.TheVariants.{Hfuse}
use Rattle.avr_plan.specs.Plan.{Plan, IsFitted}
use Rattle.stk_frame.specs.declared.command.Command.{Command}
use Rattle.stk_host.specs.Places.{each_from}
use Rattle.stk_host.specs.WriteSteps.{byte_steps, write_steps}
use Rattle.stk_emu.specs.Effect.{Image, Memories, Item, Erase, Write, erase_keeps_eeprom, effect, effects}
use Rattle.stk_emu.specs.Settled.{FitsPart}
use Rattle.stk_emu.specs.WriteOperations.{write_operations_of, steps_of_items}
use Rattle.avr_tool.proofs.WriteOperations.Items.{items_do, effect_sizes, ItemsFit}
use Rattle.avr_tool.proofs.WriteOperations.Pages.{write_operations_append}
use Rattle.avr_laws.specs.Again.{byte_keeps_eeprom, ItemsKeepEeprom}
use Rattle.avr_tool.specs.Items.{items, has_erase}
use Rattle.avr_tool.specs.Outcome.{write_operations}
use Rattle.avr_laws.proofs.SecondRun.NetWrites.{first_again, first_writes_again}
use Rattle.avr_tool.proofs.Each.{Each, each_on}
use Rattle.avr_tool.proofs.Plans.Fits.{work, work_fits}
use Rattle.avr_laws.proofs.Plans.Items.{items_fit}
use Rattle.avr_tool.proofs.Plans.Items.{writes, erase_if, tasks_write, items_are}
use Rattle.avr_tool.proofs.OverFaultyLink.FirstSteps.{effects_sizes}

-- a write, and if this is wanted one that keeps EEPROM
abbrev Mild : Part → Type 0 → Item → Type 0
Mild part want Erase = ⊥
Mild part want (Write Hfuse image) = want → byte_keeps_eeprom part (byte_at image 0) ≡ true
Mild part want (Write mem image) = ⊤

abbrev AllMild : Part → Type 0 → List Item → Type 0
AllMild part want items = Each (Mild part want) items

-- the first ones of mild items
mild_take : (part : Part) (want : Type 0) (k : ℕ) (xs : List Item) → AllMild part want xs
    → AllMild part want (take k xs)
mild_take part want zero xs f = tt
mild_take part want (suc k) [] f = tt
mild_take part want (suc k) (x ∷ xs) f = (f.0, mild_take part want k xs f.1)

-- mild items erase nothing
mild_writes : (part : Part) (want : Type 0) (xs : List Item) → AllMild part want xs → has_erase xs ≡ false
mild_writes part want [] f = refl
mild_writes part want (Erase ∷ xs) f = absurd f.0
mild_writes part want (Write mem image ∷ xs) f = mild_writes part want xs f.1

-- writes that keep EEPROM are mild
all_mild : (part : Part) (want : Type 0) (xs : List Item) → has_erase xs ≡ false → (want → ItemsKeepEeprom part xs)
    → AllMild part want xs
all_mild part want [] f k = tt
all_mild part want (Erase ∷ xs) f k = absurd (true≢false f)
all_mild part want (Write mem image ∷ xs) f k = search (rules, all_mild part want xs f (λ w. (k w).1))

-- ---- EEPROM stays kept

module _ (part : Part) where
  -- a mild item keeps what keeps EEPROM
  item_keeps : (want : Type 0) → want → (item : Item) (m : Memories) → Mild part want item
      → erase_keeps_eeprom part m ≡ true → erase_keeps_eeprom part (effect part item m) ≡ true
  item_keeps want w item m f e = search rules

  -- so do mild items
  items_keep : (want : Type 0) → want → (xs : List Item) (m : Memories) → AllMild part want xs
      → erase_keeps_eeprom part m ≡ true → erase_keeps_eeprom part (effects part xs m) ≡ true
  items_keep want w [] m f e = e
  items_keep want w (x ∷ xs) m f e = items_keep want w xs (effect part x m) f.1 (item_keeps want w x m f.0 e)

  -- and some first ones, after an erase
  first_keep : (want : Type 0) → want → (k : ℕ) (xs : List Item) (m : Memories) → AllMild part want xs
      → erase_keeps_eeprom part m ≡ true → erase_keeps_eeprom part (effects part (take k (Erase ∷ xs)) m) ≡ true
  first_keep want w zero xs m f e = e
  first_keep want w (suc k) xs m f e = items_keep want w (take k xs) (effect part Erase m) (mild_take part want k xs f)
      e

  -- ---- the write operations of writes

  module _ (want : Type 0) where
    abbrev MildSteps : List (List Command) → Type 0
    MildSteps steps = AllMild part want (write_operations_of steps)

    -- steps one after the other
    steps_join : (xs ys : List (List Command)) → MildSteps xs → MildSteps ys → MildSteps (xs ++ ys)
    steps_join xs ys f g = search (rules, write_operations_append, each_on)

    -- a step for each place
    each_mild : (steps_at : ℕ → List (List Command)) (place count : ℕ) → ((i : ℕ) → MildSteps (steps_at i))
        → MildSteps (each_from steps_at place count)
    each_mild steps_at place zero each = tt
    each_mild steps_at place (suc count) each = search (rules, steps_join, each_mild steps_at (place + 1) count each)

    -- a step that a test leaves out
    either_mild : (b : Bool) (x : List (List Command)) → MildSteps x → MildSteps (cond b x [])
    either_mild b x f = search rules

    -- a step of one byte
    byte_mild : (program : ℕ → Command) (o : Option ℕ) → ((v : ℕ) → o ≡ Some v → MildSteps ((program v ∷ []) ∷ []))
        → MildSteps (byte_steps program o)
    byte_mild program o each = search rules

    -- the steps of a write
    write_mild : (mem : Mem) (image : Image) → Mild part want (Write mem image) → MildSteps (write_steps part mem image)
    write_mild mem image f = search (rules, each_mild, either_mild, byte_mild)

    -- the write operations of mild items are mild
    write_operations_mild : (xs : List Item) → AllMild part want xs → MildSteps (steps_of_items part xs)
    write_operations_mild [] f = tt
    write_operations_mild (Erase ∷ xs) f = absurd f.0
    write_operations_mild (Write mem image ∷ xs) f = grind (arith, steps_join, write_mild, write_operations_mild xs f.1)

-- ---- the items of a plan

-- some write operations of an erase and writes, and then all items
some_write_operations_again : (part : Part) (sound : IsPart part) (xs : List Item) (k : ℕ) (m : Memories)
    → ItemsFit part xs → FitsPart part m → has_erase xs ≡ false
    → (erase_keeps_eeprom part m ≡ true → ItemsKeepEeprom part xs)
    → effects part (Erase ∷ xs) (effects part (take k (write_operations_of (steps_of_items part (Erase ∷ xs)))) m)
    ≡ effects part (Erase ∷ xs) m
some_write_operations_again part sound xs k m fits f writes kept =
    let ys = write_operations_of (steps_of_items part xs) in
    let mild : AllMild part (erase_keeps_eeprom part m ≡ true) ys =
    search (rules, write_operations_mild, all_mild, writes) in
    let some = effects part (take k (Erase ∷ ys)) m in
    let same : (x : Memories) → FitsPart part x → effects part (Erase ∷ ys) x ≡ effects part (Erase ∷ xs) x =
    λ x g. items_do part sound xs (effect part Erase x) fits (effect_sizes part sound Erase x g) in
    sym (same some (effects_sizes part sound (take k (Erase ∷ ys)) m f))
    ∙ (search (rules, first_again, mild_writes, first_keep))

-- the same without an erase
some_writes_again : (part : Part) (sound : IsPart part) (xs : List Item) (k : ℕ) (m : Memories) → ItemsFit part xs
    → FitsPart part m → has_erase xs ≡ false
    → effects part xs (effects part (take k (write_operations_of (steps_of_items part xs))) m) ≡ effects part xs m
some_writes_again part sound xs k m fits f writes =
    let ys = write_operations_of (steps_of_items part xs) in
    let mild : AllMild part ⊥ ys = write_operations_mild part ⊥ xs (all_mild part ⊥ xs writes (λ w. absurd w)) in
    let some = effects part (take k ys) m in
    sym (items_do part sound xs some fits (effects_sizes part sound (take k ys) m f))
    ∙ (first_writes_again part k ys m (mild_writes part ⊥ ys mild) ∙ items_do part sound xs m fits f)

-- both
items_again : (part : Part) (sound : IsPart part) (due : Bool) (xs : List Item) (k : ℕ) (m : Memories)
    → ItemsFit part (erase_if due ++ xs) → FitsPart part m → has_erase xs ≡ false
    → (due ≡ true → erase_keeps_eeprom part m ≡ true → ItemsKeepEeprom part (erase_if due ++ xs))
    → effects part (erase_if due ++ xs) (effects part
    (take k (write_operations_of (steps_of_items part (erase_if due ++ xs)))) m) ≡ effects part (erase_if due ++ xs) m
items_again part sound due xs k m fits f writes kept =
    grind (arith, common_steps, some_write_operations_again, some_writes_again)

-- so it is with a plan
pub plan_again : (plan : Plan) (k : ℕ) (m : Memories) → IsPart plan.part → All (IsFitted plan.part) plan.tasks
    → FitsPart plan.part m
    → (has_erase (items plan) ≡ true → erase_keeps_eeprom plan.part m ≡ true → ItemsKeepEeprom plan.part (items plan))
    → effects plan.part (items plan) (effects plan.part (take k (write_operations plan)) m)
    ≡ effects plan.part (items plan) m
plan_again plan k m sound fitted f kept =
    let part = plan.part in
    let due = has_erase (items plan) in
    let are = items_are plan in
    subst (λ all. effects part all (effects part (take k (write_operations_of (steps_of_items part all))) m)
    ≡ effects part all m) (sym are)
    (items_again part sound due (writes plan) k m
    (subst (ItemsFit part) are (items_fit part (work plan) (work_fits plan fitted))) f
    (tasks_write plan.switches plan.tasks)
    (λ erases keeps. subst (ItemsKeepEeprom part) are (kept erases keeps)))
