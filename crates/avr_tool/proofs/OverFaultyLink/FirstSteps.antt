-- The memories after some first steps of items, and after items one after another.
use Rattle.std.proofs.Common.{◌≡◌, ℕ, suc, ◌+◌, ◌≤◌, List, [], ◌∷◌, ◌++◌, length, refl, ap, ◌∙◌, append_assoc, arith, rules}
use Rattle.std.specs.Prelude.{min}
use Rattle.avr_part.specs.declared.part.Mem.{Mem}
use Rattle.avr_part.specs.declared.part.Mem.TheVariants.{Flash}
use Rattle.avr_part.specs.Part.{Part, IsPart}
use Rattle.stk_frame.specs.declared.command.Command.{Command}
use Rattle.stk_host.specs.ReadSteps.{read_count, read_step, read_steps}
use Rattle.stk_emu.specs.Effect.{Memories, Item, effect, effects}
use Rattle.stk_emu.specs.Settled.{FitsPart}
use Rattle.stk_emu.specs.WriteOperations.{memories_after_step, write_operation_of, steps_of_items}
use Rattle.avr_tool.proofs.Leads.{memories_after_steps}
use Rattle.avr_tool.proofs.Real.{Real, HasMemories}
use Rattle.avr_tool.proofs.Each.{Each, each_of}
use Rattle.avr_tool.proofs.WriteOperations.Items.{items_do, changed_all, effect_sizes, ItemsFit}

-- the memories after some number of first steps, in any mode
pub record Rests {part : Part} (real : Real part) (steps : List (List Command)) (m : Memories) (q : real.P) : Type 0
  where
    pub count : ℕ
    pub stands : HasMemories real (memories_after_steps part count steps m) q

-- a count past the last step changes nothing more
pub changed_min : (part : Part) (count : ℕ) (steps : List (List Command)) (m : Memories)
    → memories_after_steps part (min count (length steps)) steps m ≡ memories_after_steps part count steps m
changed_min part (suc count) (commands ∷ steps) m =
    ap (λ n. memories_after_steps part n (commands ∷ steps) m)
    (let e : min (suc count) (suc (length steps)) ≡ suc (min count (length steps)) = omega arith in e)
    ∙ changed_min part count steps (memories_after_step part commands m)
changed_min part count steps m = search rules

-- the first steps of a list are the first of a longer one
pub changed_prefix : (part : Part) (count : ℕ) (xs ys : List (List Command)) (m : Memories) → count ≤ length xs
    → memories_after_steps part count (xs ++ ys) m ≡ memories_after_steps part count xs m
changed_prefix part (suc count) (commands ∷ xs) ys m few =
    changed_prefix part count xs ys (memories_after_step part commands m) (omega (arith, few))
changed_prefix part count xs ys m few = search rules

-- all these steps, and some of the next
pub changed_behind : (part : Part) (count : ℕ) (xs ys : List (List Command)) (m : Memories)
    → memories_after_steps part (count + length xs) (xs ++ ys) m
    ≡ memories_after_steps part count ys (memories_after_steps part (length xs) xs m)
changed_behind part count [] ys m = search rules
changed_behind part count (commands ∷ xs) ys m =
    ap (λ n. memories_after_steps part n (commands ∷ xs ++ ys) m)
    (let e : count + suc (length xs) ≡ suc (count + length xs) = omega arith in e)
    ∙ changed_behind part count xs ys (memories_after_step part commands m)

-- the steps of two lists of items
pub all_on : (part : Part) (xs ys : List Item) → steps_of_items part (xs ++ ys) ≡ steps_of_items part xs
    ++ steps_of_items part ys
all_on part [] ys = refl
all_on part (item ∷ xs) ys = search (rules, append_assoc, all_on part xs ys)

module _ (part : Part) where
  -- items keep the sizes of the memories
  pub effects_sizes : (sound : IsPart part) (items : List Item) (m : Memories) → FitsPart part m
      → FitsPart part (effects part items m)
  effects_sizes sound [] m f = f
  effects_sizes sound (item ∷ items) m f =
      effects_sizes sound items (effect part item m) (effect_sizes part sound item m f)

  -- all steps of items do what the items do
  pub all_changed : (sound : IsPart part) (items : List Item) (m : Memories) → ItemsFit part items → FitsPart part m
      → memories_after_steps part (length (steps_of_items part items)) (steps_of_items part items) m
      ≡ effects part items m
  all_changed sound items m fits f = changed_all part (steps_of_items part items) m ∙ items_do part sound items m fits f

module _ {part : Part} (real : Real part) where
  -- no step was made yet
  pub rests_here : (steps : List (List Command)) (m : Memories) (q : real.P) → HasMemories real m q
      → Rests real steps m q
  rests_here steps m q idle = record { count = 0; stands = idle }

  -- some first steps are some first of more
  pub rests_before : (xs ys : List Item) (m : Memories) (q : real.P) → Rests real (steps_of_items part xs) m q
      → Rests real (steps_of_items part (xs ++ ys)) m q
  rests_before xs ys m q r =
      record {
        count = min r.count (length (steps_of_items part xs));
        stands = search (rules, all_on, changed_prefix, changed_min);
      }

  -- all steps were made
  pub rests_all : (sound : IsPart part) (items : List Item) (m : Memories) (q : real.P) → ItemsFit part items
      → FitsPart part m → HasMemories real (effects part items m) q → Rests real (steps_of_items part items) m q
  rests_all sound items m q fits f idle = search (rules, all_changed part sound items m fits f)

  -- all of the first steps and some of more
  pub rests_behind : (sound : IsPart part) (xs ys : List Item) (m : Memories) (q : real.P) → ItemsFit part xs
      → FitsPart part m → Rests real (steps_of_items part ys) (effects part xs m) q
      → Rests real (steps_of_items part (xs ++ ys)) m q
  rests_behind sound xs ys m q fits f r =
      record {
        count = r.count + length (steps_of_items part xs);
        stands = search (rules, all_on, changed_behind, all_changed part sound);
      }

-- steps that write nothing
abbrev IsQuiet : List Command → Type 0
IsQuiet commands = write_operation_of commands ≡ []

-- none of these steps writes
abbrev pub AreQuiet : List (List Command) → Type 0
AreQuiet steps = Each IsQuiet steps

-- such steps keep the memories
pub quiet_stays : (part : Part) (count : ℕ) (steps : List (List Command)) (m : Memories) → AreQuiet steps
    → memories_after_steps part count steps m ≡ m
quiet_stays part (suc count) (commands ∷ steps) m quiet = search (rules, quiet_stays part count steps m quiet.1)
quiet_stays part count steps m quiet = search rules

-- reading writes nothing
pub read_quiet : (part : Part) (mem : Mem) → AreQuiet (read_steps part mem)
read_quiet part Flash = each_of IsQuiet (read_step part Flash) 0 (read_count part Flash) (λ i. (refl, tt))
read_quiet part mem = search (rules, each_of)
