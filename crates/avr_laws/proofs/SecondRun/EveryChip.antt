-- What agrees on a chip of nothing but 00 and on one of nothing but FF agrees on every chip.
use Rattle.std.proofs.Common.{◌≡◌, ℕ, zero, suc, ◌<◌, arith, refl, subst, List, [], ◌∷◌, length, get_or, replicate, Bool, true, false, rules}
use Rattle.std.proofs.lemmas.Bool.{true≢false}
use Rattle.std.proofs.lemmas.List.{length-replicate}
use Rattle.std.proofs.lemmas.Nat.Bits.{bit_at-zero}
use Rattle.std.specs.Prelude.{if◌then◌else◌, ⊤}
use Rattle.avr_part.specs.Memory.{blank}
use Rattle.avr_part.specs.Part.{Part}
use Rattle.avr_part.specs.declared.part.Mem.{Mem}
use Rattle.avr_part.specs.declared.part.Mem.TheVariants.{Lock}
use Rattle.avr_plan.specs.Plan.{Plan}
use Rattle.avr_session.specs.Actions.{Action}
use Rattle.stk_emu.specs.Effect.{Image, Memories, Erase, with_image, are_locked, write_effect, effect, effects, memory_in}
use Rattle.stk_emu.specs.StepData.{HoldsImage}
use Rattle.stk_emu.specs.Settled.{FitsPart}
use Rattle.avr_tool.proofs.WriteOperations.EachMemory.{keeps_zeros, laid, leaves_memory, write_is}
use Rattle.avr_laws.specs.Again.{chip_filled_with, AgreesOnTwoChips}
use Rattle.avr_tool.specs.ComparisonsAgree.{ComparisonsAgree, ComparisonAgrees, EachComparisonAgrees}
use Rattle.avr_tool.specs.Items.{action_items, actions_items, items, has_erase}
use Rattle.avr_tool.proofs.Plans.Items.{tasks_write}
use Rattle.avr_laws.proofs.Plans.Items.{plan_agrees}

-- `z` and `zs` are of the chip of 00, `o` and `os` of that of FF, `m` and `ms` of any chip.

-- ---- bytes: if two agree, the third agrees with them

abbrev ThirdAgrees : ℕ → ℕ → ℕ → Type 0
ThirdAgrees z o m = z ≡ o → m ≡ z

abbrev EachThirdAgrees : List ℕ → List ℕ → List ℕ → Type 0
EachThirdAgrees [] [] [] = ⊤
EachThirdAgrees (z ∷ zs) (o ∷ os) (m ∷ ms) = ThirdAgrees z o m × EachThirdAgrees zs os ms
EachThirdAgrees zs os ms = ⊥

-- an image laid over all three
thirds_laid : (image : Image) (zs os ms : List ℕ) → EachThirdAgrees zs os ms
    → EachThirdAgrees (with_image image zs) (with_image image os) (with_image image ms)
thirds_laid image [] [] [] agree = tt
thirds_laid [] (z ∷ zs) (o ∷ os) (m ∷ ms) agree = agree
thirds_laid (b ∷ image) (z ∷ zs) (o ∷ os) (m ∷ ms) agree = ((search rules), thirds_laid image zs os ms agree.1)
thirds_laid image zs os ms agree = absurd agree

record AgreesAt (zs os ms : List ℕ) (i : ℕ) : Type 0 where
  in_zeros : i < length zs
  in_ones : i < length os
  is : ThirdAgrees (get_or zs i 0) (get_or os i 0) (get_or ms i 0)

-- the bytes of one place
third_at : (zs os ms : List ℕ) (i : ℕ) → EachThirdAgrees zs os ms → i < length ms → AgreesAt zs os ms i
third_at (z ∷ zs) (o ∷ os) (m ∷ ms) zero all l = record { in_zeros = omega arith; in_ones = omega arith; is = all.0 }
third_at (z ∷ zs) (o ∷ os) (m ∷ ms) (suc i) all l = search (rules, third_at zs os ms i all.1 (omega (arith, l)))
third_at [] [] [] i all l = absurd (omega (arith, l))
third_at zs os ms i all l = absurd all

-- ---- memories

-- a memory that keeps zeros is the same in all three
abbrev AlikeIn : Bool → List ℕ → List ℕ → List ℕ → Type 0
AlikeIn true zs os ms = (os ≡ zs) × (ms ≡ zs)
AlikeIn false zs os ms = EachThirdAgrees zs os ms

-- an image that is in both is in the third
alike_holds : (zeros : Bool) (image : Image) (zs os ms : List ℕ) → AlikeIn zeros zs os ms → HoldsImage image zs
    → HoldsImage image os → HoldsImage image ms
alike_holds zeros image zs os ms t in_zeros in_ones = search (rules, third_at)

module _ (part : Part) where
  abbrev Between : Memories → Memories → Memories → Type 0
  Between z o m = (mem : Mem)
      → AlikeIn (keeps_zeros mem) (memory_in part mem z) (memory_in part mem o) (memory_in part mem m)

  -- a write to all three
  write_between : (other : Mem) (image : Image) (z o m : Memories) → Between z o m
      → Between (write_effect other image z) (write_effect other image o) (write_effect other image m)
  write_between other image z o m t = λ mem.
      let zeros = keeps_zeros mem in
      let left : Memories → List ℕ = λ x.
      if leaves_memory other mem (are_locked z) then memory_in part mem x else laid zeros image (memory_in part mem x)
      in
      let is : (x : Memories) → x.lock ∷ [] ≡ z.lock ∷ [] → left x ≡ memory_in part mem (write_effect other image x) =
      search (rules, leaves_memory, laid, write_is) in
      let each : AlikeIn zeros (left z) (left o) (left m) =
      (search (rules, thirds_laid)) in
      subst (λ xs. AlikeIn zeros xs (memory_in part mem (write_effect other image o))
      (memory_in part mem (write_effect other image m))) (is z refl)
      (subst (λ xs. AlikeIn zeros (left z) xs (memory_in part mem (write_effect other image m))) (is o (t Lock).0)
      (subst (λ xs. AlikeIn zeros (left z) (left o) xs) (is m (t Lock).1) each))

  -- an action that erases nothing
  items_between : (action : Action) (more : List Action) (z o m : Memories)
      → has_erase (actions_items (action ∷ more)) ≡ false → Between z o m
      → Between (effects part (action_items action) z) (effects part (action_items action) o)
      (effects part (action_items action) m)
  items_between action more z o m none t = search (rules, true≢false, write_between)

  -- ---- comparisons

  -- an action's comparison
  action_between : (action : Action) (z o m : Memories) → Between z o m → ComparisonAgrees part action z
      → ComparisonAgrees part action o → ComparisonAgrees part action m
  action_between action z o m t hz ho = search (rules, alike_holds)

  -- if all actions erase nothing, the later ones don't
  no_erase : (action : Action) (more : List Action) → has_erase (actions_items (action ∷ more)) ≡ false
      → has_erase (actions_items more) ≡ false
  no_erase action more none = search (rules, true≢false)

  -- so it is for all comparisons
  actions_between : (actions : List Action) (z o m : Memories) → has_erase (actions_items actions) ≡ false
      → Between z o m
      → EachComparisonAgrees part actions z → EachComparisonAgrees part actions o → EachComparisonAgrees part actions m
  actions_between [] z o m none t hz ho = tt
  actions_between (action ∷ actions) z o m none t hz ho =
      let next = items_between action actions z o m none t in
      search (
        rules,
        action_between,
        no_erase,
        actions_between actions (effects part (action_items action) z)
            (effects part (action_items action) o) (effects part (action_items action) m) (no_erase action actions none)
            next hz.1 ho.1,
      )

  -- ---- after an erase

  -- bytes 00 and FF never agree, so any third will do
  any_third : (n : ℕ) (ms : List ℕ) → length ms ≡ n → EachThirdAgrees (replicate n 0) (replicate n 255) ms
  any_third zero [] e = tt
  any_third (suc n) (m ∷ ms) e = search (rules, any_third n ms (omega (arith, e)))
  any_third n ms e = absurd (omega (arith, e))

  -- an erase leaves FF as it is
  kept_ones : (keeps : Bool) (n : ℕ) → (if keeps then replicate n 255 else blank (replicate n 255)) ≡ replicate n 255
  kept_ones keeps n = search (rules, length-replicate)

  -- it keeps the size
  kept_size : (keeps : Bool) (xs : List ℕ) (n : ℕ) → length xs ≡ n → length (if keeps then xs else blank xs) ≡ n
  kept_size keeps xs n e = search (rules, length-replicate)

  -- so it is after an erase of all three
  erased_between : (m : Memories) → FitsPart part m → (mem : Mem)
      → AlikeIn (keeps_zeros mem) (memory_in part mem (effect part Erase (chip_filled_with part 0)))
      (memory_in part mem (effect part Erase (chip_filled_with part 255))) (memory_in part mem (effect part Erase m))
  erased_between m f mem = search (rules, length-replicate, bit_at-zero, kept_ones, any_third, kept_size)

-- a plan that agrees on both chips agrees on each
pub agrees_anyway : (plan : Plan) (m : Memories) → FitsPart plan.part m → has_erase (items plan) ≡ true
    → AgreesOnTwoChips plan → ComparisonsAgree plan m
agrees_anyway plan m f erases both = search (rules, plan_agrees, actions_between, tasks_write, erased_between)
