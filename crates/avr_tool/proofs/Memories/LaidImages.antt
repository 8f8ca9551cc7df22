-- What writes leave in a memory: their images laid over each other, and elsewhere the bytes before.
use Rattle.std.proofs.Common.{◌≡◌, ℕ, zero, suc, ◌≤◌, arith, refl, ap, List, [], ◌∷◌, ◌++◌, length, get_or, slice_index, Bool, true, false, Option, None, rules}
use Rattle.std.proofs.lemmas.Bool.{true≢false}
use Rattle.std.proofs.lemmas.List.{length-replicate}
use Rattle.std.specs.Str.{bytes_eq}
use Rattle.std.specs.Prelude.{if◌then◌else◌}
use Rattle.avr_plan.specs.declared.settings.Switches.{Switches}
use Rattle.std.specs.Option.{option_or}
use Rattle.avr_image.specs.Image.{empty, byte_at, over}
use Rattle.avr_part.specs.Mem.{name_of}
use Rattle.avr_part.specs.Part.{Part, size_of}
use Rattle.avr_part.specs.declared.part.Mem.{Mem}
use Rattle.avr_plan.specs.declared.planned.Task.{Task}
use Rattle.avr_plan.specs.declared.planned.Task.TheVariants as task
use Rattle.avr_session.specs.Actions.{SkippedWrite, Action, WriteImage, CompareImage, SkipAction, tasks_actions}
use Rattle.stk_emu.specs.Effect.{Image, Memories, with_image, and_in, write_effect, effects, memory_in}
use Rattle.stk_emu.specs.StepData.{HoldsImage}
use Rattle.stk_emu.proofs.Memories.LaidImages.{length-laid, length-and_in}
use Rattle.avr_tool.proofs.WriteOperations.EachMemory.{same_memory, write_is, others_stay}
use Rattle.avr_tool.specs.ComparisonsAgree.{EachComparisonAgrees}
use Rattle.avr_tool.specs.Items.{actions_items}
use Rattle.avr_tool.specs.Written.{written_to}
use Rattle.avr_tool.proofs.Plans.Fits.{AllFitActions}

-- ---- images laid over each other, byte by byte

-- An empty image has no byte.
byte_of_empty : (size i : ℕ) → byte_at (empty size) i ≡ None
byte_of_empty (suc size) (suc i) = byte_of_empty size i
byte_of_empty size i = refl

-- An image over another keeps the size.
length-over : (a b : Image) → length (over a b) ≡ length a
length-over (x ∷ a) (y ∷ b) = ap suc (length-over a b)
length-over a b = refl

-- A byte of an image over another is the later one, if there is one.
byte_of_over : (a b : Image) (i : ℕ) → length b ≤ length a → byte_at (over a b) i
    ≡ option_or (byte_at b i) (byte_at a i)
byte_of_over [] (y ∷ b) i l = absurd (omega (arith, l))
byte_of_over (x ∷ a) (y ∷ b) (suc i) l = byte_of_over a b i (omega (arith, l))
byte_of_over a b i l = refl

-- ---- a write to bytes

-- The number of bytes stays, and so does each byte for which the image has none.
pub record Keeps (image : Image) (old new : List ℕ) : Type 0 where
  pub size : length new ≡ length old
  pub rest : (i : ℕ) → byte_at image i ≡ None → get_or new i 0 ≡ get_or old i 0

-- An image that is laid over bytes leaves those for which it has none.
rest_laid : (image : Image) (xs : List ℕ) (i : ℕ) → byte_at image i ≡ None
    → get_or (with_image image xs) i 0 ≡ get_or xs i 0
rest_laid image [] i e = refl
rest_laid [] (x ∷ xs) i e = refl
rest_laid (b ∷ image) (x ∷ xs) zero e = search rules
rest_laid (b ∷ image) (x ∷ xs) (suc i) e = rest_laid image xs i e

-- So does an image in a memory that only loses bits.
rest_anded : (image : Image) (xs : List ℕ) (i : ℕ) → byte_at image i ≡ None
    → get_or (and_in image xs) i 0 ≡ get_or xs i 0
rest_anded image [] i e = refl
rest_anded [] (x ∷ xs) i e = refl
rest_anded (b ∷ image) (x ∷ xs) zero e = search rules
rest_anded (b ∷ image) (x ∷ xs) (suc i) e = rest_anded image xs i e

-- So does a write.
pub write_keeps : (part : Part) (mem : Mem) (image : Image) (m : Memories)
    → Keeps image (memory_in part mem m) (memory_in part mem (write_effect mem image m))
write_keeps part mem image m = search (rules, write_is, length-and_in, rest_anded, length-laid, rest_laid)

-- ---- what is left of one memory

-- It is as large as before, holds the image, and elsewhere its earlier bytes.
pub record Left (part : Part) (mem : Mem) (image : Image) (old new : Memories) : Type 0 where
  pub size : length (memory_in part mem new) ≡ length (memory_in part mem old)
  pub shows : HoldsImage image (memory_in part mem new)
  pub rest : (i : ℕ) → byte_at image i ≡ None
      → slice_index (memory_in part mem new) i ≡ slice_index (memory_in part mem old) i

module _ (part : Part) where
  -- Nothing was written.
  left_as_it_is : (mem : Mem) (size : ℕ) (m : Memories) → Left part mem (empty size) m m
  left_as_it_is mem size m = search (rules, byte_of_empty)

  -- One write, after which the memory holds the image.
  left_by_write : (mem : Mem) (image : Image) (m : Memories)
      → HoldsImage image (memory_in part mem (write_effect mem image m))
      → Left part mem image m (write_effect mem image m)
  left_by_write mem image m shows = search (rules, write_keeps)

  -- One write after another.
  left_over : (mem : Mem) (first second : Image) (old between new : Memories) → length second ≤ length first
      → Left part mem first old between → Left part mem second between new → Left part mem (over first second) old new
  left_over mem first second old between new l a b = search (rules, byte_of_over)

  -- ---- what actions leave

  -- The images written to a memory have its size together.
  length-written_to : (mem : Mem) (actions : List Action) → AllFitActions part actions
      → length (written_to part mem (actions_items actions)) ≡ size_of mem part
  length-written_to mem [] fit = length-replicate {A = Option ℕ} (size_of mem part) None
  length-written_to mem (action ∷ actions) fit =
      search (rules, length-over, same_memory, length-written_to mem actions fit.1)

  -- A write of this memory or of another one, and then more.
  write_left : (mem other : Mem) (image more : Image) (m new : Memories) (same : Bool)
      → bytes_eq (name_of other) (name_of mem) ≡ same → length image ≡ size_of other part
      → length more ≡ size_of mem part → HoldsImage image (memory_in part other (write_effect other image m))
      → Left part mem more (write_effect other image m) new
      → Left part mem (if same then over image more else more) m new
  write_left mem other image more m new true e fits size shows left =
      let is = same_memory other mem e in
      search (rules, left_by_write, left_over)
  write_left mem other image more m new false e fits size shows left = search (rules, others_stay)

  -- what actions that agree leave of a memory
  abbrev Leave : Mem → List Action → Memories → Type 0
  Leave mem actions m = AllFitActions part actions → EachComparisonAgrees part actions m
      → Left part mem (written_to part mem (actions_items actions)) m (effects part (actions_items actions) m)

  -- A task that writes, and then more actions.
  write_leaves : (dry left_out : Bool) (mem other : Mem) (image : Image) (more : List Action) (m : Memories)
      → left_out ≡ false → ((now : Memories) → Leave mem more now)
      → Leave mem ((if dry then SkipAction (SkippedWrite other image) ∷ []
      else WriteImage other image ∷ (if left_out then [] else CompareImage other image ∷ [])) ++ more) m
  write_leaves true left_out mem other image more m e rest fit agree = rest m fit.1 agree.1
  write_leaves false true mem other image more m e rest fit agree = absurd (true≢false e)
  write_leaves false false mem other image more m e rest fit agree =
      write_left mem other image _ m _ _ refl fit.0.0 (length-written_to mem more fit.1.1) agree.1.0
      (rest _ fit.1.1 agree.1.1)

  -- if writes are read back
  pub tasks_left : (s : Switches) → s.no_verify ≡ false → (mem : Mem) (tasks : List Task) (m : Memories)
      → Leave mem (tasks_actions s tasks) m
  tasks_left s verified mem [] m fit agree = left_as_it_is mem (size_of mem part) m
  tasks_left s verified mem (task ∷ tasks) m fit agree = search (rules, write_leaves, tasks_left s verified mem tasks)
