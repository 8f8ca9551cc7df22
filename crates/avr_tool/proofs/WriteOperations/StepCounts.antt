-- Each step of a write has one write operation: steps are counted as write operations.
use Rattle.std.proofs.lemmas.Grind.{common_steps}
use Rattle.std.proofs.Common.{◌≡◌, ℕ, suc, List, [], ◌∷◌, ◌++◌, length, take, refl, arith, Bool, cond, rules}
use Rattle.avr_part.specs.declared.part.Mem.{Mem}
use Rattle.avr_part.specs.declared.part.Mem.TheVariants.{Flash}
use Rattle.avr_part.specs.Part.{Part}
use Rattle.stk_frame.specs.declared.command.Command.{Command}
use Rattle.stk_host.specs.WriteSteps.{write_steps}
use Rattle.avr_tool.proofs.Each.{Each, each_on, each_of}
use Rattle.stk_emu.specs.Effect.{Memories, Image, Item, Erase, Write, effects}
use Rattle.stk_emu.specs.WriteOperations.{write_operation_of, write_operations_of, steps_of_items}
use Rattle.avr_tool.proofs.Leads.{memories_after_steps}

-- The step writes once.
abbrev IsWriteOperation : List Command → Type 0
IsWriteOperation commands = length (write_operation_of commands) ≡ 1

-- Each of these steps does.
abbrev AreWriteOperations : List (List Command) → Type 0
AreWriteOperations steps = Each IsWriteOperation steps

-- One more step makes one more write operation.
one_more : (part : Part) (items others : List Item) (steps : List (List Command)) (count : ℕ) (m : Memories)
    → length items ≡ 1 → ((n : Memories) → memories_after_steps part count steps n ≡ effects part (take count others) n)
    → memories_after_steps part count steps (effects part items m) ≡ effects part (take (suc count) (items ++ others)) m
one_more part [] others steps count m e rest = absurd (omega arith)
one_more part items others steps count m e rest = grind (arith, common_steps)

-- so the memories after the first `count` steps are those after the first `count` write operations
pub counted_write_operations : (part : Part) (count : ℕ) (steps : List (List Command)) (m : Memories)
    → AreWriteOperations steps → memories_after_steps part count steps m
    ≡ effects part (take count (write_operations_of steps)) m
counted_write_operations part (suc count) (commands ∷ steps) m are =
    search (rules, one_more, counted_write_operations part count steps)
counted_write_operations part count steps m are = search rules

-- Such steps or none are such steps.
either_are_write_operations : (b : Bool) (x : List (List Command)) → AreWriteOperations x
    → AreWriteOperations (cond b x [])
either_are_write_operations b x f = search rules

-- Each step of a write writes once.
image_write_operations : (part : Part) (mem : Mem) (image : Image) → AreWriteOperations (write_steps part mem image)
image_write_operations part Flash image = search (rules, each_of, either_are_write_operations)
image_write_operations part mem image = search (rules, each_of, either_are_write_operations)

-- So does each step of any items.
pub all_are_write_operations : (part : Part) (items : List Item) → AreWriteOperations (steps_of_items part items)
all_are_write_operations part [] = tt
all_are_write_operations part (Erase ∷ items) = (refl, all_are_write_operations part items)
all_are_write_operations part (Write mem image ∷ items) =
    search (rules, each_on, image_write_operations, all_are_write_operations part items)

-- The memories after some steps of items are those after as many write operations.
pub items_counted : (part : Part) (items : List Item) (count : ℕ) (m : Memories)
    → memories_after_steps part count (steps_of_items part items) m
    ≡ effects part (take count (write_operations_of (steps_of_items part items))) m
items_counted part items count m = search (rules, counted_write_operations, all_are_write_operations)
