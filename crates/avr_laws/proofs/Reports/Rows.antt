-- Worked rows: what may not be reported. Nothing was sent, so neither that the chip is erased nor that a byte is
-- written.
use Rattle.std.proofs.lemmas.Grind.{common_steps}
use Rattle.std.proofs.Common.{◌≡◌, ℕ, List, [], ◌∷◌, ◌++◌, Some, None, take, ap, arith, ◌⊎◌, rules}
use Rattle.std.proofs.lemmas.List.{append-nil, reverse-append, take-append-le}
use Rattle.std.specs.Prelude.{codes, reverse, slice_index}
use Rattle.avr_io.specs.Record.{Bytes}
use Rattle.avr_io.specs.Lines.{information}
use Rattle.avr_io.specs.OutputEvents.{OutputEvent, PrintsLine, CreatesFile, WritesFile, WritesOutput}
use Rattle.avr_part.specs.declared.part.Mem.{Mem}
use Rattle.avr_part.specs.declared.part.Mem.TheVariants.{Eeprom}
use Rattle.avr_plan.specs.Plan.{Plan}
use Rattle.avr_plan.specs.declared.planned.Task.TheVariants as task
use Rattle.avr_session.specs.Lines.{fault_line}
use Rattle.stk_emu.specs.Effect.{Image, Memories, Item, Write, effects}
use Rattle.avr_laws.specs.Again.{chip_filled_with}
use Rattle.avr_tool.specs.Items.{items}
use Rattle.avr_laws.specs.TrueReports.{count_line, IsTrueReport}
use Rattle.avr_laws.proofs.SecondRun.PlanRows.{tiny, erasing}

abbrev image : Image
image = Some 3 ∷ None ∷ []

abbrev plan : Plan
plan = record { part = tiny; tasks = task.Write Eeprom image ∷ []; switches = erasing }

-- a chip of 00
abbrev zeros : Memories
zeros = chip_filled_with tiny 0

-- the last bytes of a line, last first
abbrev line_end : OutputEvent → List ℕ
line_end (PrintsLine bytes) = take 10 (reverse bytes)
line_end event = []

-- the same lists one after the other, grouped in another way
regrouped : (m n c d e l : List ℕ) → m ++ ((n ++ (c ++ (d ++ (e ++ [])))) ++ l) ≡ (m ++ (n ++ (c ++ d))) ++ (e ++ l)
regrouped (x ∷ m) n c d e l = ap (λ t. x ∷ t) (regrouped m n c d e l)
regrouped [] (x ∷ n) c d e l = ap (λ t. x ∷ t) (regrouped [] n c d e l)
regrouped [] [] (x ∷ c) d e l = ap (λ t. x ∷ t) (regrouped [] [] c d e l)
regrouped [] [] [] (x ∷ d) e l = ap (λ t. x ∷ t) (regrouped [] [] [] d e l)
regrouped [] [] [] [] e l = ap (λ t. t ++ l) (append-nil e)

-- the last bytes of a line that reports written bytes
written_ends : (mem : Mem) (count : ℕ) → line_end (count_line mem count (codes " bytes written"))
    ≡ take 10 (reverse (codes " bytes written" ++ 10 ∷ []))
written_ends mem count = grind (arith, common_steps, reverse-append, take-append-le)

-- of two equal lists of items
second_item : (a b x y : Item) (more : List Item) → a ∷ b ∷ [] ≡ x ∷ y ∷ more → b ≡ y
second_item a b x y more e = cc

no_third_item : (a b x y : Item) (z : Item) (rest later : List Item) → a ∷ b ∷ [] ≡ x ∷ y ∷ (rest ++ z ∷ later) → ⊥
no_third_item a b x y z [] later e = cc
no_third_item a b x y z (w ∷ rest) later e = cc

-- a chip of 00 isn't what is left after the plan's first write
not_begun : (mem : Mem) (bytes : Image) (first later : List Item) → items plan ≡ first ++ Write mem bytes ∷ later
    → zeros ≡ effects tiny (first ++ Write mem bytes ∷ []) zeros → ⊥
not_begun mem bytes [] later order now = search rules
not_begun mem bytes (x ∷ []) later order now = search (rules, second_item, tiny)
not_begun mem bytes (x ∷ y ∷ rest) later order now = search (rules, no_third_item)

-- the byte of a line at this place, and whether it is a line
abbrev line_byte : ℕ → OutputEvent → ℕ
line_byte place (PrintsLine bytes) = slice_index bytes place
line_byte place event = 0

-- a printed line isn't the save of a file
not_saved : (line file text : Bytes) → (PrintsLine line ≡ CreatesFile file)
    ⊎ ((PrintsLine line ≡ WritesFile text) ⊎ (PrintsLine line ≡ WritesOutput text)) → ⊥
not_saved line file text saves = search rules

-- it can't be reported that a byte of EEPROM is written
never_written : IsTrueReport plan zeros zeros (count_line Eeprom 1 (codes " bytes written")) → ⊥
unfolding fault_line
never_written report = search (rules, not_begun, written_ends, reverse-append, take-append-le, not_saved)

-- nor that the chip is erased
never_erased : IsTrueReport plan zeros zeros (PrintsLine (information (codes "chip erased" ∷ []))) → ⊥
unfolding fault_line
never_erased report = search (rules, not_begun, reverse-append, take-append-le, not_saved)
