-- The outline of a session: how many frames it sends, and which pages of flash it writes.
use Rattle.std.specs.Prelude.{◌≡◌, ◌⊎◌, ◌+◌, ◌-◌, ◌*◌, ◌/◌, ◌^◌, ◌++◌, min, ℕ, zero, suc, List, [], ◌∷◌, map, Option, codes, decimal, if◌then◌else◌}
use Rattle.std.specs.List.{concat}
use Rattle.avr_plan.specs.declared.settings.Settings.{Settings}
use Rattle.avr_io.specs.Lines.{error, memory_pieces}
use Rattle.avr_io.specs.Record.{Bytes, DeskState, ChangesRecord}
use Rattle.avr_io.specs.OutputEvents.{ReportsLine}
use Rattle.avr_io.specs.Stream.{SendsPart, after_sent}
use Rattle.avr_io.specs.declared.stream.Stream.TheVariants.{Output}
use Rattle.avr_image.specs.Image.{holds_any}
use Rattle.avr_part.specs.Part.{Part}
use Rattle.avr_part.specs.declared.part.Mem.TheVariants.{Flash}
use Rattle.avr_plan.specs.Plan.{Plan}
use Rattle.avr_plan.specs.declared.planned.Task.{Task}
use Rattle.avr_plan.specs.declared.planned.Task.TheVariants.{Write}
use Rattle.avr_session.specs.PlanSteps.{run_steps}
use Rattle.avr_session.specs.Run.{LacksPlan, WithPlan}
use Rattle.stk_host.specs.Bound.{commands_in}

-- A number and the character after it.
abbrev pub number_line : ℕ → ℕ → Bytes
number_line number end = decimal number ++ end ∷ []

-- The line of a page in which the image holds a byte: `flash ADDRESS SIZE`.
abbrev pub page_text : Part → List (Option ℕ) → ℕ → Bytes
page_text part image page = if holds_any image (page * part.flash_page) part.flash_page
    then codes "flash " ++ (number_line (page * part.flash_page) 32 ++ number_line part.flash_page 10) else []

-- The lines of the pages from this one on.
abbrev pub pages_text : Part → List (Option ℕ) → ℕ → ℕ → Bytes
pages_text part image page zero = []
pages_text part image page (suc count) = page_text part image page ++ pages_text part image (page + 1) count

-- The pages that a task writes. Only writes of flash have some.
abbrev pub task_text : Part → Task → Bytes
task_text part (Write Flash image) = pages_text part image 0 (part.flash_size / part.flash_page)
task_text part task = []

-- The number of frames, at most 2^64 - 1, and the pages of flash that each task writes.
abbrev pub outline_text : Plan → Bytes
outline_text plan = codes "frames " ++ number_line (min (2 ^ 64 - 1) (commands_in (run_steps plan))) 10
    ++ concat (map (task_text plan.part) plan.tasks)

-- The text was printed with status 0, or a prefix of it with status 1; or allocation failed, and this was reported.
abbrev pub PrintsOutline : Bytes → DeskState → DeskState → ℕ → Type 0
PrintsOutline text old new zero = ChangesRecord (after_sent Output text) old new
PrintsOutline text old new status =
    (status ≡ 1) × (SendsPart Output old new text ⊎ ReportsLine old new (error memory_pieces))

-- The files were read and checked as for a run. Then the outline of its session was printed; or there is no plan.
abbrev pub Outlines : Settings → DeskState → DeskState → ℕ → Type 0
Outlines settings old new status =
    WithPlan settings old (λ plan desk. PrintsOutline (outline_text plan) desk new status)
    ⊎ LacksPlan settings old new status
