-- The numbers of faults, which never change: of updates and settings, and of a plan's files, values, parts and tasks.
use Rattle.std.specs.Prelude.{ℕ}
use Rattle.avr_plan.specs.declared.update.UpdateFault.{UpdateFault}
use Rattle.avr_plan.specs.declared.update.UpdateFault.TheVariants as update
use Rattle.avr_plan.specs.declared.settings.SettingsFault.{SettingsFault}
use Rattle.avr_plan.specs.declared.settings.SettingsFault.TheVariants.{NoPart, BadProgrammer, BadPort, NoChip, TooMany, BadUpdate}
use Rattle.avr_plan.specs.declared.settings.SettingsFault.TheVariants.{StandardTaken, Memory}
use Rattle.avr_plan.specs.declared.intake.BadFile.{BadFile}
use Rattle.avr_plan.specs.declared.intake.BadFile.TheVariants.{Record, Raw, Elf, TooLong}
use Rattle.avr_plan.specs.declared.image_file.ReadFault.{ReadFault}
use Rattle.avr_plan.specs.declared.image_file.ReadFault.TheVariants.{File, Image}
use Rattle.avr_plan.specs.declared.plan_fault.PartsFault.{PartsFault}
use Rattle.avr_plan.specs.declared.plan_fault.PartsFault.TheVariants as of_parts
use Rattle.avr_plan.specs.declared.plan_fault.TaskFault.{TaskFault}
use Rattle.avr_plan.specs.declared.plan_fault.TaskFault.TheVariants as of_task
use Rattle.avr_plan.specs.declared.plan_fault.PlanFault.{PlanFault}
use Rattle.avr_plan.specs.declared.plan_fault.PlanFault.TheVariants as of_plan

abbrev pub update_fault_number : UpdateFault → ℕ
update_fault_number update.BadMemory = 1
update_fault_number update.BadOp = 2
update_fault_number update.BadFormat = 3
update_fault_number update.NoFile = 4
update_fault_number update.Memory = 5

abbrev pub settings_fault_number : SettingsFault → ℕ
settings_fault_number NoPart = 1
settings_fault_number (BadProgrammer name) = 2
settings_fault_number (BadPort text) = 3
settings_fault_number TooMany = 4
settings_fault_number (BadUpdate n fault) = 5
settings_fault_number StandardTaken = 6
settings_fault_number Memory = 7
settings_fault_number NoChip = 8

abbrev pub bad_file_number : BadFile → ℕ
bad_file_number fault = elim fault [ Record fault ↦ 1 | Raw fault ↦ 2 | Elf ↦ 3 | TooLong ↦ 4 ]

abbrev pub read_fault_number : ReadFault → ℕ
read_fault_number fault = elim fault [ File fault ↦ 1 | Image bad ↦ 2 ]

abbrev pub parts_fault_number : PartsFault → ℕ
parts_fault_number fault = elim fault [ of_parts.File fault ↦ 1 | of_parts.TooLong ↦ 2 | of_parts.Parts fault ↦ 3 ]

abbrev pub task_fault_number : TaskFault → ℕ
task_fault_number of_task.ReadOnly = 1
task_fault_number (of_task.Values fault) = 2
task_fault_number (of_task.File fault) = 3
task_fault_number of_task.Memory = 4
task_fault_number of_task.Unwarned = 5

abbrev pub plan_fault_number : PlanFault → ℕ
plan_fault_number fault =
    elim fault [ of_plan.PartFile fault ↦ 1 | of_plan.NoPart ↦ 2 | of_plan.Update index fault ↦ 3 ]
