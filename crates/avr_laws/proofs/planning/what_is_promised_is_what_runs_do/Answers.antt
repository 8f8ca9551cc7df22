use Rattle.avr_laws.proofs.Asked.Settings.{settings_are, settings_read}
use Rattle.avr_laws.proofs.Held.Chip.{from_file, in_file}
use Rattle.avr_laws.proofs.Held.Files.{file_read, held_file}
use Rattle.avr_laws.proofs.Held.Parts.{held_parts, parts_read}
use Rattle.avr_laws.proofs.Held.Values.{held_values, values_read}
use Rattle.clap.specs.Words.{matches_of}
use Rattle.avr_plan.specs.Command.{avrstk}
use Rattle.std.proofs.Common.{Some, sym}
use Rattle.avr_laws.proofs.Outcomes.ByTasks.{actions_agree, tasks_agree}
use Rattle.avr_laws.proofs.planning.what_is_promised_is_what_runs_do.Goals as goal

pub returns-clause-settings : goal.returns-clause-settings
returns-clause-settings c = λ words settings. (
  λ asks. (sym (settings_read (matches_of avrstk words) settings asks), asks.runs),
  λ is. settings_are (matches_of avrstk words) settings (sym is.0) is.1,
)

pub returns-clause-values : goal.returns-clause-values
returns-clause-values c = λ text size image. (values_read text size image, held_values text size image)

pub returns-clause-images : goal.returns-clause-images
returns-clause-images c = λ kind text size image. (
  file_read kind text size image,
  λ is. held_file kind text size image is.0 is.1,
)

pub returns-clause-parts : goal.returns-clause-parts
returns-clause-parts c = λ text parts. (parts_read text parts, held_parts text parts)

pub returns-clause-chips : goal.returns-clause-chips
returns-clause-chips c = λ part bytes chip. (from_file part (Some bytes) chip, in_file part (Some bytes) chip)

pub returns-clause-comparisons : goal.returns-clause-comparisons
returns-clause-comparisons c = λ plan m. (actions_agree plan m, tasks_agree plan m)
