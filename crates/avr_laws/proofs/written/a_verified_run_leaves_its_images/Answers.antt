use Rattle.std.proofs.Common.{rules}
use Rattle.avr_tool.specs.Items.{asked_items}
use Rattle.avr_tool.specs.Written.{written_to}
use Rattle.avr_tool.proofs.Memories.VerifiedRuns.{run_written, shown_succeeds}
use Rattle.avr_laws.proofs.written.a_verified_run_leaves_its_images.Goals as goal

pub returns-clause-images : goal.returns-clause-images
returns-clause-images c = search (rules, run_written)

pub returns-clause-again : goal.returns-clause-again
returns-clause-again c = λ plan before after s mems sound all fits verified run kept.
    shown_succeeds plan.part s (λ mem. written_to plan.part mem (asked_items plan)) after mems kept
    (run_written plan before after all verified run sound fits).images
