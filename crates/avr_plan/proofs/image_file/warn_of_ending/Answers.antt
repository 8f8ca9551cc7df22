use Rattle.std.proofs.Common.{[], ◌∷◌, codes, rules}
use Rattle.avr_io.proofs.Stages.Played.{completed_silently, completed_output, runs_output_in_part}
use Rattle.avr_io.specs.Lines.{warning}
use Rattle.avr_plan.proofs.image_file.warn_of_ending.Goals as goal

pub returns-then-not-warns-clause-goes : goal.returns-then-not-warns-clause-goes
returns-then-not-warns-clause-goes g c = rw (← c.if-not-warns.ensures) (completed_silently _)

pub returns-in-Ok-clause-goes : goal.returns-in-Ok-clause-goes
returns-in-Ok-clause-goes g c = rw (← c.if-not-warns.ensures)
    (completed_output _ _ (warning (c.args.file.now ∷ codes ": no end record" ∷ []))
    c.in-Ok.ensures.printed c.in-Ok.ensures.call.counts.1)

pub returns-in-Err-clause-goes : goal.returns-in-Err-clause-goes
returns-in-Err-clause-goes g c = search (rules, runs_output_in_part)
