use Rattle.std.proofs.Common.{rules, inl, inr}
use Rattle.avr_laws.proofs.runs.a_sound_run_is_its_expected_run.Goals as goal

pub returns-clause-expected_run : goal.returns-clause-expected_run
returns-clause-expected_run c = λ plan before after d e a b status few sound has_memory is_over. search rules

pub returns-clause-images : goal.returns-clause-images
returns-clause-images c = λ plan before after d e a b status few sound has_memory verified erases both is_over.
    elim is_over.end [
      | inl came ↦ let zero = came.0.again few erases both in (zero, came.0.comes.images zero verified)
      | inr broke ↦ absurd (search rules)
    ]
