-- Runs that are no longest ones, by the definition.
use Rattle.std.proofs.Common.{[], ◌∷◌, refl, arith}
use Rattle.std.specs.Prelude.{Some, None}
use Rattle.avr_image.specs.Walk.{IsLongestRun}

-- a byte follows the run
pub a_run_cut_short : IsLongestRun (Some 1 ∷ Some 2 ∷ []) (0, 1 ∷ []) → ⊥
a_run_cut_short longest = cc longest.behind

-- a byte precedes the run
pub a_run_begun_late : IsLongestRun (Some 1 ∷ Some 2 ∷ []) (1, 2 ∷ []) → ⊥
a_run_begun_late longest = cc (longest.before 0 refl)

-- the run has no byte
pub a_run_of_nothing : IsLongestRun (Some 1 ∷ None ∷ []) (1, []) → ⊥
a_run_of_nothing longest = omega (arith, longest.some)
