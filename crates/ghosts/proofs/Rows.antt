-- Outcomes that the definitions refuse, and one that they admit.
use Rattle.std.proofs.Common.{◌≡◌, ◌+◌, ◌-◌, ◌^◌, ℕ, arith, refl}
use Rattle.ghosts.specs.Failures.{OneFailureCounted, NoFailureCounted}
use Rattle.ghosts.specs.Preserves.{Preserves}

-- the largest count
abbrev last : ℕ
last = 2 ^ 64 - 1

-- a failure that isn't counted, one that counts two, a count that falls, and one that jumps to its end
pub no_failure_uncounted : OneFailureCounted 0 0 → ⊥
no_failure_uncounted rises = let e : 0 ≡ 1 = rises in omega (arith, e)

-- a failure that counts two
pub no_failure_twice : OneFailureCounted 0 2 → ⊥
no_failure_twice rises = let e : 2 ≡ 1 = rises in omega (arith, e)

-- a count that falls
pub no_fall : OneFailureCounted 2 1 → ⊥
no_fall rises = let e : 1 ≡ 3 = rises in omega (arith, e)

-- a count that jumps to its end
pub no_jump_to_the_end : OneFailureCounted 0 last → ⊥
no_jump_to_the_end rises = let e : last ≡ 1 = rises in omega (arith, e)

-- one beyond its end, and one that leaves it
pub no_count_past_the_end : OneFailureCounted last (last + 1) → ⊥
no_count_past_the_end rises = let e : last + 1 ≡ last = rises in omega (arith, e)

-- a count that leaves its end
pub no_count_leaves_the_end : OneFailureCounted last 0 → ⊥
no_count_leaves_the_end rises = let e : 0 ≡ last = rises in omega (arith, e)

-- at its end a count stays though a call failed, so there it shows no soundness
pub a_failure_at_the_end : OneFailureCounted last last
a_failure_at_the_end = refl

-- a count at its end shows no soundness
pub nothing_stood_at_the_end : NoFailureCounted last last → ⊥
nothing_stood_at_the_end stood = omega (arith, stood.1)

-- nor does a count that rose
pub nothing_stood_that_rose : NoFailureCounted 0 1 → ⊥
nothing_stood_that_rose stood = let e : 1 ≡ 0 = stood.0 in omega (arith, e)

-- a device that no longer relates to its initial state
abbrev Is : ℕ → ℕ → Type 0
Is start device = device ≡ start

pub nothing_is_forgotten : Preserves Is 0 1 → ⊥
nothing_is_forgotten stays = let e : 1 ≡ 0 = stays 0 refl in omega (arith, e)
