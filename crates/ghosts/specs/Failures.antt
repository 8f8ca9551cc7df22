-- Failure counts, which end at 2^64 - 1.
use Rattle.std.specs.Prelude.{◌≡◌, ◌<◌, ◌+◌, ◌-◌, ◌^◌, ℕ, min}

-- The count after this many failures.
abbrev pub counted : ℕ → ℕ
counted failures = min failures (2 ^ 64 - 1)

-- One failure was counted.
abbrev pub OneFailureCounted : ℕ → ℕ → Type 0
OneFailureCounted before now = now ≡ counted (before + 1)

-- No failure was counted. At 2^64 - 1 the count couldn't show one.
abbrev pub NoFailureCounted : ℕ → ℕ → Type 0
NoFailureCounted before now = (now ≡ before) × (now < 2 ^ 64 - 1)
