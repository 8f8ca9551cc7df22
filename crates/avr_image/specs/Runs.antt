-- The runs of an image: bytes that follow each other without a gap. `Image::runs` yields them.
use Rattle.std.specs.Prelude.{ℕ, ◌+◌, ◌==◌, List, [], ◌∷◌, Option, Some, None, if◌then◌else◌}
use Rattle.std.specs.List.{enumerate_from}

-- Puts a byte before some runs. It joins the first run if that begins right after it.
abbrev pub onto_runs : ℕ → ℕ → List (ℕ × List ℕ) → List (ℕ × List ℕ)
onto_runs addr b [] = (addr, b ∷ []) ∷ []
onto_runs addr b ((next, bytes) ∷ more) =
    if next == addr + 1 then (addr, b ∷ bytes) ∷ more else (addr, b ∷ []) ∷ (next, bytes) ∷ more

-- The longest runs without a gap, each with its first address. The image begins at `addr`.
abbrev pub runs : ℕ → List (Option ℕ) → List (ℕ × List ℕ)
runs addr [] = []
runs addr (None ∷ image) = runs (addr + 1) image
runs addr (Some b ∷ image) = onto_runs addr b (runs (addr + 1) image)

-- The bytes before the first gap. `Sparse::row_at` of avr_records returns its first ones.
abbrev pub leading_run : List (Option ℕ) → List ℕ
leading_run [] = []
leading_run (None ∷ image) = []
leading_run (Some b ∷ image) = b ∷ leading_run image

-- The bytes of a run with their addresses.
abbrev pub places_of : ℕ × List ℕ → List (ℕ × ℕ)
places_of run = enumerate_from run.0 run.1
