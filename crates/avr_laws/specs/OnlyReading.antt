-- Output events that only open files for reading and print lines. Nothing is created, written or output.
use Rattle.std.specs.Prelude.{List, [], ◌∷◌}
use Rattle.avr_io.specs.OutputEvents.{OutputEvent, Opens, PrintsLine}

-- Only openings of files, and printed lines.
abbrev pub OnlyReadsAndPrints : List OutputEvent → Type 0
OnlyReadsAndPrints [] = Unit {0}
OnlyReadsAndPrints (Opens opening ∷ events) = OnlyReadsAndPrints events
OnlyReadsAndPrints (PrintsLine bytes ∷ events) = OnlyReadsAndPrints events
OnlyReadsAndPrints (event ∷ events) = ⊥
