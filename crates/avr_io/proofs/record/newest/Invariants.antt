use Rattle.std.proofs.Common.{◌≡◌, drop}
use Rattle.std.specs.Option.{option_copied}
use Rattle.avr_io.specs.Named.{newest}
use Rattle.avr_io.proofs.record.newest.Given as goal

abbrev pub invariant-loop-file : goal.invariant-loop-file
invariant-loop-file l = newest l.name (option_copied l.found) (drop l.file-index l.files)
    ≡ newest l.name (option_copied l.fn.older) l.files
