use Rattle.std.proofs.Common.{◌≡◌, drop}
use Rattle.std.specs.Option.{option_copied}
use Rattle.avr_io.specs.Named.{newest}
use Rattle.avr_io.specs.Record.{files_among}
use Rattle.avr_io.proofs.record.newest_created.Given as goal

abbrev pub invariant-loop-used : goal.invariant-loop-used
invariant-loop-used l = newest l.name (option_copied l.found) (files_among (drop l.used-index l.uses))
    ≡ newest l.name (option_copied l.fn.older) (files_among l.uses)
