use Rattle.std.proofs.Common.{◌≡◌, drop, length}
use Rattle.avr_records.specs.Writing.{text_left}
use Rattle.avr_records_c.proofs.Rooms.{IsPut}
use Rattle.avr_records_c.proofs.writing.put_rest.Given as goal

abbrev pub invariant-lines : goal.invariant-lines
invariant-lines l = record {
  so_far : IsPut (drop l.initial.gone (text_left l.initial.lines l.memory)) (drop l.gone (text_left l.lines l.memory))
      l.initial.room l.put l.room;
  kind : l.lines.kind ≡ l.initial.lines.kind;
}

abbrev pub decreases-lines : goal.decreases-lines
decreases-lines l = length (text_left l.lines l.memory)
