use Rattle.std.proofs.Common.{◌≡◌, ◌+◌, ◌<◌, ◌≤◌, ◌^◌, length}
use Rattle.avr_records.specs.Steps.{InRange}
use Rattle.avr_records.proofs.Readers.Fed.{Carries, line_state}
use Rattle.avr_records.proofs.line_reader.LineReader.feed.Given as goal

abbrev pub invariant-loop-line : goal.invariant-loop-line
invariant-loop-line l = record {
  kind : l.self.kind ≡ l.initial.self.kind;
  size : length l.self.progress.image ≡ length l.initial.self.progress.image;
  range : InRange l.initial.self.kind l.self.progress.extent;
  room : l.self.progress.extent.lines + length l.rest < 2 ^ 32;
  count : l.self.progress.extent.lines + length l.self.part.items + length l.rest ≤ l.initial.self.progress.extent.lines
      + length l.initial.self.part.items + length l.piece;
  carries : Carries l.initial.self.kind (line_state l.initial.self.progress l.initial.self.part.items)
      (line_state l.self.progress l.self.part.items) l.piece l.rest;
}

abbrev pub decreases-loop-line : goal.decreases-loop-line
decreases-loop-line l = length l.rest
