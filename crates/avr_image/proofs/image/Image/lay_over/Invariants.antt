use Rattle.std.proofs.Common.{◌≡◌, length}
use Rattle.std.specs.List.{flat_map}
use Rattle.avr_image.specs.Image.{with_pairs}
use Rattle.avr_image.specs.Runs.{places_of}
use Rattle.avr_image.proofs.Walks.Runs.{EndBy}
use Rattle.avr_image.proofs.image.Image.lay_over.Given as goal

abbrev pub invariant-loop-addr : goal.invariant-loop-addr
invariant-loop-addr l = record {
  whole : with_pairs l.self (flat_map places_of l.addr-iterator)
      ≡ with_pairs l.initial.self (flat_map places_of l.initial.addr-iterator);
  size : length l.self ≡ length l.initial.self;
  inside : EndBy (length l.initial.self) l.addr-iterator;
}
