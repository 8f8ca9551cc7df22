use Rattle.std.proofs.lemmas.Option.{get_or_from_slice_get}
use Rattle.std.proofs.lemmas.Option.{slice_get_within}
use Rattle.std.proofs.Common.{drop-cons}
use Rattle.std.proofs.Common.{drop, arith}
use Rattle.std.proofs.lemmas.List.{nil_from_length}
use Rattle.avr_part.proofs.parts.PartIterIterator.next.Goals as goal

pub returns-clause-steps : goal.returns-clause-steps
returns-clause-steps c = grind (arith, drop, drop-cons, slice_get_within, get_or_from_slice_get, nil_from_length)
