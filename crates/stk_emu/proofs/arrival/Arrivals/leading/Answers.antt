use Rattle.std.proofs.Common.{rules, length-drop}
use Rattle.std.proofs.lemmas.List.{length-take, take_rest}
use Rattle.stk_emu.proofs.Wires.Waiting.{next_place, place_within, no_place}
use Rattle.stk_emu.proofs.arrival.Arrivals.leading.Goals as goal

pub slice_bounds-result-length : goal.slice_bounds-result-length
slice_bounds-result-length c = search (rules, place_within, length-take, length-drop)

pub returns-in-Some-clause-bytes : goal.returns-in-Some-clause-bytes
returns-in-Some-clause-bytes c = search (rules, next_place, take_rest)

pub returns-in-None-clause-bytes : goal.returns-in-None-clause-bytes
returns-in-None-clause-bytes c = search (rules, no_place, take_rest)
