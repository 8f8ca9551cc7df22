use Rattle.std.proofs.Common.{◌≡◌, ◌++◌, length}
use Rattle.avr_image.proofs.pieces.Pieces.to_vec.Given as goal

abbrev pub invariant-pieces : goal.invariant-pieces
invariant-pieces g l = l.text.items ++ g.Self.Pieces.rest l.self ≡ g.Self.Pieces.rest l.initial.self

abbrev pub decreases-pieces : goal.decreases-pieces
decreases-pieces g l = length (g.Self.Pieces.rest l.self)
