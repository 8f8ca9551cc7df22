use Rattle.std.proofs.Common.{length}
use Rattle.avr_image.proofs.Texts.Pieces.{Written}
use Rattle.avr_image.proofs.pieces.Pieces.write_to.Given as goal

abbrev pub invariant-pieces : goal.invariant-pieces
invariant-pieces g l =
    Written (g.W.Write.contents l.initial.out) (g.W.Write.contents l.out) (g.Self.Pieces.rest l.self)
    (g.Self.Pieces.rest l.initial.self)

abbrev pub decreases-pieces : goal.decreases-pieces
decreases-pieces g l = length (g.Self.Pieces.rest l.self)
