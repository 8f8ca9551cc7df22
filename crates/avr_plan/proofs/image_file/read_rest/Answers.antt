use Rattle.std.proofs.Common.{arith, rules}
use Rattle.std.proofs.lemmas.List.{length-take-le}
use Rattle.avr_io.proofs.Lines.ReportedAs.{same_on}
use Rattle.avr_plan.proofs.Files.Images.{going_on, rest_ends, rest_long}
use Rattle.avr_plan.proofs.image_file.read_rest.Goals as goal

pub pieces-preserved : goal.pieces-preserved
pieces-preserved g c = search (rules, length-take-le, going_on, same_on)

pub returns-then-count-eq0-clause-read : goal.returns-then-count-eq0-clause-read
returns-then-count-eq0-clause-read g c = λ limit found size before was_fed count.
    search (rules, rest_ends, c.pieces.invariant.going, c.in-Ok.ensures.kept, c.finish.ensures.given)

pub returns-then-count-left-clause-read : goal.returns-then-count-left-clause-read
returns-then-count-left-clause-read g c = λ limit found size before was_fed count.
    rest_long _ _ _ _ _ _ _ c.in-Ok.count c.read.new.buf c.pieces.invariant.going c.in-Ok.ensures.kept limit found size
    before was_fed count _ c.if-count-left.true c.in-Ok.ensures.bound (omega arith)
    (λ kind room text was_fed. c.exceeded.ensures kind room _ (c.fed.ensures.feeds kind room text was_fed))
