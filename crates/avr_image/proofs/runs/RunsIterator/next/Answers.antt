use Rattle.std.proofs.Common.{◌∙◌, sym, ap, arith, length}
use Rattle.avr_image.specs.Image.{run_end}
use Rattle.avr_image.proofs.Walks.Runs.{next_run, Stepped, length_filled}
use Rattle.avr_image.proofs.Walks.Places.{next_held}
use Rattle.avr_image.proofs.runs.RunsIterator.next.Goals as goal

pub run_from-end-requires : goal.run_from-end-requires
run_from-end-requires c =
    let next = next_held c.self.inside.image.now c.self.inside.addr c.in-Some.addr
    (sym c.first_from.ensures ∙ c.in-Some.is) in
    omega (arith, next.within, c.size.ensures)

pub slice_bounds-result-end : goal.slice_bounds-result-end
slice_bounds-result-end c =
    let image = c.self.inside.image.now in
    let found : Stepped c.self.inside.addr c.in-Some.addr c.run_from-end.result image =
    next_run c.self.inside.addr c.in-Some.addr c.run_from-end.result image (sym c.first_from.ensures ∙ c.in-Some.is)
    (c.run_from-end.ensures ∙ ap (run_end image c.in-Some.addr) c.size.ensures) in
    omega (arith, found.within, ap length c.as_slice.ensures.filled, length_filled image 0 (length image))
