use Rattle.std.proofs.Common.{◌∙◌}
use Rattle.std.proofs.Common.{sym}
use Rattle.std.proofs.Common.{refl}
use Rattle.std.proofs.Common.{arith}
use Rattle.avr_records.proofs.Writers.SparseWalk.{last_walk}
use Rattle.avr_records.proofs.cursor.last_held_of.Goals as goal

pub rows-smaller : goal.rows-smaller
rows-smaller g c =
    let walked = last_walk c.rows.last c.rows.addr _ _ _ _ (sym c.next_held.ensures.next ∙ c.in-Some.is)
    c.row_at.ensures.row refl in omega (arith, walked.rises, walked.inside)
