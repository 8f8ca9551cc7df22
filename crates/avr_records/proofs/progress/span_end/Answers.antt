use Rattle.std.proofs.Common.{rules}
use Rattle.avr_records.proofs.Texts.Places.{extends_inside, extends_outside}
use Rattle.avr_records.proofs.progress.span_end.Goals as goal

pub returns-then-bytes-saturating_sub : goal.returns-then-bytes-saturating_sub
returns-then-bytes-saturating_sub c = rw c.max.ensures (extends_inside _ _ _ _ (search rules) (search rules))

pub returns-else-bytes-saturating_sub : goal.returns-else-bytes-saturating_sub
returns-else-bytes-saturating_sub c =
    rw c.max-else-bytes-saturating_sub.ensures
    (extends_outside _ c.args.end _ c.args.bytes.now (search rules) (search rules))
