use Rattle.std.proofs.Common.{arith, rules}
use Rattle.avr_records.proofs.Writers.Pieces.{changed_more}
use Rattle.avr_records.proofs.written_line.uppercase.Goals as goal

pub loop-digit-preserved : goal.loop-digit-preserved
loop-digit-preserved c = rw c.make_ascii_uppercase.ensures.after (changed_more _ _ _ _ (omega arith) (search rules))
