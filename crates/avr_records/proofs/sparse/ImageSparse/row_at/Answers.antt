use Rattle.std.proofs.Common.{arith, rules}
use Rattle.avr_records.proofs.Writers.SparseWalk.{row_part}
use Rattle.avr_records.proofs.sparse.ImageSparse.row_at.Goals as goal

pub slice_bounds-result-end-2 : goal.slice_bounds-result-end-2
slice_bounds-result-end-2 c = (row_part _ _ _ _ _ (omega arith) c.row_end-end.ensures (search rules)).within
