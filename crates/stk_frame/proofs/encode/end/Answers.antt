use Rattle.std.proofs.Common.{drop, length, arith}
use Rattle.arrayvec.proofs.ArrayVecLemmas.{items-with_items}
use Rattle.stk_frame.proofs.encode.end.Goals as goal

pub returns : goal.returns
returns c = grind (arith, items-with_items, length, drop)
