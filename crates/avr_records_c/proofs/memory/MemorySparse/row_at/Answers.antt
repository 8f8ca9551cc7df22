use Rattle.std.proofs.lemmas.Grind.{common_steps}
use Rattle.std.proofs.Common.{arith}
use Rattle.std.proofs.lemmas.List.{length-take, nil_from_length}
use Rattle.avr_records_c.proofs.Walks.{row_is, run_past}
use Rattle.avr_records_c.proofs.memory.MemorySparse.row_at.Goals as goal

pub returns-then-addr-self-clause-row : goal.returns-then-addr-self-clause-row
returns-then-addr-self-clause-row c = grind (arith, common_steps, run_past, nil_from_length, length-take)

pub slice_bounds-result-end-2 : goal.slice_bounds-result-end-2
slice_bounds-result-end-2 c =
    (row_is c.args.addr c.args.most c.row_end-end.result c.self.inside.present.now c.self.inside.bytes.now (omega arith)
    c.row_end-end.ensures).within
