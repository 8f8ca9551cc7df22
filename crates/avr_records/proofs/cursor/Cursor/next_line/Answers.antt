use Rattle.std.proofs.lemmas.Bool.Decides.{nat_tests}
use Rattle.std.proofs.Common.{arith}
use Rattle.avr_records.proofs.Writers.SparseWalk.{some_with_piece, text_row, text_upper}
use Rattle.avr_records.proofs.cursor.Cursor.next_line.Goals as goal

pub returns-in-Some-new_upper-clause-joined : goal.returns-in-Some-new_upper-clause-joined
returns-in-Some-new_upper-clause-joined g c = grind (arith, nat_tests, text_upper)

pub returns-in-Some-new_upper-clause-ends : goal.returns-in-Some-new_upper-clause-ends
returns-in-Some-new_upper-clause-ends g c = grind (arith, nat_tests, returns-in-Some-new_upper-clause-joined)

pub returns-clause-joined : goal.returns-clause-joined
returns-clause-joined g c = grind (arith, nat_tests, text_row)

pub returns-clause-ends : goal.returns-clause-ends
returns-clause-ends g c = grind (arith, nat_tests, some_with_piece, returns-clause-joined)
