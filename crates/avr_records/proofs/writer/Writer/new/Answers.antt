use Rattle.std.proofs.lemmas.Bool.Decides.{nat_tests}
use Rattle.std.proofs.Common.{arith}
use Rattle.avr_records.proofs.Writers.Sparse.{reads_back_same}
use Rattle.avr_records.proofs.writer.Writer.new.Goals as goal

pub returns-clause-reads_back : goal.returns-clause-reads_back
returns-clause-reads_back g c = grind (arith, nat_tests, reads_back_same)
