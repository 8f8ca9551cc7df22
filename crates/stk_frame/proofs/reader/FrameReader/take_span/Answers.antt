use Rattle.std.proofs.Common.{rules}
use Rattle.stk_frame.proofs.FedReaders.{fed_up_to, fed_cleared, fed_part, fed_skip, fed_frame}
use Rattle.stk_frame.proofs.reader.FrameReader.take_span.Goals as goal

pub returns-then-noise-gt0-clause-fed : goal.returns-then-noise-gt0-clause-fed
returns-then-noise-gt0-clause-fed c = search (rules, fed_up_to, fed_cleared)

pub returns-then-len-size_of_piece-clause-fed : goal.returns-then-len-size_of_piece-clause-fed
returns-then-len-size_of_piece-clause-fed c = search (rules, fed_cleared, fed_part)

pub returns-then-len-le-HEADER_SIZE-clause-fed : goal.returns-then-len-le-HEADER_SIZE-clause-fed
returns-then-len-le-HEADER_SIZE-clause-fed c = search (rules, fed_cleared, fed_skip)

pub returns-clause-fed : goal.returns-clause-fed
returns-clause-fed c = search (rules, fed_cleared, fed_frame)

pub returns-then-xor_of-ne0-clause-fed : goal.returns-then-xor_of-ne0-clause-fed
returns-then-xor_of-ne0-clause-fed c = search (rules, fed_cleared, fed_frame)
