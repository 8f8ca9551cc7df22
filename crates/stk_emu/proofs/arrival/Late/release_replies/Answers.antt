use Rattle.std.proofs.Common.{rules}
use Rattle.stk_emu.proofs.Wires.Waiting.{three_put}
use Rattle.stk_emu.proofs.arrival.Late.release_replies.Goals as goal

pub returns-clause-tape : goal.returns-clause-tape
returns-clause-tape c = search (rules, three_put)
