use Rattle.stk_host.proofs.Tapes.TapeLinks.{of_tape_now}
use Rattle.stk_host.proofs.laws.a_tape_gives_its_own_items.Goals as goal

pub returns : goal.returns
returns c = c.requires c.args.before.now (of_tape_now c.args.before.now)
