use Rattle.std.proofs.Common.{rules, arith, take_all}
use Rattle.std.proofs.lemmas.Grind.{common_steps}
use Rattle.stk_emu.proofs.port.append.Goals as goal

pub loop-byte-preserved : goal.loop-byte-preserved
loop-byte-preserved c = search (rules, common_steps)

pub returns : goal.returns
returns c = rw (← take_all c.loop-byte.byte-index c.args.bytes.now (omega arith)) c.loop-byte.invariant.items
