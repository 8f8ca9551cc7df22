use Rattle.std.proofs.Common.{arith}
use Rattle.std.proofs.lemmas.Grind.{common_steps}
use Rattle.stk_emu.proofs.Replies.BodySizes.{reply_fits_frame}
use Rattle.stk_emu.proofs.emulator.reply.Goals as goal

pub put_frame-requires-clause-some : goal.put_frame-requires-clause-some
put_frame-requires-clause-some c =
    let fits = (reply_fits_frame c.body.result.now c.args.programmer.now).some in grind (arith, common_steps, fits)
