use Rattle.std.proofs.Common.{rules, length-append}
use Rattle.stk_emu.proofs.Replies.BodySizes.{flash_length}
use Rattle.stk_emu.proofs.programmer.Programmer.read_flash.Goals as goal

pub push-requires : goal.push-requires
push-requires c = search (rules, length-append, flash_length)
