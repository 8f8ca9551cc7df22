use Rattle.std.proofs.Common.{[]}
use Rattle.stk_emu.proofs.Replies.BodySizes.{reply_fits_frame}
use Rattle.stk_emu.specs.Device.{device}
use Rattle.avr_laws.proofs.Lines.Damaged.{arrived_came, brings_no_frame}
use Rattle.avr_laws.proofs.damaged_frames.a_link_that_damages_one_byte_forges_no_frame.Goals as goal

pub returns-clause-programmer : goal.returns-clause-programmer
returns-clause-programmer g c = arrived_came

pub returns-clause-host : goal.returns-clause-host
returns-clause-host g c = λ d n come p executions brings. brings_no_frame device reply_fits_frame d n come p executions
    [] tt brings
