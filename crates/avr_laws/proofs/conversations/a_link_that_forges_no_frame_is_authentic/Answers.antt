use Rattle.std.proofs.Common.{rules}
use Rattle.avr_laws.proofs.Lines.NoForgedFrame.{no_forged_frame_authentic}
use Rattle.avr_laws.proofs.conversations.a_link_that_forges_no_frame_is_authentic.Goals as goal

pub returns : goal.returns
returns g c = search (rules, no_forged_frame_authentic)
