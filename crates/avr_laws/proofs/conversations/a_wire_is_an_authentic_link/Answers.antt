use Rattle.std.proofs.Common.{rules}
use Rattle.std.proofs.Common.{length, arith}
use Rattle.stk_emu.specs.Device.{device}
use Rattle.stk_emu.proofs.Replies.BodySizes.{replies_fit_frames}
use Rattle.avr_laws.proofs.Lines.NoForgedFrame.{prefix_came}
use Rattle.avr_tool.proofs.Lines.WireTapes.{over_wire}
use Rattle.avr_laws.proofs.conversations.a_wire_is_an_authentic_link.Goals as goal

pub returns-clause-wire : goal.returns-clause-wire
returns-clause-wire g c = λ d n w sent more asks clear lawful e.
    (over_wire device replies_fit_frames d n w sent more asks clear lawful e).is_authentic (length sent) (omega arith)

pub returns-clause-prefix : goal.returns-clause-prefix
returns-clause-prefix g c = search (rules, prefix_came)
