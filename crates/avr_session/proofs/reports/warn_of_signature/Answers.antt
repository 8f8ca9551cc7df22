use Rattle.avr_session.proofs.reports.warn_of_signature.Goals as goal

pub returns-else-eq : goal.returns-else-eq
returns-else-eq g c =
    let warned = rw (c.pieces.ensures, c.other_signature_message-message.ensures) at c.warn.ensures in
    rw (← c.signature.ensures, ← c.if-eq.ensures) (rw (← c.signature.ensures) at warned)
