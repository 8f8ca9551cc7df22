use Rattle.std.proofs.Common.{refl}
use Rattle.avr_desk.proofs.replacement.AnyFileSystem.open_named.Goals as goal

pub returns-in-Some-clause-named : goal.returns-in-Some-clause-named
returns-in-Some-clause-named g c = λ _. rw (c.if-is_named.ensures.same refl) at c.open_seen.ensures.named

pub returns-in-Some-clause-opens : goal.returns-in-Some-clause-opens
returns-in-Some-clause-opens g c = rw (c.if-is_named.ensures.same refl) at c.open_seen.ensures.opens
