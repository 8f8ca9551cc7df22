use Rattle.avr_session.proofs.session.Session.perform.Goals as goal

pub returns-in-Write : goal.returns-in-Write
returns-in-Write g c = rw c.in-Write.is c.write_and_verify.ensures

pub returns-in-Read : goal.returns-in-Read
returns-in-Read g c = rw (c.in-Read.is, ← c.as_str.ensures) c.read.ensures

pub returns-in-Verify : goal.returns-in-Verify
returns-in-Verify g c = rw c.in-Verify.is c.verify.ensures
