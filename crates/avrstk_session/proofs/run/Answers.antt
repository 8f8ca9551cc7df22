use Rattle.avr_desk.proofs.Desks.TwoWriters.{reported_all, true_now}
use Rattle.avrstk_session.proofs.run.Goals as goal

pub returns-in-Ok-clause-shows : goal.returns-in-Ok-clause-shows
returns-in-Ok-clause-shows g c = c.serve_words.ensures.stays c.args.desk.now (true_now _ _ _ _ _ _ c.args.desk.now)

pub returns-in-Ok-clause-all : goal.returns-in-Ok-clause-all
returns-in-Ok-clause-all g c = reported_all _ _ _ _ _ _ c.serve_words.ensures.stays

pub returns-in-Err-clause-shows : goal.returns-in-Err-clause-shows
returns-in-Err-clause-shows g c = c.refuse.ensures.stays c.args.desk.now (true_now _ _ _ _ _ _ c.args.desk.now)

pub returns-in-Err-clause-all : goal.returns-in-Err-clause-all
returns-in-Err-clause-all g c = reported_all _ _ _ _ _ _ c.refuse.ensures.stays
