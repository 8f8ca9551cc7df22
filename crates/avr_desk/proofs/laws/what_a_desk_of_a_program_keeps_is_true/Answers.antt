use Rattle.avr_desk.proofs.Desks.TwoWriters.{none_kept_true, reported_all, true_now}
use Rattle.avr_desk.proofs.laws.what_a_desk_of_a_program_keeps_is_true.Goals as goal

pub returns-clause-since : goal.returns-clause-since
returns-clause-since g c = c.requires c.args.before.now (true_now _ _ _ _ _ _ c.args.before.now)

pub returns-clause-begins : goal.returns-clause-begins
returns-clause-begins g c = none_kept_true g.R.FileSystem g.R.File.Read g.R.File.Write g.R.Input.Read

pub returns-clause-all : goal.returns-clause-all
returns-clause-all g c = reported_all _ _ _ _ _ _ c.requires
