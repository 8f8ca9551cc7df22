use Rattle.std.proofs.Common.{refl, rules}
use Rattle.avr_desk.proofs.Desks.InMemory.{absent_true, opened_true}
use Rattle.avr_desk.proofs.mem_desk.MemDeskDesk.open.Goals as goal

pub returns-in_default-contents-clause-kept : goal.returns-in_default-contents-clause-kept
returns-in_default-contents-clause-kept c = search rules

pub returns-in_default-contents-clause-absent : goal.returns-in_default-contents-clause-absent
returns-in_default-contents-clause-absent c = search rules

pub returns-in_default-contents-clause-stays : goal.returns-in_default-contents-clause-stays
returns-in_default-contents-clause-stays c =
    absent_true c.args.name.now _ _ (returns-in_default-contents-clause-absent c refl)
    (returns-in_default-contents-clause-kept c)

pub returns-clause-found : goal.returns-clause-found
returns-clause-found c = search rules

pub returns-clause-kept : goal.returns-clause-kept
returns-clause-kept c = search rules

pub returns-clause-stays : goal.returns-clause-stays
returns-clause-stays c = opened_true c.args.name.now _ _ (returns-clause-found c) (returns-clause-kept c)
