use Rattle.std.proofs.Common.{rules}
use Rattle.avr_desk.proofs.Desks.InMemory.{created_true}
use Rattle.avr_desk.proofs.mem_desk.MemDeskDesk.create.Goals as goal

pub returns-clause-kept : goal.returns-clause-kept
returns-clause-kept c = search rules

pub returns-clause-call : goal.returns-clause-call
returns-clause-call c = record {
  counts = search rules;
  fault = search rules;
  stays = created_true c.args.name.now _ _ (returns-clause-kept c);
}
