use Rattle.std.proofs.Common.{rules}
use Rattle.avr_desk.proofs.Desks.InMemory.{replaced_true}
use Rattle.avr_desk.proofs.mem_desk.MemDeskChipDesk.replace.Goals as goal

pub returns-clause-kept : goal.returns-clause-kept
returns-clause-kept c = search rules

pub returns-clause-call : goal.returns-clause-call
returns-clause-call c = record {
  counts = search rules;
  fault = search rules;
  stays = replaced_true c.args.name.now c.args.bytes.now _ _ (returns-clause-kept c);
}
