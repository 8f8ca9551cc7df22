use Rattle.std.proofs.Common.{refl, rules}
use Rattle.avr_desk.proofs.Desks.InMemory.{from_inside, read_true}
use Rattle.avr_desk.proofs.mem_desk.MemDeskDesk.read.Goals as goal

pub returns-clause-call : goal.returns-clause-call
returns-clause-call c = record {
  counts = search rules;
  fault = search rules;
  stays = from_inside _ _ _ c.self.view_is
      (read_true _ _ _ _ _ _ _ _ c.as_slice.ensures c.given.ensures c.copy_next-count.ensures.count
      c.copy_next-count.ensures.gives c.is_end-ends.ensures refl refl refl _ refl c.read_on.ensures refl);
}
