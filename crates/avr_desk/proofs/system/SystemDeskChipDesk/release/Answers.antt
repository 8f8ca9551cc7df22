use Rattle.avr_desk.proofs.Desks.TwoWriters.{from_inside, released_true}
use Rattle.avr_desk.proofs.system.SystemDeskChipDesk.release.Goals as goal

pub returns-clause-stays : goal.returns-clause-stays
returns-clause-stays g c = from_inside _ _ _ _ _ _ c.self.view_is (released_true _ _ _ _ _ _ _ _ _ _
    c.release_held.ensures.none c.then-self-inside.ensures c.release_held.ensures.left c.release_held.ensures.keeps)
