use Rattle.std.proofs.Common.{rules, subst, sym}
use Rattle.std.proofs.Math.Seq.{take-length}
use Rattle.std.proofs.lemmas.List.{length-map}
use Rattle.stk_emu.specs.Wired.{ComesOf}
use Rattle.stk_emu.proofs.Wires.Waiting.{silence_next, bytes_next}
use Rattle.stk_emu.proofs.Wires.Kept.{got_state, keeps_receiving}
use Rattle.stk_emu.proofs.wired.WiredLink.recv.Goals as goal
use Rattle.stk_emu.proofs.wired.WiredLink.recv.Goals.{then-count-eq0, else-count-eq0}

pub returns-clause-received : goal.returns-clause-received
returns-clause-received g c = elim c.if-count-eq0.branch [
  | then-count-eq0 w ↦
      let ok = rw w.heard-is at c.in-Ok.ensures.ok in rw w.heard-is (search (rules, got_state))
  | else-count-eq0 w ↦
      let ok = rw w.heard-is at c.in-Ok.ensures.ok in
      rw w.heard-is (search (rules, take-length, length-map, got_state))
]

pub returns-clause-next : goal.returns-clause-next
returns-clause-next g c = elim c.if-count-eq0.branch [
  | then-count-eq0 w ↦ rw w.heard-is (search (rules, silence_next))
  | else-count-eq0 w ↦ rw w.heard-is (search (rules, length-map, bytes_next))
]

pub returns-clause-comes : goal.returns-clause-comes
returns-clause-comes g c = λ start keeps.
    subst (ComesOf start) (sym (returns-clause-received g c))
    (keeps_receiving c.args.self.now _ start.programmer start.fates (returns-clause-next g c) keeps)
