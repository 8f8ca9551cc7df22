use Rattle.std.proofs.Common.{rules, ◌≡◌, ◌++◌, ◌∷◌, []}
use Rattle.avr_part.proofs.CheckedParts.{checked_next}
use Rattle.avr_part.proofs.part_file.check_members.Goals as goal

pub loop-key-preserved : goal.loop-key-preserved
loop-key-preserved c =
    let pushed : c.push.new.self.items ≡ c.loop-key.parts.items ++ c.in_ok-part.part ∷ [] = search rules in
    let verdict = rw c.as_str.ensures.value at c.in_ok-part.ensures.value in
    rw pushed (checked_next _ c.loop-key.parts.items _ _ _ _ _ (rw c.in-Some.is at c.next.ensures.steps)
    c.loop-key.invariant verdict)
