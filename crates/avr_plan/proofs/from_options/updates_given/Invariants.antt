use Rattle.std.proofs.Common.{◌≡◌, ◌+◌, map, drop}
use Rattle.avr_plan.specs.Settings.{updates_from}
use Rattle.avr_plan.proofs.UpdateLists.{onto}
use Rattle.avr_plan.proofs.from_options.updates_given.Given as goal

abbrev pub invariant-loop-i : goal.invariant-loop-i
invariant-loop-i l =
    updates_from 1 (map (λ s. s.now) l.texts)
    ≡ onto l.updates (updates_from (l.i + 1) (map (λ s. s.now) (drop l.i l.texts)))
