use Rattle.std.proofs.Common.{◌≡◌, ◌≤◌, ◌-◌, [], length, take}
use Rattle.std.specs.Prelude.{filter}
use Rattle.stk_frame.specs.Cut.{cut, is_good}
use Rattle.stk_frame.specs.Reader.{MayHaveBeenFed}
use Rattle.stk_emu.proofs.fate.noise_is_lawful.Given as goal

abbrev pub invariant-loop-at : goal.invariant-loop-at
invariant-loop-at l = record {
  in_range : l.at ≤ length l.noise;
  stands : MayHaveBeenFed l.reader (take l.at l.noise);
  none : filter is_good (cut (take l.at l.noise)) ≡ [];
}

abbrev pub decreases-loop-at : goal.decreases-loop-at
decreases-loop-at l = length l.noise - l.at
