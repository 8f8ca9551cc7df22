use Rattle.std.proofs.Common.{◌≡◌, length}
use Rattle.stk_host.proofs.ImagePlaces.Differences.{EndBy, among}
use Rattle.stk_host.proofs.comparing.compare.Given as goal

abbrev pub invariant-loop-addr : goal.invariant-loop-addr
invariant-loop-addr l = record {
  whole : among l.addr-iterator l.found ≡ among l.initial.addr-iterator l.found;
  inside : EndBy (length l.found) l.addr-iterator;
}
