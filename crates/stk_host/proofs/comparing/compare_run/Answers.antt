use Rattle.std.proofs.Common.{rules, eq-eqb, ◌≡◌, length, take}
use Rattle.std.proofs.lemmas.Bool.Decides.{Decides-eqb}
use Rattle.std.proofs.lemmas.Slice.Eq.{slice_eq-Decides}
use Rattle.stk_host.proofs.ImagePlaces.Differences.{run_goes_on, same_run}
use Rattle.stk_host.proofs.comparing.compare_run.Goals as goal

pub returns-then-eq : goal.returns-then-eq
returns-then-eq c =
    let same : c.args.run.now ≡ take (length c.args.run.now) c.args.bytes.now =
    (slice_eq-Decides Decides-eqb _ _ _ c.eq.ensures).0 c.if-eq.true in
    search (rules, same_run c.args.addr c.args.run.now c.args.bytes.now same)

pub loop-i-preserved : goal.loop-i-preserved
loop-i-preserved c = search (rules, eq-eqb, run_goes_on)
