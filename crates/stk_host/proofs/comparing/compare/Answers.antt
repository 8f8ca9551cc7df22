use Rattle.std.proofs.Common.{rules}
use Rattle.std.proofs.lemmas.Result.{err_from_is_err_and}
use Rattle.std.proofs.lemmas.List.{length-take-le, take_rest}
use Rattle.stk_host.proofs.ImagePlaces.Differences.{held_as, among, none_differs, passes_run, ends_behind, runs_end, error_differs, whole_is}
use Rattle.stk_host.proofs.comparing.compare.Goals as goal

pub loop-addr-init : goal.loop-addr-init
loop-addr-init c = search (rules, length-take-le, runs_end)

pub loop-addr-preserved : goal.loop-addr-preserved
loop-addr-preserved c = search (rules, held_as, none_differs, passes_run, ends_behind, take_rest)

pub returns-in_err-compare_run : goal.returns-in_err-compare_run
returns-in_err-compare_run c = search (rules, err_from_is_err_and, held_as, among, take_rest, error_differs, whole_is)

pub returns : goal.returns
returns c = search (rules, among, whole_is)
