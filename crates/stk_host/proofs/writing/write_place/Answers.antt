use Rattle.std.proofs.Common.{rules}
use Rattle.stk_host.proofs.Operations.Steps.{passes}
use Rattle.stk_host.proofs.ImagePlaces.PagesAndRuns.{no_page, no_run, short_run}
use Rattle.stk_host.proofs.writing.write_place.Goals as goal

pub returns-then-not-holds_any : goal.returns-then-not-holds_any
returns-then-not-holds_any g c = search (rules, passes, no_page)

pub returns-then-not-begins_run : goal.returns-then-not-begins_run
returns-then-not-begins_run g c = search (rules, passes, no_run)

pub program_run-requires-clause-fits : goal.program_run-requires-clause-fits
program_run-requires-clause-fits g c = search (rules, short_run)
