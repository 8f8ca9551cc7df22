-- The clauses of `run_net`, at each exit where no search finds the proof.
use Rattle.std.proofs.Common.{inl, inr, rules}
use Rattle.stk_host.proofs.Transcripts.Streams.{true_now}
use Rattle.avr_tool.proofs.over_net.run_net.Goals as goal

pub returns-in-Err-clause-runs : goal.returns-in-Err-clause-runs
returns-in-Err-clause-runs g c =
    let goes = rw c.in-Err.is at c.plan.ensures.goes in
    inr (inr (record { goes = goes; bare = rw c.in-Err.is at c.plan.ensures.bare }, c.leave.ensures.unused))

pub returns-clause-runs : goal.returns-clause-runs
returns-clause-runs g c =
    let made = rw c.in-Ok.is at c.plan.ensures.goes in
    let new = rw c.place_of-address.ensures at c.in-Ok-connect.ensures.new in
    let then_is = rw (new.quiet, new.fresh) at c.drive-status.ensures.runs in
    let truly = c.drive-status.ensures.comes c.in-Ok-connect.link
    (true_now g.N.Stream.Read.remaining g.N.Stream.Inlet.has_timed_out g.N.Stream.Write.contents
    c.in-Ok-connect.link) in
    let after = c.drive-status.new.link in
    inl (record { transcript = after.transcript; failures = after.failures }, search rules, search rules)

pub returns-in-Err-connect-clause-runs : goal.returns-in-Err-connect-clause-runs
returns-in-Err-connect-clause-runs g c =
    let missed = rw c.place_of-address.ensures at c.in-Err-connect.ensures.missed in
    let pieces = rw c.place_of-address.ensures at c.unopened_message.ensures in
    let made = rw c.in-Ok.is at c.plan.ensures.goes in search rules
