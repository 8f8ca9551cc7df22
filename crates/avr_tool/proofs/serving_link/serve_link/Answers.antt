-- The clauses of `serve_link`, at each exit where no search finds the proof.
use Rattle.std.proofs.Common.{◌+◌, ◌≤◌, arith, rules}
use Rattle.avr_tool.specs.declared.serving_link.Served.TheVariants.{Ended}
use Rattle.avr_tool.specs.Serving.{Serves}
use Rattle.avr_tool.proofs.ReadByRead.{serves_none, serves_more, serves_within, read_replied, read_broken}
use Rattle.avr_tool.proofs.serving_link.serve_link.Goals as goal

pub loop-reads_done-init : goal.loop-reads_done-init
loop-reads_done-init g c = search (rules, serves_none)

pub loop-reads_done-preserved : goal.loop-reads_done-preserved
loop-reads_done-preserved g c = search (rules, serves_more, read_replied)

pub returns-in_default-clause-serves : goal.returns-in_default-clause-serves
returns-in_default-clause-serves g c =
    let grows = rw c.in-Ok-Bytes.field-0-is at c.in-Ok-Bytes.ensures.receives.ok in
    let within : c.loop-reads_done.reads_done + 1 ≤ c.args.turns = omega arith in
    let one = read_broken _ _ _ _ _ _ grows c.in_default.ensures.err in
    serves_within _ _ _ _ _ _ _ (λ e. cc) within (serves_more _ _ _ _ _ _ _ _ c.loop-reads_done.invariant.serves one)

pub returns-in-Ok-End-clause-serves : goal.returns-in-Ok-End-clause-serves
returns-in-Ok-End-clause-serves g c =
    let grows = rw c.in-Ok-End.field-0-is at c.in-Ok-End.ensures.receives.ok in
    let one : Serves c.loop-reads_done.emulator 1 Ended (g.L.Link.view c.loop-reads_done.link)
    (g.L.Link.view c.recv.new.self)
    c.loop-reads_done.emulator = search rules in
    let within : c.loop-reads_done.reads_done + 1 ≤ c.args.turns = omega arith in
    serves_within _ _ _ _ _ _ _ (λ e. cc) within (serves_more _ _ _ _ _ _ _ _ c.loop-reads_done.invariant.serves one)
