-- What holds at each round of the loop in `serve_link`.
use Rattle.std.proofs.Common.{◌≡◌}
use Rattle.ghosts.specs.Preserves.{Preserves}
use Rattle.avr_tool.specs.declared.serving_link.Served.TheVariants.{TooManyReads}
use Rattle.avr_tool.specs.Serving.{Serves}
use Rattle.avr_tool.proofs.serving_link.serve_link.Given as goal

abbrev pub invariant-loop-reads_done : goal.invariant-loop-reads_done
invariant-loop-reads_done g l = record {
  serves : Serves l.fn.emulator l.reads_done TooManyReads (g.L.Link.view l.fn.link) (g.L.Link.view l.link) l.emulator;
  counted : (g.L.Link.view l.link).failures ≡ (g.L.Link.view l.fn.link).failures;
  comes : Preserves g.L.Link.started_as l.fn.link l.link;
}
