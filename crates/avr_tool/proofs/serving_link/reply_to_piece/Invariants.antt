-- What holds at each round of the loop in `reply_to_piece`.
use Rattle.std.proofs.Common.{length, take, ◌-◌, ◌≤◌, ◌≡◌}
use Rattle.ghosts.specs.Preserves.{Preserves}
use Rattle.avr_tool.specs.Replying.{SendsAllReplies}
use Rattle.avr_tool.proofs.serving_link.reply_to_piece.Given as goal

abbrev pub invariant-loop-used : goal.invariant-loop-used
invariant-loop-used g l = record {
  in_range : l.used ≤ length l.piece;
  replies : SendsAllReplies l.fn.emulator (take l.used l.piece) (g.L.Link.view l.fn.link) (g.L.Link.view l.link)
      l.emulator;
  counted : (g.L.Link.view l.link).failures ≡ (g.L.Link.view l.fn.link).failures;
  comes : Preserves g.L.Link.started_as l.fn.link l.link;
}

abbrev pub decreases-loop-used : goal.decreases-loop-used
decreases-loop-used g l = length l.piece - l.used
