-- What holds at each round of the loop in `print_text`.
use Rattle.ghosts.specs.Preserves.{Preserves}
use Rattle.avr_tool.proofs.Printed.{HasPrinted}
use Rattle.avr_tool.proofs.texts.print_text.Given as goal

abbrev pub invariant-loop-round : goal.invariant-loop-round
invariant-loop-round g l = record {
  printed : HasPrinted (g.T.Parted.has_part l.text) l.stream (g.D.Desk.view l.initial.desk) (g.D.Desk.view l.desk)
      l.at l._round;
  stays : Preserves g.D.Desk.started_as l.initial.desk l.desk;
}
