use Rattle.avr_laws.proofs.Lines.AnyTape.{through_after}
use Rattle.avr_laws.proofs.any_programmer.a_programmer_is_as_the_frames_that_it_executed.Goals as goal

pub returns : goal.returns
returns g c = through_after g.T.AnyProgrammer.device
