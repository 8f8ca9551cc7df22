use Rattle.avr_laws.proofs.AnyWire.{emulated_wire, over_any_wire}
use Rattle.avr_laws.proofs.any_line.a_session_over_a_wire_can_be_believed.Goals as goal

pub returns-clause-wire : goal.returns-clause-wire
returns-clause-wire c = λ plan before after desk desk_after status fresh stays sound part fitted runs.
    over_any_wire plan before after fresh stays sound part fitted desk desk_after status runs

pub returns-clause-emulator : goal.returns-clause-emulator
returns-clause-emulator c = λ settings file old now status r. emulated_wire r
