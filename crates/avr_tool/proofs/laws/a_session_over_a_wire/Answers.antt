-- The clauses of `a_session_over_a_wire`, at each exit where no search finds the proof.
use Rattle.avr_tool.proofs.WirePlays.{over_any_line}
use Rattle.avr_tool.proofs.laws.a_session_over_a_wire.Goals as goal

pub returns : goal.returns
returns c = λ plan before now desk desk_now status fresh stays sound part fitted runs.
    over_any_line plan before now fresh stays sound part fitted desk desk_now status runs
