use Rattle.avr_io.proofs.Stages.Breaks.{sound_refusal}
use Rattle.avr_plan.specs.Planning.{planned}
use Rattle.avr_plan.specs.AllocationPoints.{AtAllocatingUpdate}
use Rattle.avr_laws.proofs.planning.a_sound_plan_is_refused_aloud.Goals as goal

pub returns : goal.returns
returns c = λ s. sound_refusal (AtAllocatingUpdate s) (planned s)
