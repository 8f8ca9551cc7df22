-- A programmer in any state, and runs of steps from a settled one.
use Rattle.std.proofs.Common.{ℕ, List, [], ◌∷◌, rules}
use Rattle.avr_part.specs.State as chip
use Rattle.avr_part.specs.Sound.{IsSoundChip}
use Rattle.avr_part.specs.Part.{Part, IsPart}
use Rattle.stk_frame.specs.declared.command.Command.{Command}
use Rattle.stk_host.specs.Steps.{play}
use Rattle.stk_emu.specs.Exchange.{Exchange}
use Rattle.stk_emu.specs.Programmer.{Programmer}
use Rattle.stk_emu.specs.Device.{device}
use Rattle.stk_emu.specs.DialogOverExchanges.{state_after}
use Rattle.stk_emu.specs.Effect.{Memories, memories_of}
use Rattle.stk_emu.specs.Settled.{HasMemories, FitsPart}
use Rattle.stk_emu.proofs.Repeatable.{Settled}
use Rattle.avr_tool.proofs.Leads.{AreSome, Climbs, memories_after_steps}
use Rattle.stk_emu.specs.WriteOperations.{AreSteps}
use Rattle.avr_tool.proofs.WriteOperations.Conditions.{play_climbs}
use Rattle.avr_tool.proofs.WriteOperations.OutsideMode.{all_fit}

-- A programmer with a sound chip has the memories of this chip.
pub sound_idle : (p : Programmer) → IsSoundChip p.chip → HasMemories p.chip.part (memories_of p.chip) p
sound_idle p sound = search rules

-- The memories of a sound chip have the sizes of its part.
pub sound_fits : (s : chip.ChipState) → IsSoundChip s → FitsPart s.part (memories_of s)
sound_fits s sound = record { flash = sound.flash_size; eeprom = sound.eeprom_size; bytes = sound.flash }

-- a step has a command
pub are_some : (part : Part) (steps : List (List Command)) → AreSteps part steps → AreSome steps
are_some part [] are = tt
are_some part (commands ∷ steps) are = search (rules, are_some part steps are.1)

-- A run of steps from programming mode makes its steps in order.
pub steps_climb : (part : Part) (steps : List (List Command)) (m : Memories) (k : ℕ) (before : List ℕ) (p : Programmer)
    (exchanges : List Exchange) → IsPart part → AreSteps part steps → Settled part m p
    → Climbs device (λ j. Settled part (memories_after_steps part j steps m)) k steps p exchanges
    (state_after device k (play steps before) p exchanges)
steps_climb part steps m k before p exchanges sound are s = search (rules, play_climbs, are_some, all_fit)
