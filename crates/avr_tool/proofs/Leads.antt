-- What holds while a dialog goes along a link, and when it is done; and how far a run of steps has come there.
use Rattle.std.specs.Prelude.{ℕ, ◌≡◌, ◌++◌, List, [], ◌∷◌, length, Ok, Err, zero, suc, ◌-◌, ◌≤◌, ◌+◌, ◌⊎◌}
use Rattle.avr_part.specs.Part.{Part}
use Rattle.stk_frame.specs.declared.command.Command.{Command}
use Rattle.stk_host.specs.Dialog.{Dialog, Done}
use Rattle.stk_host.specs.Steps.{Data, StepOutcome}
use Rattle.stk_emu.specs.Exchange.{Exchange}
use Rattle.stk_emu.specs.Programmer.{Programmer}
use Rattle.stk_emu.specs.Device.{Device}
use Rattle.stk_emu.specs.DialogOverExchanges.{state_after, StateAfter}
use Rattle.stk_emu.specs.Effect.{Memories}
use Rattle.stk_emu.specs.Settled.{HasMemories}
use Rattle.stk_emu.specs.WriteOperations.{memories_after_step}
use Rattle.stk_emu.specs.StepData.{data_of_steps}
use Rattle.stk_emu.proofs.Repeatable.{joined_reply, IsRepeatable, Settled}
use Rattle.avr_tool.specs.Completed.{steps_completed}
use Rattle.avr_tool.specs.Tallies.{Count, Tallies}

-- the first condition holds at each moment, and the second if the dialog has a result
pub record Leads {E R P : Type 0} (m : Device P) (dialog : Dialog E R) (p : P) (exchanges : List Exchange)
    (During : P → Type 0) (After : R → P → Type 0) : Type 0 where
  pub during : (k : ℕ) → During (state_after m k dialog p exchanges).programmer
  pub after : (k : ℕ) (r : R) → (state_after m k dialog p exchanges).dialog ≡ Done r
      → After r (state_after m k dialog p exchanges).programmer

-- the data of one attempt, which began in either condition, and whose commands were all executed in order
pub record IsDataOfAttempt {P : Type 0} (m : Device P) (commands : List Command) (Before After : P → Type 0)
    (bytes : List ℕ) : Type 0 where
  pub from : P
  pub stood : Before from ⊎ After from
  pub is : joined_reply m commands [] from ≡ Data bytes

-- The memories after this many of the first steps; a count past the last step means all.
abbrev pub memories_after_steps : Part → ℕ → List (List Command) → Memories → Memories
memories_after_steps part zero steps m = m
memories_after_steps part (suc count) [] m = m
memories_after_steps part (suc count) (commands ∷ steps) m =
    memories_after_steps part count steps (memories_after_step part commands m)

-- each step leads from its own condition to the next one
abbrev pub AllFit : {P : Type 0} → Device P → (ℕ → P → Type 0) → List (List Command) → Type 0
AllFit m At [] = Unit {0}
AllFit m At (commands ∷ steps) = IsRepeatable m commands (At 0) (At 1) × AllFit m (λ j. At (suc j)) steps

-- no step is without a command
abbrev pub AreSome : List (List Command) → Type 0
AreSome [] = Unit {0}
AreSome ([] ∷ steps) = ⊥
AreSome ((command ∷ commands) ∷ steps) = AreSome steps

-- A run of steps after `k` commands: the condition of the first `count` steps holds. These are the completed steps and
-- perhaps one more. That one counts by the commands before the last, whose reply may not have come. If the run was
-- completed, these are all steps.
pub record Climbs {P : Type 0} (m : Device P) (At : ℕ → P → Type 0) (k : ℕ) (steps : List (List Command)) (p : P)
    (exchanges : List Exchange) (s : StateAfter ⊥ StepOutcome P) : Type 0 where
  pub count : ℕ
  pub at_least : steps_completed m steps k p exchanges ≤ count
  pub at_most : count ≤ suc (steps_completed m steps (k - 1) p exchanges)
  pub none : k ≡ 0 → count ≡ 0
  pub stands : At count s.programmer
  pub whole : (bytes : List ℕ) → s.dialog ≡ Done (Ok bytes) → count ≡ length steps

-- The next dialog makes its write operations after those already made. Either these were completed before the last
-- command, or the next dialog makes none.
pub record GoesOn {E A B P : Type 0} (m : Device P) (At : ℕ → P → Type 0) (s : StateAfter E A P) (made earlier : ℕ)
    (next : Dialog E B) (more : Count P) : Type 0 where
  pub rest : Tallies m next more (λ j. At (made + j)) s.programmer s.exchanges
  pub sharp : ((l : ℕ) → s.left ≡ suc l → made ≤ earlier) ⊎ ((l : ℕ) → rest.count l ≡ 0)
