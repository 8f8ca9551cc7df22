-- What the proofs use of a programmer and its chip: a device whose steps do what they ask for, also if they are cut
-- short and repeated, and that gives what the memories hold.
use Rattle.std.specs.Prelude.{◌≡◌, ◌⊎◌, ℕ, List, [], ◌∷◌, ◌++◌, length, Ok, Err}
use Rattle.avr_part.specs.Part.{Part}
use Rattle.stk_frame.specs.declared.command.Command.{Command}
use Rattle.stk_frame.specs.declared.command.Command.TheVariants.{SignOn}
use Rattle.stk_frame.specs.HostCommands.{enter, leave}
use Rattle.stk_host.specs.Steps.{Data, StepOutcome}
use Rattle.stk_emu.specs.Device.{Device}
use Rattle.stk_emu.specs.Effect.{Memories, effects}
use Rattle.avr_session.specs.Actions.{Action}
use Rattle.avr_session.specs.PlanSteps.{action_steps}
use Rattle.avr_tool.specs.Items.{action_items}
use Rattle.stk_emu.specs.Settled.{FitsPart}
use Rattle.stk_emu.specs.StepData.{data_of_step, data_of_steps}
use Rattle.stk_emu.specs.WriteOperations.{IsStep, memories_after_step}
use Rattle.stk_emu.proofs.Repeatable.{IsRepeatable, joined_reply}
use Rattle.avr_tool.proofs.Leads.{memories_after_steps}

pub record Real (part : Part) : Type 1 where
  pub P : Type 0
  pub device : Device P
  pub memories : P → Memories
  -- it has these memories: in any of its states, and in those from a good ENTER on
  pub Has : Memories → P → Type 0
  pub HasSettled : Memories → P → Type 0
  -- the steps that it can be relied on to do, from these memories
  pub Works : List Command → Memories → Type 0
  pub has : (m : Memories) (p : P) → Has m p → memories p ≡ m
  pub idle : (m : Memories) (p : P) → HasSettled m p → Has m p
  pub sign_on : (m : Memories) → IsRepeatable device (SignOn ∷ []) (Has m) (Has m)
  pub enters : (m : Memories) → IsRepeatable device (enter ∷ []) (Has m) (HasSettled m)
  pub leaves : (m : Memories) → IsRepeatable device (leave ∷ []) (Has m) (Has m)
  pub steps : (commands : List Command) (m : Memories) → IsStep part commands → FitsPart part m → Works commands m
      → IsRepeatable device commands (HasSettled m) (HasSettled (memories_after_step part commands m))
  pub gives : (commands : List Command) (m : Memories) (p : P) (bytes : List ℕ) → IsStep part commands → FitsPart part m
      → Works commands m → (HasSettled m p ⊎ HasSettled (memories_after_step part commands m) p)
      → joined_reply device commands [] p ≡ Data bytes → bytes ≡ data_of_step part commands m

-- the programmer has these memories, in any of its states
abbrev pub HasMemories : {part : Part} → (real : Real part) → Memories → real.P → Type 0
HasMemories real m p = real.Has m p

-- it has them, and is in programming mode
abbrev pub Settled : {part : Part} → (real : Real part) → Memories → real.P → Type 0
Settled real m p = real.HasSettled m p

-- in programming mode it has them too
pub settled_idle : {part : Part} (real : Real part) (m : Memories) (p : real.P) → Settled real m p
    → HasMemories real m p
settled_idle real m p s = real.idle m p s

-- it does these steps, each from the memories that those before it leave
abbrev pub AllWork : {part : Part} → Real part → List (List Command) → Memories → Type 0
AllWork real [] m = Unit {0}
AllWork {part = part} real (commands ∷ steps) m =
    real.Works commands m × AllWork real steps (memories_after_step part commands m)

-- and those of these actions
abbrev pub ActionsWork : {part : Part} → Real part → List Action → Memories → Type 0
ActionsWork real [] m = Unit {0}
ActionsWork {part = part} real (action ∷ actions) m =
    AllWork real (action_steps part action) m × ActionsWork real actions (effects part (action_items action) m)

-- the memories after some number of first steps
pub record Reached {part : Part} (real : Real part) (steps : List (List Command)) (m : Memories) (q : real.P) : Type
    0 where
  pub count : ℕ
  pub stands : Settled real (memories_after_steps part count steps m) q

-- with data, the memories after all steps, and what these give; with a fault, those after some first steps
abbrev pub AfterSteps : {part : Part} → (real : Real part) → List (List Command) → Memories → List ℕ → StepOutcome
    → real.P → Type 0
AfterSteps {part = part} real steps m before (Ok got) q =
    Settled real (memories_after_steps part (length steps) steps m) q × (got ≡ before ++ data_of_steps part steps m)
AfterSteps real steps m before (Err fault) q = Reached real steps m q

-- after SIGN_ON, ENTER and the reading of the signature
abbrev pub AfterBeginning : {part : Part} → (real : Real part) → Memories → StepOutcome → real.P → Type 0
AfterBeginning {part = part} real m (Ok found) q = Settled real m q × (found ≡ part.signature)
AfterBeginning real m (Err fault) q = HasMemories real m q
