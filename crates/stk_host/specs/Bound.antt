-- Bounds on the commands and the frames sent.
use Rattle.std.specs.Prelude.{ℕ, zero, suc, ◌+◌, ◌*◌, ◌≤◌, List, [], ◌∷◌, length}
use Rattle.stk_frame.specs.declared.command.Command.{Command}
use Rattle.stk_frame.specs.declared.command.Command.TheVariants.{SignOn}
use Rattle.stk_frame.specs.HostCommands.{enter, leave, erase}
use Rattle.stk_host.specs.Tape.{Tape, Reading}
use Rattle.stk_host.specs.Transcript.{Transcript}
use Rattle.stk_host.specs.Dialog.{Dialog, Done, Emit, Ask, Event, played, frames_in}
use Rattle.stk_host.specs.Play.{Progress, Plays, Breaks, NoPart}
use Rattle.stk_host.specs.ReadSteps.{signature_steps}

-- The dialog asks at most `n` times, whatever is read.
abbrev pub AsksAtMost : {E R : Type 0} → ℕ → Dialog E R → Type 0
AsksAtMost n (Done r) = Unit {0}
AsksAtMost n (Emit e dialog) = AsksAtMost n dialog
AsksAtMost zero (Ask body resume) = ⊥
AsksAtMost (suc n) (Ask body resume) = (reading : Reading) → AsksAtMost n (resume reading)

-- The dialog sends at most `n` frames: over every tape, in every run to its end, and in every run that broke off.
-- `a_call_sends_at_most_four_times_its_commands` states it of each operation.
pub record SendsAtMost {E R : Type 0} (IsPartOfEvent : E → E → Type 0) (n : ℕ) (dialog : Dialog E R) : Type 0 where
  pub over_tape : (seq : ℕ) (tape : Tape) → length (frames_in (played dialog seq tape).events) ≤ n
  pub whole : (before : Progress) (transcript : Transcript) (events : List (Event E)) (result : R) (after : Progress)
      → Plays dialog before transcript events result after → length (frames_in events) ≤ n
  pub broken_off : (before : Progress) (transcript : Transcript) (shown : List (Event E))
      → Breaks IsPartOfEvent dialog before transcript shown → length (frames_in shown) ≤ n

-- How many commands the steps have.
abbrev pub commands_in : List (List Command) → ℕ
commands_in [] = 0
commands_in (commands ∷ steps) = length commands + commands_in steps

-- The steps of `Host::open`; below, of `Host::erase` and `Host::close`.
abbrev pub opening_steps : List (List Command)
opening_steps = (SignOn ∷ []) ∷ (enter ∷ []) ∷ signature_steps

abbrev pub erasing_steps : List (List Command)
erasing_steps = (erase ∷ []) ∷ []

abbrev pub closing_steps : List (List Command)
closing_steps = (leave ∷ []) ∷ []

-- A dialog over these steps asks and sends at most four times for each command.
pub record IsBoundedBy {R : Type 0} (steps : List (List Command)) (dialog : Dialog ⊥ R) : Type 0 where
  pub asks : AsksAtMost (4 * commands_in steps) dialog
  pub sends : SendsAtMost NoPart (4 * commands_in steps) dialog
