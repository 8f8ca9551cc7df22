-- What is read over a link that forges no frame, given what happened to the programmer at each command.
use Rattle.std.specs.Prelude.{ℕ, List, [], ◌∷◌, Option, Some, None}
use Rattle.stk_host.specs.Tape.{Tape, Reading, answer}
use Rattle.stk_host.specs.Dialog.{Dialog, Done, Emit, Ask, next}
use Rattle.stk_emu.specs.Device.{Device}
use Rattle.stk_emu.specs.Exchange.{Execution, NotExecuted, after_execution, IsAuthentic}

-- What happened to the programmer at the first command; after the list no command arrives.
abbrev pub first_execution : List Execution → Execution
first_execution [] = NotExecuted
first_execution (execution ∷ executions) = execution

-- What happened to it at the others.
abbrev pub later_executions : List Execution → List Execution
later_executions [] = []
later_executions (execution ∷ executions) = executions

-- A reply that hasn't come meets any claim; one that was read must meet this claim.
abbrev pub on_reading : (Reading → Tape → Type 0) → Option (Reading × Tape) → Type 0
on_reading Claim None = Unit {0}
on_reading Claim (Some (reading, tape)) = Claim reading tape

-- WHATEVER THE LINK DOES, as long as it forges no frame: each reply that this dialog reads is authentic. It is the
-- programmer's own to that command, given what happened to the programmer then, or the refusal. The dialog is run over
-- this tape, with frames numbered from `n`.
abbrev pub RepliesAreAuthentic : {E R P : Type 0} → Device P → Dialog E R → ℕ → Tape → P → List Execution → Type 0
RepliesAreAuthentic m (Done r) n tape p executions = Unit {0}
RepliesAreAuthentic m (Emit e dialog) n tape p executions = RepliesAreAuthentic m dialog n tape p executions
RepliesAreAuthentic m (Ask bytes go_on) n tape p executions = on_reading (λ reading left.
    IsAuthentic m bytes p (first_execution executions) reading × RepliesAreAuthentic m (go_on reading) (next n) left
    (after_execution (first_execution executions) (m.after bytes p) p m.reset) (later_executions executions))
    (answer n tape)
