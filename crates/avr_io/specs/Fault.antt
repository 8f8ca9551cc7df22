-- Faults of a desk, and the counts of failed calls.
use Rattle.std.specs.Prelude.{◌≡◌, ◌≤◌, ◌≢◌, ℕ, List, [], Result, Ok, Err, IfErr}
use Rattle.ghosts.specs.Failures.{OneFailureCounted}
use Rattle.ghosts.specs.Preserves.{Preserves}
use Rattle.avr_io.specs.Record.{DeskState}
use Rattle.avr_io.specs.declared.desk.DeskFault.{DeskFault}
use Rattle.avr_io.specs.declared.desk.DeskFault.TheVariants.{NotFound, Failed}
use Rattle.avr_io.specs.declared.stream.Stream.{Stream}
use Rattle.avr_io.specs.declared.stream.Stream.TheVariants.{Messages}

-- the number of a fault, which never changes
abbrev pub desk_fault_number : DeskFault → ℕ
desk_fault_number fault = elim fault [ NotFound ↦ 1 | Failed ↦ 2 ]

-- The counts of failures never fall: the second state is later. Most contracts over a desk promise it.
abbrev pub CountsNeverFall : DeskState → DeskState → Type 0
CountsNeverFall old new = (old.failures ≤ new.failures) × (old.message_failures ≤ new.message_failures)

-- only a failure at the messages raises the count of failed writes to the messages
abbrev pub CountsMessageFailure : Stream → ℕ → ℕ → Type 0
CountsMessageFailure Messages before now = OneFailureCounted before now
CountsMessageFailure stream before now = now ≡ before

-- A call for this stream failed between these states. Opening, creating and reading are calls for the file.
abbrev pub HasFailedAt : Stream → DeskState → DeskState → Type 0
HasFailedAt stream old new = OneFailureCounted old.failures new.failures
    × CountsMessageFailure stream old.message_failures new.message_failures

-- a write to the messages failed between these states; both counts rose
abbrev pub HasFailedToReport : DeskState → DeskState → Type 0
HasFailedToReport = HasFailedAt Messages

-- both counts of failures are as before
abbrev pub HasSameCounts : DeskState → DeskState → Type 0
HasSameCounts old new = (new.failures ≡ old.failures) × (new.message_failures ≡ old.message_failures)

-- The counts show the result: the fault `Failed` is counted, and no other result is.
abbrev pub ResultCounts : {T : Type 0} → Stream → DeskState → DeskState → Result T DeskFault → Type 0
ResultCounts stream old new (Err Failed) = HasFailedAt stream old new
ResultCounts stream old new r = HasSameCounts old new

-- The counts never fall. They show whether the call failed, and whether at the messages.
abbrev pub CountsFailure : {T : Type 0} → Stream → DeskState → DeskState → Result T DeskFault → Type 0
CountsFailure stream old new r = CountsNeverFall old new × ResultCounts stream old new r

-- a write took no byte of a nonempty slice
abbrev pub TakesNoBytes : List ℕ → Result ℕ DeskFault → Type 0
TakesNoBytes bytes r = (r ≡ Ok 0) × (bytes ≢ [])

-- The counts after a write. If it takes no byte of a nonempty slice, that counts as a failure, too.
pub record WriteCounts (stream : Stream) (bytes : List ℕ) (old new : DeskState) (r : Result ℕ DeskFault) : Type 0 where
  pub rises : CountsNeverFall old new
  pub none : TakesNoBytes bytes r → HasFailedAt stream old new
  pub otherwise : (TakesNoBytes bytes r → ⊥) → ResultCounts stream old new r

-- What a call of a desk promises if its only fault is `Failed`: the counts are as `AreCounted` states, and what the
-- desk was started with stays.
pub record IsCall {Desk Start T : Type 0} (view : Desk → DeskState) (started_as : Start → Desk → Type 0)
    (AreCounted : DeskState → DeskState → Result T DeskFault → Type 0) (old new : Desk) (r : Result T DeskFault)
    : Type 0 where
  pub counts : AreCounted (view old) (view new) r
  pub fault : IfErr r (λ e. e ≡ Failed)
  pub stays : Preserves started_as old new
