-- A desk of which one call fails by plan.
use Rattle.std.specs.Prelude.{◌≡◌, ◌≢◌, ◌==◌, ◌+◌, ◌-◌, ℕ, Result, Err, if◌then◌else◌}
use Rattle.ghosts.specs.Failures.{counted}
use Rattle.avr_io.specs.Record.{DeskState, showing}
use Rattle.avr_io.specs.declared.desk.DeskFault.{DeskFault}
use Rattle.avr_io.specs.declared.desk.DeskFault.TheVariants.{Failed}
use Rattle.avr_io.specs.declared.stream.Stream.{Stream}
use Rattle.avr_io.specs.declared.stream.Stream.TheVariants.{Messages}

-- `due` numbers the call that fails: 1 is the next one, 0 none. `planned` counts the planned failures, and
-- `message_failures` those at the messages.
pub record Failing (D : Type 0) : Type 0 where
  pub inner : D
  pub due : ℕ
  pub planned : ℕ
  pub message_failures : ℕ

-- the state: the inner desk's record, and the sum of its counts and the planned ones, at most 2^64 - 1
abbrev pub failing : {D : Type 0} → (D → DeskState) → Failing D → DeskState
failing view d = showing (view d.inner).kept (counted ((view d.inner).failures + d.planned))
    (counted ((view d.inner).message_failures + d.message_failures))

-- the inner desk began with this value
abbrev pub of_inner : {D Start : Type 0} → (Start → D → Type 0) → Start → Failing D → Type 0
of_inner started_as start d = started_as start d.inner

-- one more than this count if the call is the due one
abbrev pub count_after : {D : Type 0} → Failing D → ℕ → ℕ
count_after d count = if d.due == 1 then counted (count + 1) else count

-- The due call returns `Failed`, doesn't reach the inner desk, and is counted as planned. Any other call goes to the
-- inner desk.
pub record FailsWhenDue {D T : Type 0} (stream : Stream) (view : D → DeskState) (old new : Failing D)
    (PassedOn : DeskState → DeskState → Result T DeskFault → Type 0) (r : Result T DeskFault) : Type 0 where
  pub due : old.due ≡ 1 → (r ≡ Err Failed) × (new.inner ≡ old.inner)
  pub passed_on : old.due ≢ 1 → PassedOn (view old.inner) (view new.inner) r
  pub counted_down : new.due ≡ old.due - 1
  pub planned : new.planned ≡ count_after old old.planned
  pub message_failures : new.message_failures
      ≡ elim stream [ Messages ↦ count_after old old.message_failures | other ↦ old.message_failures ]
