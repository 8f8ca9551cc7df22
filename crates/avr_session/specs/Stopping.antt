-- What the contract of a run states if no device failed.
use Rattle.std.specs.Prelude.{ℕ, ◌++◌, ◌≡◌}
use Rattle.ghosts.specs.Failures.{NoFailureCounted}
use Rattle.avr_io.specs.Record.{Record, DeskState, showing, Bytes}
use Rattle.stk_host.specs.Transcript.{Transcript, LinkState}
use Rattle.stk_host.specs.Dialog.{Dialog}
use Rattle.stk_host.specs.Play.{Progress}
use Rattle.avr_io.specs.OutputEvents.{OutputEvent}
use Rattle.avr_session.specs.Runs.{Devices, start, RanWhole}

-- A desk with this record and these counts; below, a link with this transcript.
abbrev pub keeping : Record → ℕ × ℕ → DeskState
keeping kept counts = showing kept counts.0 counts.1

abbrev pub link_state : Transcript → ℕ → LinkState
link_state transcript failures = record { transcript = transcript; failures = failures }

-- No device failed, by counts of failures that have not reached their end.
pub record IsSound (old new : Devices) : Type 0 where
  pub link : NoFailureCounted old.link.failures new.link.failures
  pub desk : NoFailureCounted old.desk.failures new.desk.failures

-- The messages end with this line.
abbrev pub EndWithLine : Bytes → Bytes → Type 0
EndWithLine line messages = (before : Bytes) × (messages ≡ before ++ line)

-- The dialog ran whole to this status.
abbrev pub RanToStatus : Dialog OutputEvent ℕ → Devices → Devices → ℕ → Type 0
RanToStatus dialog old new status = (after : Progress) × RanWhole dialog start old new status after
