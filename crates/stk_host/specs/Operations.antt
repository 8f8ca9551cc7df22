-- The operations of a host, as dialogs.
use Rattle.std.specs.Prelude.{ℕ, Bool, ◌+◌, ◌==◌, List, [], ◌∷◌, Option, Some, None, Result, Ok, Err, ⊤, if◌then◌else◌}
use Rattle.std.specs.Str.{bytes_eq}
use Rattle.avr_part.specs.declared.part.Mem.{Mem}
use Rattle.avr_part.specs.Mem.{is_writable}
use Rattle.avr_part.specs.Part.{Part}
use Rattle.stk_frame.specs.declared.command.Command.{Command}
use Rattle.stk_frame.specs.declared.command.Command.TheVariants.{SignOn}
use Rattle.stk_frame.specs.HostCommands.{enter, leave, erase}
use Rattle.stk_host.specs.declared.fault.StepFault.{StepFault}
use Rattle.stk_host.specs.declared.fault.StepFault.TheVariants as of_step
use Rattle.stk_host.specs.declared.fault.HostFault.{HostFault}
use Rattle.stk_host.specs.declared.fault.HostFault.TheVariants.{NoAnswer, LinkEnded, Babble, Refused, BadAnswer, WrongSignature, Differs, ReadOnly}
use Rattle.stk_host.specs.Dialog.{Dialog, Done, ◌>>=◌}
use Rattle.stk_host.specs.Steps.{StepOutcome, unless_step_fault, step, play}
use Rattle.stk_host.specs.WriteSteps.{write_steps}
use Rattle.stk_host.specs.ReadSteps.{signature_steps, read_steps}

-- The fault of a host with the name of the step's fault.
abbrev pub host_fault : StepFault → HostFault
host_fault of_step.NoAnswer = NoAnswer
host_fault of_step.LinkEnded = LinkEnded
host_fault of_step.Babble = Babble
host_fault (of_step.Refused command status) = Refused command status
host_fault (of_step.BadAnswer command) = BadAnswer command

-- Signs on, enters programming mode and reads the signature.
unfoldable pub handshake : Dialog ⊥ StepOutcome
handshake =
    step (SignOn ∷ []) >>= unless_step_fault (λ name. step (enter ∷ []) >>=
    unless_step_fault (λ nothing. play signature_steps []))

-- What `judge` makes of the data of steps, or their fault.
abbrev pub checked_by : {A : Type 0} → (List ℕ → Result A HostFault) → StepOutcome → Result A HostFault
checked_by judge (Ok bytes) = judge bytes
checked_by judge (Err fault) = Err (host_fault fault)

-- The signature found, if it is the wanted one or any is accepted.
abbrev pub signature_checked : List ℕ → Bool → List ℕ → Result (List ℕ) HostFault
signature_checked wanted force found =
    if force then Ok found else if bytes_eq found wanted then Ok found else Err (WrongSignature found)

-- The dialog of `Host::open`.
unfoldable pub opening : List ℕ → Bool → Dialog ⊥ (Result (List ℕ) HostFault)
opening wanted force = handshake >>= λ outcome. Done (checked_by (signature_checked wanted force) outcome)

-- The result of steps whose data aren't asked for.
abbrev pub no_result : List ℕ → Result ⊤ HostFault
no_result bytes = Ok tt

-- The dialog of `Host::close`.
unfoldable pub closing : Dialog ⊥ (Result ⊤ HostFault)
closing = step (leave ∷ []) >>= λ outcome. Done (checked_by no_result outcome)

-- Runs the steps, and makes the result from their data.
unfoldable pub operation : {A : Type 0} → List (List Command) → (List ℕ → Result A HostFault)
    → Dialog ⊥ (Result A HostFault)
operation steps judge = play steps [] >>= λ outcome. Done (checked_by judge outcome)

-- The dialog of `Host::erase`.
abbrev pub erasing : Dialog ⊥ (Result ⊤ HostFault)
erasing = operation ((erase ∷ []) ∷ []) no_result

-- The dialog of `Host::write`. A memory that can't be written is refused before any frame.
abbrev pub writing : Part → Mem → List (Option ℕ) → Dialog ⊥ (Result ⊤ HostFault)
writing part mem image =
    if is_writable mem then operation (write_steps part mem image) no_result else Done (Err (ReadOnly mem))

-- The dialog of `Host::read`.
abbrev pub reading : Part → Mem → Dialog ⊥ (Result (List ℕ) HostFault)
reading part mem = operation (read_steps part mem) Ok

-- The address, the image's byte and the memory's byte.
pub record Difference : Type 0 where
  pub addr : ℕ
  pub want : ℕ
  pub found : ℕ

-- The first difference: the lowest address at which the image holds a byte and the memory another. Both lists begin
-- at `addr`.
abbrev pub difference_from : ℕ → List (Option ℕ) → List ℕ → Option Difference
difference_from addr [] bytes = None
difference_from addr (byte ∷ image) [] = None
difference_from addr (None ∷ image) (found ∷ bytes) = difference_from (addr + 1) image bytes
difference_from addr (Some want ∷ image) (found ∷ bytes) =
    if found == want then difference_from (addr + 1) image bytes
    else Some (record { addr = addr; want = want; found = found })

-- The fault for a difference, if there is one.
abbrev pub differs : Mem → Option Difference → Result ⊤ HostFault
differs mem None = Ok tt
differs mem (Some d) = Err (Differs mem d.addr d.want d.found)

-- What comparing a memory with an image returns.
abbrev pub comparison : Mem → List (Option ℕ) → List ℕ → Result ⊤ HostFault
comparison mem image bytes = differs mem (difference_from 0 image bytes)

-- The dialog of `Host::verify`.
abbrev pub verifying : Part → Mem → List (Option ℕ) → Dialog ⊥ (Result ⊤ HostFault)
verifying part mem image = operation (read_steps part mem) (comparison mem image)
