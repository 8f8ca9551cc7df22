-- Worked examples of steps over a restart between two of their commands.
use Rattle.std.proofs.Common.{true, [], ◌∷◌, ap, refl, inl, inr}
use Rattle.std.proofs.lemmas.Bool.{false≢true}
use Rattle.std.specs.Prelude.{⊤}
use Rattle.avr_part.specs.BuiltIn.{m328p}
use Rattle.avr_part.specs.State.{fresh_state}
use Rattle.stk_frame.specs.declared.command.Command.TheVariants.{LoadAddress}
use Rattle.stk_frame.specs.HostCommands.{read_lock}
use Rattle.stk_emu.specs.Programmer.{Programmer, fresh_programmer}
use Rattle.stk_emu.specs.Device.{device}
use Rattle.stk_emu.proofs.Repeatable.{Unbroken}

-- after a restart a read fails, so the attempt ends
ends : Unbroken device (λ p. ⊤) (LoadAddress 0 ∷ read_lock ∷ [])
ends = (λ p t. inr (record { none = λ bytes e. cc; stands = tt }), tt)

-- LOAD_ADDRESS succeeds, so an attempt with two of them would go on
goes_on : Unbroken device (λ p. ⊤) (LoadAddress 0 ∷ LoadAddress 0 ∷ []) → ⊥
goes_on unbroken =
    elim (unbroken.0 (record (fresh_programmer (fresh_state m328p)) { mode = true }) tt) [
      | inl same ↦ false≢true (ap (λ (p : Programmer). p.mode) same)
      | inr fails ↦ fails.none [] refl
    ]
