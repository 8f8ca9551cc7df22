-- A run of steps, the check of its data and the output about it: where they are along a link.
use Rattle.std.proofs.Common.{◌≡◌, ℕ, zero, suc, List, [], ◌∷◌, refl, Ok, Err, Result, rules}
use Rattle.avr_io.specs.OutputEvents.{OutputEvent}
use Rattle.stk_host.specs.declared.fault.HostFault.{HostFault}
use Rattle.stk_host.specs.Dialog.{Dialog, Done, Emit, Ask, ◌>>=◌}
use Rattle.stk_host.specs.Steps.{StepOutcome}
use Rattle.stk_host.specs.Operations.{checked_by}
use Rattle.stk_emu.specs.Exchange.{Exchange, later_exchanges}
use Rattle.stk_emu.specs.Device.{Device}
use Rattle.stk_emu.specs.DialogOverExchanges.{state_after}
use Rattle.avr_tool.proofs.Hosts.AnyExchange.{asks≢done, done_is}
use Rattle.avr_session.specs.Standing.{Standing, NoFault}
use Rattle.avr_session.specs.Session.{emits, reported}

module _ {P : Type 0} (m : Device P) where
  -- output events ask nothing of the programmer
  output_programmer : (k : ℕ) (outputs : List OutputEvent) (s : Standing) (p : P) (exchanges : List Exchange)
      → (state_after m k (emits outputs (Done s)) p exchanges).programmer ≡ p
  output_programmer k [] s p exchanges = refl
  output_programmer k (event ∷ outputs) s p exchanges = output_programmer k outputs s p exchanges

  -- after its output events the dialog is done
  output_dialog : (k : ℕ) (outputs : List OutputEvent) (s : Standing) (p : P) (exchanges : List Exchange)
      → (state_after m k (emits outputs (Done s)) p exchanges).dialog ≡ Done s
  output_dialog k [] s p exchanges = refl
  output_dialog k (event ∷ outputs) s p exchanges = output_dialog k outputs s p exchanges

  module _ {A : Type 0} (judge : List ℕ → Result A HostFault)
      (outcome_output : Result A HostFault → List OutputEvent) where
    -- a run of steps, the check of its data, and the output about the result
    abbrev notice : Dialog ⊥ StepOutcome → Dialog OutputEvent Standing
    notice d = reported (d >>= (λ outcome. Done (checked_by judge outcome))) outcome_output

    -- output changes neither programmer nor link
    pub reported_programmer : (k : ℕ) (d : Dialog ⊥ StepOutcome) (p : P) (exchanges : List Exchange)
        → (state_after m k (notice d) p exchanges).programmer ≡ (state_after m k d p exchanges).programmer
    reported_programmer k (Done o) p exchanges = search (rules, output_programmer)
    reported_programmer k (Emit e d) p exchanges = absurd e
    reported_programmer zero (Ask bytes go_on) p exchanges = refl
    reported_programmer (suc k) (Ask bytes go_on) p exchanges = search (rules, reported_programmer k)

    -- if the session is fine, all steps were completed
    pub reported_fine : (k : ℕ) (d : Dialog ⊥ StepOutcome) (p : P) (exchanges : List Exchange)
        → (state_after m k (notice d) p exchanges).dialog ≡ Done NoFault
        → (got : List ℕ) × ((state_after m k d p exchanges).dialog ≡ Done (Ok got))
    reported_fine k (Done (Ok got)) p exchanges e = (got, refl)
    reported_fine k (Done (Err fault)) p exchanges e = search (rules, done_is, output_dialog)
    reported_fine k (Emit s d) p exchanges e = absurd s
    reported_fine zero (Ask bytes go_on) p exchanges e = absurd (asks≢done _ _ _ e)
    reported_fine (suc k) (Ask bytes go_on) p exchanges e = reported_fine k (go_on _) _ (later_exchanges exchanges) e
