-- A run of steps along a link: how many of their conditions it has passed.
use Rattle.std.proofs.Common.{◌≡◌, ℕ, zero, suc, ◌≤◌, List, [], ◌∷◌, ◌++◌, length, refl, sym, ◌∙◌, Ok, rules}
use Rattle.stk_frame.specs.declared.command.Command.{Command}
use Rattle.stk_host.specs.Dialog.{Dialog, Done, Emit, Ask}
use Rattle.stk_host.specs.Steps.{StepOutcome, exchange, attempt, attempts_or_fault, step, unless_step_fault, play}
use Rattle.stk_emu.specs.Exchange.{Exchange}
use Rattle.stk_emu.specs.Device.{Device}
use Rattle.stk_emu.specs.DialogOverExchanges.{StateAfter, state_after}
use Rattle.avr_tool.proofs.Leads.{AllFit, AreSome, Climbs}
use Rattle.avr_tool.specs.Completed.{step_count, steps_completed}
use Rattle.avr_tool.proofs.Hosts.Attempts.{along_bind, along_next_dialog, step_stands, Stepped}

-- Of no commands none are left.
pub none_left : {E R P : Type 0} (m : Device P) (d : Dialog E R) (p : P) (exchanges : List Exchange)
    → (state_after m 0 d p exchanges).left ≡ 0
none_left m (Done r) p exchanges = refl
none_left m (Emit s d) p exchanges = none_left m d p exchanges
none_left m (Ask bytes go_on) p exchanges = refl

module _ {P : Type 0} (m : Device P) where
  -- a dialog that is done with commands to spare was done without the last
  pub along_before : {E R : Type 0} (k left : ℕ) (d : Dialog E R) (p : P) (exchanges : List Exchange) (r : R)
      → (state_after m (suc k) d p exchanges).dialog ≡ Done r → (state_after m (suc k) d p exchanges).left ≡ suc left
      → state_after m k d p exchanges ≡ record {
        dialog = Done r;
        programmer = (state_after m (suc k) d p exchanges).programmer;
        exchanges = (state_after m (suc k) d p exchanges).exchanges;
        left = left;
      }
  along_before k left (Done q) p exchanges r e n = search rules
  along_before k left (Emit s d) p exchanges r e n = along_before k left d p exchanges r e n
  along_before zero left (Ask bytes go_on) p exchanges r e n = absurd (cc (sym (none_left m (go_on _) _ _) ∙ n))
  along_before (suc k) left (Ask bytes go_on) p exchanges r e n = along_before k left (go_on _) _ _ r e n

  module _ (At : ℕ → P → Type 0) where
    -- the count of the rest of a run, with its bounds
    abbrev Rest : ℕ → StateAfter ⊥ StepOutcome P → ℕ → ℕ → Type 0
    Rest total s done before =
        (count : ℕ) × (done ≤ count) × (count ≤ suc before) × (At count s.programmer)
        × ((bytes : List ℕ) → s.dialog ≡ Done (Ok bytes) → count ≡ total)

    -- the rest after a step that gave data, by how many commands are left
    behind : (left k : ℕ) (steps : List (List Command)) (commands : List Command) (p : P) (exchanges : List Exchange)
        (bytes : List ℕ) (t : StateAfter ⊥ StepOutcome P) → let s = state_after m (suc k) (step commands) p exchanges in
        s.dialog ≡ Done (Ok bytes) → s.left ≡ left → Climbs m (λ j. At (suc j)) left steps s.programmer s.exchanges t
        → Rest (suc (length steps)) t (suc (steps_completed m steps left s.programmer s.exchanges))
        (steps_completed m (commands ∷ steps) k p exchanges)
    behind zero k steps commands p exchanges bytes t e n c = search rules
    behind (suc left) k steps commands p exchanges bytes t e n c =
        search (rules, along_before k left (step commands) p exchanges (Ok bytes) e n)

    -- A run has passed the conditions of its first step and those of its rest.
    climbs_from : (k : ℕ) (steps : List (List Command)) (commands : List Command) (p : P) (exchanges : List Exchange)
        (go_on : List ℕ → Dialog ⊥ StepOutcome) (d : Dialog ⊥ StepOutcome)
        → let s = state_after m (suc k) (step commands) p exchanges in
        s.dialog ≡ d → Stepped m (At 0) (At 1) s → ((bytes : List ℕ) → At 1 s.programmer
        → Climbs m (λ j. At (suc j)) s.left steps s.programmer s.exchanges
        (state_after m s.left (go_on bytes) s.programmer s.exchanges))
        → Rest (suc (length steps)) (along_next_dialog m (unless_step_fault go_on) s.left s.exchanges s.programmer d)
        (step_count d (steps_completed m steps s.left s.programmer s.exchanges))
        (steps_completed m (commands ∷ steps) k p exchanges)
    climbs_from k steps commands p exchanges go_on (Done (Ok bytes)) e stepped rest =
        search (rules, behind, stepped.whole)
    climbs_from k steps commands p exchanges go_on d e stepped rest = search rules

    -- Before any command the first condition holds.
    none_asked : (command : Command) (commands : List Command) (steps : List (List Command)) (before : List ℕ) (p : P)
        (exchanges : List Exchange) → At 0 p → Climbs m At 0 ((command ∷ commands) ∷ steps) p exchanges
        (state_after m 0 (play ((command ∷ commands) ∷ steps) before) p exchanges)
    unfolding play attempts_or_fault attempt exchange
    none_asked command commands steps before p exchanges at = search rules

  -- each completed step leads from one condition to the next; for `steps_climb` (StepData/FirstSteps)
  pub play_climbs : (At : ℕ → P → Type 0) (steps : List (List Command)) (k : ℕ) (before : List ℕ) (p : P)
      (exchanges : List Exchange) → AreSome steps → AllFit m At steps → At 0 p
      → Climbs m At k steps p exchanges (state_after m k (play steps before) p exchanges)
  unfolding play
  play_climbs At [] k before p exchanges some fit at = search rules
  play_climbs At ([] ∷ steps) k before p exchanges some fit at = absurd some
  play_climbs At ((command ∷ commands) ∷ steps) zero before p exchanges some fit at = search (rules, none_asked)
  play_climbs At ((command ∷ commands) ∷ steps) (suc k) before p exchanges some fit at =
      let cs = command ∷ commands in
      let s = state_after m (suc k) (step cs) p exchanges in
      let stepped : Stepped m (At 0) (At 1) s = step_stands m (At 0) (At 1) (suc k) cs p exchanges fit.0 at in
      let r =
      climbs_from At k steps cs p exchanges (λ bytes. play steps (before ++ bytes)) s.dialog refl stepped
      (λ bytes here. play_climbs (λ j. At (suc j)) steps s.left (before ++ bytes) s.programmer s.exchanges some fit.1
      here) in
      search (rules, along_bind)
