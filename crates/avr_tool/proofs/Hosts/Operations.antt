-- The operations of a host over any link, in the logic of dialogs: what holds during and after them.
use Rattle.std.proofs.Common.{◌≡◌, ℕ, suc, List, [], ◌∷◌, ◌++◌, length, append_assoc, refl, sym, ap, ◌⊎◌, inl, inr, Ok, Err, Result, rules}
use Rattle.std.proofs.lemmas.List.{append-nil}
use Rattle.std.specs.Prelude.{⊤}
use Rattle.avr_part.specs.Part.{Part, IsPart}
use Rattle.stk_frame.specs.declared.command.Command.{Command}
use Rattle.stk_frame.specs.declared.command.Command.TheVariants.{SignOn}
use Rattle.stk_frame.specs.HostCommands.{enter, leave}
use Rattle.stk_host.specs.declared.fault.HostFault.{HostFault}
use Rattle.stk_host.specs.declared.fault.StepFault.{StepFault}
use Rattle.stk_host.specs.Dialog.{Dialog, Done, ◌>>=◌}
use Rattle.stk_host.specs.Steps.{StepOutcome, step, unless_step_fault, play}
use Rattle.stk_host.specs.ReadSteps.{signature_steps}
use Rattle.stk_host.specs.Operations.{host_fault, handshake, no_result, closing, checked_by, operation}
use Rattle.stk_host.proofs.Dialogs.Logic.{done, bind, outcome_mapped, wider, on_data}
use Rattle.stk_emu.specs.Exchange.{Exchange}
use Rattle.stk_emu.specs.Device.{Device}
use Rattle.stk_emu.specs.DialogOverExchanges.{StateAfter, state_after}
use Rattle.stk_emu.specs.Effect.{Memories}
use Rattle.stk_emu.proofs.Repeatable.{IsRepeatable}
use Rattle.avr_tool.proofs.Real.{AfterBeginning, AfterSteps, AllWork, HasMemories, Reached, Real, Settled, settled_idle}
use Rattle.stk_emu.specs.StepData.{data_of_step, data_of_steps}
use Rattle.stk_emu.specs.Settled.{FitsPart}
use Rattle.avr_part.specs.declared.part.Mem.TheVariants.{Signature}
use Rattle.stk_emu.specs.WriteOperations.{memories_after_step, AreSteps, IsStep}
use Rattle.avr_tool.proofs.WriteOperations.Items.{read_are_steps}
use Rattle.avr_tool.proofs.OverFaultyLink.FirstSteps.{quiet_stays, read_quiet}
use Rattle.avr_tool.proofs.Leads.{memories_after_steps, IsDataOfAttempt}
use Rattle.avr_tool.proofs.Hosts.Attempts.{along_bind, along_next_dialog}
use Rattle.avr_tool.proofs.StepData.WholeMemories.{one_by_one}
use Rattle.avr_tool.proofs.StepData.EachStep.{changed_sizes}
use Rattle.avr_tool.proofs.Hosts.AnyExchange.{over_any_exchange, Keeps, step_leads}

module _ (part : Part) (sound : IsPart part) (real : Real part) where
  -- the data of an attempt are what the step gives
  data_of_attempt : (commands : List Command) (m : Memories) (got : List ℕ) → IsStep part commands → FitsPart part m
      → real.Works commands m
      → IsDataOfAttempt real.device commands (Settled real m) (Settled real (memories_after_step part commands m)) got
      → got ≡ data_of_step part commands m
  data_of_attempt commands m got is f w g = real.gives commands m g.from got is f w g.stood g.is

  -- some first steps after a completed one are some first steps of all
  one_more : (commands : List Command) (steps : List (List Command)) (m : Memories) (q : real.P)
      → Reached real steps (memories_after_step part commands m) q → Reached real (commands ∷ steps) m q
  one_more commands steps m q r = record { count = suc r.count; stands = r.stands }

  -- After a run of steps the memories are those after all of them, with what they give; after a fault, those after some
  -- first ones.
  stepped : (commands : List Command) (steps : List (List Command)) (m : Memories) (before bytes : List ℕ)
      (o : StepOutcome) (q : real.P) → bytes ≡ data_of_step part commands m
      → AfterSteps real steps (memories_after_step part commands m) (before ++ bytes) o q
      → AfterSteps real (commands ∷ steps) m before o q
  stepped commands steps m before bytes o q is a = search (rules, append_assoc, one_more)

  -- a run of steps: at each command some first steps were made, and at the end what `AfterSteps` states
  play_goes : (steps : List (List Command)) (m : Memories) (before : List ℕ) (p : real.P) → AreSteps part steps
      → FitsPart part m → AllWork real steps m → Settled real m p
      → Keeps real.device (Reached real steps m) (AfterSteps real steps m before) (play steps before) p
  unfolding play
  play_goes [] m before p are f w s = done (s, sym (append-nil before))
  play_goes (commands ∷ steps) m before p are f w s =
      bind
      (step_leads real.device commands (Settled real m) (Settled real (memories_after_step part commands m))
      (real.steps commands m are.0 f w.0) (Reached real (commands ∷ steps) m)
      (AfterSteps real (commands ∷ steps) m before) p (λ q t. record { count = 0; stands = t })
      (λ q t. record { count = 1; stands = t }) (λ fault q r. r) s)
      (on_data (over_any_exchange real.device) (λ bytes q. Reached real (commands ∷ steps) m q)
      (λ bytes. play steps (before ++ bytes))
      (λ bytes q x.
      let more = play_goes steps _ (before ++ bytes) q are.1 (changed_sizes part commands m sound f) w.1 x.0 in
      search (rules, wider, one_more, stepped, data_of_attempt commands m bytes are.0 f w.0)))

  -- after an operation: the check of its data, or the fault of a step
  abbrev pub AfterCall : {A : Type 0} → List (List Command) → Memories → (List ℕ → Result A HostFault)
      → Result A HostFault → real.P → Type 0
  AfterCall steps m judge r q =
      (Settled real (memories_after_steps part (length steps) steps m) q × (r ≡ judge (data_of_steps part steps m)))
      ⊎ ((fault : StepFault) × (r ≡ Err (host_fault fault)) × Reached real steps m q)

  -- an operation: the same, and then the check of the data
  pub operation_goes : {A : Type 0} (steps : List (List Command)) (m : Memories) (judge : List ℕ → Result A HostFault)
      (p : real.P) → AreSteps part steps → FitsPart part m → AllWork real steps m → Settled real m p
      → Keeps real.device (Reached real steps m) (AfterCall steps m judge) (operation steps judge) p
  unfolding operation
  operation_goes {A = A} steps m judge p are f w s =
      outcome_mapped (checked_by judge) (play_goes steps m [] p are f w s) (λ o q a. search rules)

  -- reading the signature changes no memory
  idle_reached : (m : Memories) (q : real.P) → Reached real signature_steps m q → HasMemories real m q
  idle_reached m q r = settled_idle real m q (search (rules, quiet_stays, read_quiet))

  -- SIGN_ON, ENTER and the reading of the signature keep the memories
  pub beginning_goes : (m : Memories) (p : real.P) → FitsPart part m → AllWork real signature_steps m
      → HasMemories real m p → Keeps real.device (HasMemories real m) (AfterBeginning real m) handshake p
  unfolding handshake
  beginning_goes m p f w idle =
      bind
      (step_leads real.device (SignOn ∷ []) (HasMemories real m) (HasMemories real m) (real.sign_on m)
      (HasMemories real m) (AfterBeginning real m) p (λ q i. i) (λ q i. i) (λ fault q i. i) idle)
      (on_data (over_any_exchange real.device) (λ bytes q. HasMemories real m q)
      (λ name. step (enter ∷ []) >>= unless_step_fault (λ nothing. play signature_steps []))
      (λ name q i.
      bind
      (step_leads real.device (enter ∷ []) (HasMemories real m) (Settled real m) (real.enters m) (HasMemories real m)
      (AfterBeginning real m) q (λ r j. j) (λ r j. settled_idle real m r j) (λ fault r j. j) i.0)
      (on_data (over_any_exchange real.device) (λ bytes q. HasMemories real m q) (λ nothing. play signature_steps [])
      (λ nothing r t. wider (λ bytes z y. idle_reached m z y) (λ e z y. y)
      (λ o q a. search (rules, one_by_one, idle_reached))
      (play_goes signature_steps m [] r (read_are_steps part sound Signature) f w t.0)))))

-- Closing a session keeps what leaving programming mode keeps; its fault is a step's.
abbrev pub IsClosed : Result ⊤ HostFault → Type 0
IsClosed r = (r ≡ Ok tt) ⊎ ((fault : StepFault) × (r ≡ Err (host_fault fault)))

-- leaving programming mode keeps what a LEAVE keeps, whatever its result
pub closing_goes : {P : Type 0} (m : Device P) (Stands : P → Type 0) → IsRepeatable m (leave ∷ []) Stands Stands
    → (p : P) → Stands p → Keeps m Stands (λ r q. Stands q × IsClosed r) closing p
unfolding closing
closing_goes {P = P} m Stands fits p stands =
    outcome_mapped (checked_by no_result) (step_leads m (leave ∷ []) Stands Stands fits Stands (λ o q. Stands q) p
    (λ q i. i) (λ q i. i) (λ fault q i. i) stands) (λ o q left. search rules)

-- ---- along a link

-- a dialog whose result is reported in another form
abbrev reported : {E A B P : Type 0} → (A → B) → StateAfter E A P → StateAfter E B P
reported report_line s = record {
  dialog = s.dialog >>= (λ a. Done (report_line a));
  programmer = s.programmer;
  exchanges = s.exchanges;
  left = s.left;
}

module _ {E P : Type 0} (m : Device P) where
  -- a result in another form changes nothing along a link
  pub along_reported : {A B : Type 0} (k : ℕ) (d : Dialog E A) (report_line : A → B) (p : P) (exchanges : List Exchange)
      → state_after m k (d >>= (λ a. Done (report_line a))) p exchanges
      ≡ reported report_line (state_after m k d p exchanges)
  along_reported {A = A} {B = B} k d report_line p exchanges =
      search (rules, along_bind, outcome_mapped, along_next_dialog)
