-- One logic of dialogs: what holds of a dialog from a state on, whatever the other side does.
use Rattle.std.proofs.Common.{ℕ, zero, suc, List, [], Ok, Err, subst, rules}
use Rattle.stk_frame.specs.declared.command.Command.{Command}
use Rattle.stk_host.specs.declared.fault.StepFault.{StepFault}
use Rattle.stk_host.specs.Tape.{Reading}
use Rattle.stk_host.specs.Dialog.{Dialog, Done, Emit, Ask, ◌>>=◌, lifted}
use Rattle.stk_host.specs.Steps.{Reply, Data, Again, Stop, attempt, StepOutcome, retry_or_end, attempts_or_fault, unless_step_fault}
use Rattle.stk_host.proofs.Dialogs.Bound.{bind_done}

-- The other side, by a state: what is read at each move that it may make at a question, and the state after it. The
-- state is whatever a proof needs, such as a programmer, or what is left of a budget.
pub record World (S M : Type 0) : Type 0 where
  pub reads : List ℕ → S → M → Reading
  pub after : List ℕ → S → M → S

module _ {E S M : Type 0} (w : World S M) (Asks : List ℕ → S → Type 0) (MayEmit : E → S → Type 0) where
  -- From this state on, whatever moves are made, each question and each output event comes only if its condition holds.
  -- Each result comes only if its own does.
  abbrev pub HoldsFrom : {R : Type 0} → (R → S → Type 0) → Dialog E R → S → Type 0
  HoldsFrom After (Done r) s = After r s
  HoldsFrom After (Emit e dialog) s = MayEmit e s × HoldsFrom After dialog s
  HoldsFrom After (Ask bytes go_on) s =
      Asks bytes s × ((move : M) → HoldsFrom After (go_on (w.reads bytes s move)) (w.after bytes s move))

  -- The same as a record, so that dialogs, conditions and states are found as implicit arguments.
  pub record Upholds {R : Type 0} (After : R → S → Type 0) (dialog : Dialog E R) (s : S) : Type 0 where
    pub holds : HoldsFrom After dialog s

-- a call has no output
abbrev pub NoOutput : {S : Type 0} → ⊥ → S → Type 0
NoOutput e s = ⊥

-- after an attempt: what holds if another may follow, else the condition of the step's outcome
abbrev pub OnReply : {S : Type 0} → (S → Type 0) → (StepOutcome → S → Type 0) → Reply → S → Type 0
OnReply Stands After (Data bytes) s = After (Ok bytes) s
OnReply Stands After (Again fault) s = Stands s
OnReply Stands After (Stop fault) s = After (Err fault) s

-- after a step: what holds after its data, else the condition of the whole outcome
abbrev pub OnOutcome : {S : Type 0} → (List ℕ → S → Type 0) → (StepOutcome → S → Type 0) → StepOutcome → S → Type 0
OnOutcome Then After (Ok bytes) s = Then bytes s
OnOutcome Then After (Err fault) s = After (Err fault) s

module _ {E S M : Type 0} (w : World S M) (Asks : List ℕ → S → Type 0) (MayEmit : E → S → Type 0) where
  -- a dialog and the next one, under conditions that follow
  module _ {A B : Type 0} (Asks' : List ℕ → S → Type 0) (MayEmit' : E → S → Type 0) (Between : A → S → Type 0)
      (After : B → S → Type 0) (next : A → Dialog E B)
      (f : (bytes : List ℕ) (t : S) → Asks bytes t → Asks' bytes t) (g : (e : E) (t : S) → MayEmit e t → MayEmit' e t)
      (more : (a : A) (t : S) → Between a t → Upholds w Asks' MayEmit' After (next a) t) where
    on_bind : (d : Dialog E A) (s : S) → HoldsFrom w Asks MayEmit Between d s
        → HoldsFrom w Asks' MayEmit' After (d >>= next) s
    on_bind (Done a) s h = (more a s h).holds
    on_bind (Emit e d) s h = (g e s h.0, on_bind d s h.1)
    on_bind (Ask bytes go_on) s h = (f bytes s h.0, λ move. on_bind (go_on _) (w.after bytes s move) (h.1 move))

  -- a call, as a part of a dialog with output
  on_lifted : {R : Type 0} (After : R → S → Type 0) (d : Dialog ⊥ R) (s : S)
      → HoldsFrom w Asks NoOutput After d s → HoldsFrom w Asks MayEmit After (lifted d) s
  on_lifted After (Done r) s h = h
  on_lifted After (Emit e d) s h = absurd e
  on_lifted After (Ask bytes go_on) s h = (h.0, λ move. on_lifted After (go_on _) (w.after bytes s move) (h.1 move))

module _ {E S M : Type 0} {w : World S M} {Asks : List ℕ → S → Type 0} {MayEmit : E → S → Type 0} where
  -- a dialog that is done, one that begins with output, and one that asks
  pub done : {R : Type 0} {After : R → S → Type 0} {r : R} {s : S} → After r s → Upholds w Asks MayEmit After (Done r) s
  done a = record { holds = a }

  pub emit : {R : Type 0} {After : R → S → Type 0} {e : E} {d : Dialog E R} {s : S}
      → MayEmit e s → Upholds w Asks MayEmit After d s → Upholds w Asks MayEmit After (Emit e d) s
  emit f l = record { holds = (f, l.holds) }

  pub ask : {R : Type 0} {After : R → S → Type 0} {bytes : List ℕ} {go_on : Reading → Dialog E R} {s : S} → Asks bytes s
      → ((move : M) → Upholds w Asks MayEmit After (go_on (w.reads bytes s move)) (w.after bytes s move))
      → Upholds w Asks MayEmit After (Ask bytes go_on) s
  ask f l = record { holds = (f, λ move. (l move).holds) }

  -- one dialog, then the next one from its result
  pub bind : {A B : Type 0} {Between : A → S → Type 0} {After : B → S → Type 0} {d : Dialog E A} {next : A → Dialog E B}
      {s : S} → Upholds w Asks MayEmit Between d s → ((a : A) (t : S) → Between a t
      → Upholds w Asks MayEmit After (next a) t) → Upholds w Asks MayEmit After (d >>= next) s
  bind {Between = Between} {After = After} {d = d} {next = next} {s = s} l more = search (rules, on_bind)

  -- a result that is only returned in another form
  pub outcome_mapped : {A B : Type 0} {Between : A → S → Type 0} {After : B → S → Type 0} {d : Dialog E A} {s : S}
      (report_line : A → B) → Upholds w Asks MayEmit Between d s → ((a : A) (t : S) → Between a t
      → After (report_line a) t) → Upholds w Asks MayEmit After (d >>= (λ a. Done (report_line a))) s
  outcome_mapped report_line l more = bind l (λ a t b. done (more a t b))

  -- conditions that follow
  pub wider : {R : Type 0} {Asks' : List ℕ → S → Type 0} {MayEmit' : E → S → Type 0} {After After' : R → S → Type 0}
      {d : Dialog E R} {s : S} → ((bytes : List ℕ) (t : S) → Asks bytes t → Asks' bytes t)
      → ((e : E) (t : S) → MayEmit e t → MayEmit' e t) → ((r : R) (t : S) → After r t → After' r t)
      → Upholds w Asks MayEmit After d s → Upholds w Asks' MayEmit' After' d s
  wider {Asks' = Asks'} {MayEmit' = MayEmit'} {After = After} {After' = After'} {d = d} {s = s} f g h l =
      subst (λ d. Upholds w Asks' MayEmit' After' d s) (bind_done d) (search (rules, on_bind))

  pub call : {R : Type 0} {After : R → S → Type 0} {d : Dialog ⊥ R} {s : S}
      → Upholds w Asks NoOutput After d s → Upholds w Asks MayEmit After (lifted d) s
  call {After = After} {d = d} {s = s} l = record { holds = on_lifted w Asks MayEmit After d s l.holds }

module _ {S M : Type 0} (w : World S M) (Asks : List ℕ → S → Type 0) where
  abbrev Calls : {R : Type 0} → (R → S → Type 0) → Dialog ⊥ R → S → Type 0
  Calls After d s = Upholds w Asks NoOutput After d s

  -- Attempts, with a condition before each, by how many are left. It holds after an attempt that may be repeated; with
  -- none left it becomes the condition of a fault.
  module _ (commands : List Command) (Stands : ℕ → S → Type 0) (After : StepOutcome → S → Type 0)
      (once : (more : ℕ) (t : S) → Stands (suc more) t → Calls (OnReply (Stands more) After) (attempt commands []) t)
      (none : (fault : StepFault) (t : S) → Stands 0 t → After (Err fault) t) where
    by_reply : (more : ℕ) → ((fault : StepFault) (t : S) → Stands more t
        → Calls After (attempts_or_fault more commands fault) t) → (reply : Reply) (t : S)
        → OnReply (Stands more) After reply t → Calls After (retry_or_end (attempts_or_fault more commands) reply) t
    by_reply more each (Data bytes) t x = done x
    by_reply more each (Again fault) t x = each fault t x
    by_reply more each (Stop fault) t x = done x

    pub attempts : (more : ℕ) (fault : StepFault) (s : S) → Stands more s
        → Calls After (attempts_or_fault more commands fault) s
    unfolding attempts_or_fault
    attempts zero fault s stands = done (none fault s stands)
    attempts (suc more) fault s stands = bind (once more s stands) (by_reply more (attempts more))

  -- a fault keeps its condition, and with data the next dialog goes on
  pub on_data : {Then : List ℕ → S → Type 0} {After : StepOutcome → S → Type 0} (go_on : List ℕ → Dialog ⊥ StepOutcome)
      → ((bytes : List ℕ) (t : S) → Then bytes t → Calls After (go_on bytes) t) → (outcome : StepOutcome) (t : S)
      → OnOutcome Then After outcome t → Calls After (unless_step_fault go_on outcome) t
  on_data go_on each (Ok bytes) t x = each bytes t x
  on_data go_on each (Err fault) t x = done x
