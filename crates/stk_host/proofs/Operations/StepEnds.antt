-- One step after another, by the clauses of each call.
use Rattle.std.proofs.Common.{◌≡◌, refl, ℕ, Bool, false, if◌then◌else◌, List, [], ◌∷◌, ◌++◌, Ok, Err, Result, inl, inr, rules}
use Rattle.std.specs.Str.{bytes_eq}
use Rattle.stk_frame.specs.declared.command.Command.{Command}
use Rattle.stk_frame.specs.HostCommands.{leave}
use Rattle.stk_host.specs.declared.fault.StepFault.{StepFault}
use Rattle.stk_host.specs.declared.fault.HostFault.{HostFault}
use Rattle.stk_host.specs.declared.fault.HostFault.TheVariants.{SendFailed, RecvFailed, WrongSignature}
use Rattle.stk_host.specs.Transcript.{LinkState}
use Rattle.stk_host.specs.Dialog.{Dialog, Done, ◌>>=◌}
use Rattle.stk_host.specs.Play.{Progress, RunsOverLink}
use Rattle.stk_host.specs.Reach.{Reaches}
use Rattle.stk_host.specs.Steps.{StepOutcome, unless_step_fault, step, play}
use Rattle.stk_host.specs.Operations.{host_fault, checked_by, signature_checked, handshake, opening, no_result, closing}
use Rattle.stk_host.specs.Calls.{StopsSteps, EndsSteps, EndsCall, opening_result}
use Rattle.stk_host.proofs.Transcripts.Reached.{reaches_on, reaches_from, played_from, broken_on, broken_bind, then_reaches}

-- a stop in a dialog that was reached
pub stops_on : {a b : Dialog ⊥ StepOutcome} {m n : Progress} {o p : LinkState} (k : Progress) (q : LinkState)
    (fault : HostFault) → Reaches a m o b n p → StopsSteps b n p q fault k → StopsSteps a m o q fault k
stops_on k q fault f (inl e) = inl (broken_on f e)
stops_on k q fault f (inr (of, is, e)) = inr (of, is, played_from (reaches_on f (reaches_from e)))

-- a stop, after which nothing follows
pub stops_there : (a : Dialog ⊥ StepOutcome) (go_on : List ℕ → Dialog ⊥ StepOutcome) (m n : Progress) (o p : LinkState)
    (fault : HostFault) → StopsSteps a m o p fault n → StopsSteps (a >>= unless_step_fault go_on) m o p fault n
stops_there a go_on m n o p fault (inl e) = inl (broken_bind (unless_step_fault go_on) e)
stops_there a go_on m n o p fault (inr (of, is, e)) =
    inr (of, is, played_from (then_reaches (unless_step_fault go_on) e))

-- steps that brought their data
pub goes_on : {a : Dialog ⊥ StepOutcome} {m n : Progress} {o p : LinkState} (go_on : List ℕ → Dialog ⊥ StepOutcome)
    (bytes : List ℕ) → RunsOverLink a m o p (Ok bytes) n → Reaches (a >>= unless_step_fault go_on) m o (go_on bytes) n p
goes_on go_on bytes f = then_reaches (unless_step_fault go_on) f

-- a step of a list of steps
pub play_on : (commands : List Command) (steps : List (List Command)) (before bytes : List ℕ) {m n : Progress}
    {o p : LinkState} → RunsOverLink (step commands) m o p (Ok bytes) n
    → Reaches (play (commands ∷ steps) before) m o (play steps (before ++ bytes)) n p
unfolding play
play_on commands steps before bytes f = goes_on (λ bs. play steps (before ++ bs)) bytes f

pub play_stops : (commands : List Command) (steps : List (List Command)) (before : List ℕ) (m n : Progress)
    (o p : LinkState) (fault : HostFault)
    → StopsSteps (step commands) m o p fault n → StopsSteps (play (commands ∷ steps) before) m o p fault n
unfolding play
play_stops commands steps before m n o p fault e = search (rules, stops_there)

pub play_done : (bytes : List ℕ) {a : Dialog ⊥ StepOutcome} {m n : Progress} {o p : LinkState}
    → Reaches a m o (play [] bytes) n p → RunsOverLink a m o p (Ok bytes) n
unfolding play
play_done bytes f = played_from f

-- the result of an operation from the outcome of its steps

pub stop_ends : {A : Type 0} (allocates : Bool) (first : Dialog ⊥ StepOutcome) (judge : StepOutcome
    → Result A HostFault) → ((fault : StepFault) → judge (Err fault) ≡ Err (host_fault fault))
    → (fault : HostFault) (m n : Progress) (o p : LinkState) → StopsSteps first m o p fault n
    → EndsCall allocates (first >>= λ outcome. Done (judge outcome)) m o p (Err fault) n
stop_ends allocates first judge passes_on fault m n o p (inr (of, is, e)) =
    search (rules, then_reaches (λ outcome. Done (judge outcome)) e)
stop_ends allocates first judge passes_on SendFailed m n o p (inl e) = broken_bind (λ outcome. Done (judge outcome)) e
stop_ends allocates first judge passes_on RecvFailed m n o p (inl e) = broken_bind (λ outcome. Done (judge outcome)) e
stop_ends allocates first judge passes_on _ m n o p (inl e) = absurd e.breaks

-- the checked signature is right or wrong; neither is a fault of the link
checked_ends : {dialog : Dialog ⊥ (Result (List ℕ) HostFault)} {m n : Progress} {o p : LinkState}
    (wanted found : List ℕ) (force same : Bool)
    → RunsOverLink dialog m o p (if force then Ok found else if same then Ok found else Err (WrongSignature found)) n
    → EndsCall false dialog m o p (if force then Ok found else if same then Ok found else Err (WrongSignature found)) n
checked_ends wanted found force same e = search rules

pub opening_ends : (wanted : List ℕ) (force : Bool) (begun : Result (List ℕ) HostFault) (m n : Progress)
    (o p : LinkState) → EndsSteps handshake (λ found. found) m o p begun n
    → EndsCall false (opening wanted force) m o p (opening_result wanted force begun) n
unfolding opening
opening_ends wanted force (Ok found) m n o p e =
    checked_ends wanted found force (bytes_eq found wanted)
    (played_from (then_reaches (λ outcome. Done (checked_by (signature_checked wanted force) outcome)) e))
opening_ends wanted force (Err fault) m n o p e = search (rules, stop_ends)

pub closing_ends : (result : Result (Unit {0}) HostFault) (m n : Progress) (o p : LinkState)
    → EndsSteps (step (leave ∷ [])) (λ done. []) m o p result n → EndsCall false closing m o p result n
unfolding closing
closing_ends (Ok done) m n o p e = played_from (then_reaches (λ outcome. Done (checked_by no_result outcome)) e)
closing_ends (Err fault) m n o p e =
    stop_ends false (step (leave ∷ [])) (checked_by no_result) (λ fault. refl) fault m n o p e
