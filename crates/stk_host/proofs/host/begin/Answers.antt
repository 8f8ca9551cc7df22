use Rattle.std.proofs.Common.{◌≡◌, ℕ, List, [], ◌∷◌, Ok, rules}
use Rattle.std.proofs.lemmas.Result.{err_from_is_err_and}
use Rattle.stk_frame.specs.declared.command.Command.{Command}
use Rattle.stk_frame.specs.declared.command.Command.TheVariants.{SignOn}
use Rattle.stk_frame.specs.HostCommands.{enter, read_signature}
use Rattle.stk_host.specs.Transcript.{LinkState}
use Rattle.stk_host.specs.Dialog.{Dialog, ◌>>=◌}
use Rattle.stk_host.specs.Play.{Progress, RunsOverLink}
use Rattle.stk_host.specs.Reach.{Reaches}
use Rattle.stk_host.specs.Steps.{StepOutcome, unless_step_fault, step, play}
use Rattle.stk_host.specs.ReadSteps.{signature_steps}
use Rattle.stk_host.specs.Operations.{handshake}
use Rattle.stk_host.proofs.Transcripts.Reached.{reaches_on}
use Rattle.stk_host.proofs.Operations.StepEnds.{stops_on, stops_there, goes_on, play_on, play_stops, play_done}
use Rattle.stk_host.proofs.host.begin.Goals as goal

entering : Dialog ⊥ StepOutcome
entering = step (enter ∷ []) >>= unless_step_fault (λ nothing. play signature_steps [])

-- after SIGN_ON
signed_on : {m n : Progress} {o p : LinkState} {name : List ℕ} → RunsOverLink (step (SignOn ∷ [])) m o p (Ok name) n
    → Reaches handshake m o entering n p
unfolding handshake entering
signed_on {name = name} f = goes_on (λ name. step (enter ∷ []) >>=
    unless_step_fault (λ nothing. play signature_steps [])) name f

-- after ENTER
entered : {k m n : Progress} {r o p : LinkState} {nothing : List ℕ} {command : Command} → command ≡ enter
    → Reaches handshake k r entering m o → RunsOverLink (step (command ∷ [])) m o p (Ok nothing) n
    → Reaches handshake k r (play signature_steps []) n p
unfolding entering
entered {nothing = nothing} is f g = reaches_on f (goes_on (λ nothing. play signature_steps []) nothing (rw is at g))

pub returns-in_err-step : goal.returns-in_err-step
unfolding handshake
returns-in_err-step g c =
    let p = err_from_is_err_and c.from_residual.result c.from_residual.ensures.1 in
    rw (p.1, p.2) (
    let played = stops_there (step (SignOn ∷ []))
    (λ name. step (enter ∷ []) >>= unless_step_fault (λ nothing. play signature_steps [])) _ _ _ _ _
    c.in_err-step.ensures.asks.played in
    search rules)

pub returns-in_err-step-2 : goal.returns-in_err-step-2
unfolding entering
returns-in_err-step-2 g c =
    let p = err_from_is_err_and c.from_residual-in_err-step-2.result c.from_residual-in_err-step-2.ensures.1 in
    rw (p.1, p.2) (
    let played = stops_on _ _ _ (signed_on c.in_ok-step.ensures.asks.played)
    (stops_there (step (enter ∷ [])) (λ nothing. play signature_steps []) _ _ _ _ _
    (rw c.enter.ensures.value at c.in_err-step-2.ensures.asks.played)) in
    search rules)

pub returns-in_err-first : goal.returns-in_err-first
returns-in_err-first g c =
    let p = err_from_is_err_and c.from_residual-in_err-first.result c.from_residual-in_err-first.ensures.1 in
    rw (p.1, p.2) (
    let played = stops_on _ _ _ (entered c.enter.ensures.value (signed_on c.in_ok-step.ensures.asks.played)
    c.in_ok-step-2.ensures.asks.played) (play_stops (read_signature 0 ∷ []) _ [] _ _ _ _ _
    c.in_err-first.ensures.played) in
    search rules)

pub returns-in_err-second : goal.returns-in_err-second
returns-in_err-second g c =
    let p = err_from_is_err_and c.from_residual-in_err-second.result c.from_residual-in_err-second.ensures.1 in
    rw (p.1, p.2) (
    let played = stops_on _ _ _ (reaches_on (entered c.enter.ensures.value (signed_on c.in_ok-step.ensures.asks.played)
    c.in_ok-step-2.ensures.asks.played) (play_on (read_signature 0 ∷ []) _ [] _ c.in_ok-first.ensures.played))
    (play_stops (read_signature 1 ∷ []) _ _ _ _ _ _ _ c.in_err-second.ensures.played) in
    search rules)

pub returns-in_err-third : goal.returns-in_err-third
returns-in_err-third g c =
    let p = err_from_is_err_and c.from_residual-in_err-third.result c.from_residual-in_err-third.ensures.1 in
    rw (p.1, p.2) (
    let played = stops_on _ _ _ (reaches_on (reaches_on (entered c.enter.ensures.value (signed_on
    c.in_ok-step.ensures.asks.played) c.in_ok-step-2.ensures.asks.played) (play_on (read_signature 0 ∷ []) _ [] _
    c.in_ok-first.ensures.played)) (play_on (read_signature 1 ∷ []) _ _ _ c.in_ok-second.ensures.played))
    (play_stops (read_signature 2 ∷ []) _ _ _ _ _ _ _ c.in_err-third.ensures.played) in
    search rules)

pub returns : goal.returns
returns g c =
    let played = play_done _ (reaches_on (reaches_on (reaches_on (entered c.enter.ensures.value (signed_on
    c.in_ok-step.ensures.asks.played) c.in_ok-step-2.ensures.asks.played) (play_on (read_signature 0 ∷ []) _ [] _
    c.in_ok-first.ensures.played)) (play_on (read_signature 1 ∷ []) _ _ _ c.in_ok-second.ensures.played))
    (play_on (read_signature 2 ∷ []) _ _ _ c.in_ok-third.ensures.played)) in
    search rules
