-- How much dialogs ask: laws for the crates above, and the bounds of steps and of the operations.
use Rattle.std.proofs.Common.{◌≡◌, ℕ, zero, suc, ◌+◌, ◌*◌, ◌≤◌, List, [], ◌∷◌, ◌++◌, length, length-append, refl, ap, arith, Bool, Result, Option, rules}
use Rattle.std.proofs.Math.Nat.{suc-mul}
use Rattle.avr_part.specs.declared.part.Mem.{Mem}
use Rattle.avr_part.specs.Part.{Part}
use Rattle.stk_frame.specs.declared.command.Command.{Command}
use Rattle.stk_frame.specs.HostCommands.{leave}
use Rattle.stk_host.specs.declared.fault.HostFault.{HostFault}
use Rattle.stk_host.specs.declared.fault.StepFault.{StepFault}
use Rattle.stk_host.specs.declared.fault.StepFault.TheVariants.{NoAnswer}
use Rattle.stk_host.specs.Tape.{Tape, Reading, answer}
use Rattle.stk_host.specs.Dialog.{Dialog, Done, Emit, Ask, ◌>>=◌, Event, Frame, Emitted, Played, played, continue_with_reading, next, frames_in}
use Rattle.stk_host.specs.Play.{IsPrefixOfEvents, NoPart}
use Rattle.stk_host.specs.Steps.{exchange, Reply, reply_from_reading, with_data, attempt, StepOutcome, retry_or_end, attempts_or_fault, step, unless_step_fault, play}
use Rattle.stk_host.specs.WriteSteps.{write_steps}
use Rattle.stk_host.specs.Operations.{handshake, opening, no_result, closing, checked_by, operation, writing}
use Rattle.stk_host.specs.Bound.{AsksAtMost, SendsAtMost, commands_in, opening_steps, closing_steps, IsBoundedBy}

-- questions

asks_within : {E R : Type 0} (n m : ℕ) (d : Dialog E R) → n ≤ m → AsksAtMost n d → AsksAtMost m d
asks_within n m (Done r) le f = tt
asks_within n m (Emit e d) le f = asks_within n m d le f
asks_within zero m (Ask body resume) le f = absurd f
asks_within (suc n) zero (Ask body resume) le f = absurd (omega arith)
asks_within (suc n) (suc m) (Ask body resume) le f =
    λ reading. asks_within n m (resume reading) (omega arith) (f reading)

asks_bind : {E A B : Type 0} (n k m : ℕ) (d : Dialog E A) (go_on : A → Dialog E B) → n + k ≤ m → AsksAtMost n d
    → ((a : A) → AsksAtMost k (go_on a)) → AsksAtMost m (d >>= go_on)
asks_bind n k m (Done a) go_on le f g = asks_within k m (go_on a) (omega arith) (g a)
asks_bind n k m (Emit e d) go_on le f g = asks_bind n k m d go_on le f g
asks_bind zero k m (Ask body resume) go_on le f g = absurd f
asks_bind (suc n) k zero (Ask body resume) go_on le f g = absurd (omega arith)
asks_bind (suc n) k (suc m) (Ask body resume) go_on le f g =
    λ reading. asks_bind n k m (resume reading) go_on (omega arith) (f reading) g

-- frames

read_most : {E R : Type 0} (n : ℕ) (go_on : Reading → Tape → Played E R) (got : Option (Reading × Tape))
    → ((reading : Reading) (left : Tape) → length (frames_in (go_on reading left).events) ≤ n)
    → length (frames_in (continue_with_reading go_on got).events) ≤ n
read_most n go_on got f = search rules

-- a dialog sends no more frames than it asks
pub sends_most : {E R : Type 0} (n : ℕ) (d : Dialog E R) (seq : ℕ) (tape : Tape) → AsksAtMost n d
    → length (frames_in (played d seq tape).events) ≤ n
sends_most n (Done r) seq tape f = omega arith
sends_most n (Emit e d) seq tape f = sends_most n d seq tape f
sends_most zero (Ask body resume) seq tape f = absurd f
sends_most (suc n) (Ask body resume) seq tape f =
    let l = read_most n (λ reading. played (resume reading) (next seq)) (answer seq tape)
    (λ reading left. sends_most n (resume reading) (next seq) left (f reading)) in search rules

frames_append : {E : Type 0} (x y : List (Event E)) → frames_in (x ++ y) ≡ frames_in x ++ frames_in y
frames_append [] y = refl
frames_append (Frame bytes ∷ x) y = ap (λ frames. bytes ∷ frames) (frames_append x y)
frames_append (Emitted e ∷ x) y = frames_append x y

-- a prefix of events has no more frames
pub prefix_most : {E : Type 0} {IsPartOfEvent : E → E → Type 0} {shown events : List (Event E)}
    → IsPrefixOfEvents IsPartOfEvent shown events → length (frames_in shown) ≤ length (frames_in events)
prefix_most {IsPartOfEvent = IsPartOfEvent} {shown = shown} {events = events} f =
    search (rules, frames_append, length-append)

-- what a dialog asks bounds what it sends
pub sends_asked : {E R : Type 0} (IsPartOfEvent : E → E → Type 0) (n : ℕ) (d : Dialog E R) → AsksAtMost n d
    → SendsAtMost IsPartOfEvent n d
sends_asked IsPartOfEvent n d f = record {
  over_tape = λ seq tape. sends_most n d seq tape f;
  whole = λ before transcript events result after p.
      rw (← ap (λ x. x.events) (p.plays [])) (search (rules, sends_most));
  broken_off = λ before transcript shown b.
      let prefix = prefix_most b.prefix in
      search (rules, sends_most);
}

-- steps

most_reply : (n : ℕ) (go_on : List ℕ → Dialog ⊥ Reply) (reply : Reply) → ((bytes : List ℕ) → AsksAtMost n (go_on bytes))
    → AsksAtMost n (with_data go_on reply)
most_reply n go_on reply f = search rules

attempt_most : (commands : List Command) (before : List ℕ) → AsksAtMost (length commands) (attempt commands before)
unfolding attempt exchange
attempt_most [] before = tt
attempt_most (command ∷ commands) before = λ reading.
    most_reply (length commands) (λ bytes. attempt commands (before ++ bytes)) (reply_from_reading command reading)
    (λ bytes. attempt_most commands (before ++ bytes))

most_settled : (n : ℕ) (again : StepFault → Dialog ⊥ StepOutcome) (reply : Reply)
    → ((fault : StepFault) → AsksAtMost n (again fault)) → AsksAtMost n (retry_or_end again reply)
most_settled n again reply f = search rules

tries_most : (more : ℕ) (commands : List Command) (fault : StepFault)
    → AsksAtMost (more * length commands) (attempts_or_fault more commands fault)
unfolding attempts_or_fault
tries_most zero commands fault = tt
tries_most (suc more) commands fault =
    asks_bind (length commands) (more * length commands) (suc more * length commands) (attempt commands [])
    (retry_or_end (attempts_or_fault more commands)) (omega (arith, suc-mul more (length commands)))
    (attempt_most commands []) (λ reply. most_settled (more * length commands) (attempts_or_fault more commands) reply
    (tries_most more commands))

pub step_most : (commands : List Command) → AsksAtMost (4 * length commands) (step commands)
step_most commands = tries_most 4 commands NoAnswer

-- a step, then the dialog that its data choose
pub then_most : (commands : List Command) (steps : List (List Command)) (go_on : List ℕ → Dialog ⊥ StepOutcome)
    → ((bytes : List ℕ) → AsksAtMost (4 * commands_in steps) (go_on bytes))
    → AsksAtMost (4 * commands_in (commands ∷ steps)) (step commands >>= unless_step_fault go_on)
then_most commands steps go_on f =
    asks_bind (4 * length commands) (4 * commands_in steps) (4 * commands_in (commands ∷ steps)) (step commands)
    (unless_step_fault go_on) (omega arith) (step_most commands) (λ outcome. (search rules))

pub play_most : (steps : List (List Command)) (before : List ℕ) → AsksAtMost (4 * commands_in steps) (play steps before)
unfolding play
play_most [] before = tt
play_most (commands ∷ steps) before = then_most commands steps (λ bytes. play steps (before ++ bytes))
    (λ bytes. play_most steps (before ++ bytes))

pub bounded : {R : Type 0} (steps : List (List Command)) (d : Dialog ⊥ R) → AsksAtMost (4 * commands_in steps) d
    → IsBoundedBy steps d
bounded steps d f = record { asks = f; sends = sends_asked NoPart (4 * commands_in steps) d f }

-- a dialog whose result is checked
pub checked_most : {A B : Type 0} (n : ℕ) (d : Dialog ⊥ A) (judge : A → B) → AsksAtMost n d
    → AsksAtMost n (d >>= λ outcome. Done (judge outcome))
checked_most n d judge f = asks_bind n 0 n d (λ outcome. Done (judge outcome)) (omega arith) f (λ outcome. tt)

-- the operations of a host

pub operation_most : {A : Type 0} (steps : List (List Command)) (judge : List ℕ → Result A HostFault)
    → AsksAtMost (4 * commands_in steps) (operation steps judge)
unfolding operation
operation_most steps judge = checked_most (4 * commands_in steps) (play steps []) (checked_by judge)
    (play_most steps [])

beginning_most : AsksAtMost (4 * commands_in opening_steps) handshake
unfolding handshake
beginning_most = search (rules, then_most, play_most)

pub opening_most : (signature : List ℕ) (force : Bool)
    → AsksAtMost (4 * commands_in opening_steps) (opening signature force)
unfolding opening
opening_most signature force = search (rules, checked_most, beginning_most)

pub closing_most : AsksAtMost (4 * commands_in closing_steps) closing
unfolding closing
closing_most =
    checked_most (4 * commands_in closing_steps) (step (leave ∷ [])) (checked_by no_result) (step_most (leave ∷ []))

-- a memory that can't be written is asked nothing
pub writing_most : (part : Part) (mem : Mem) (image : List (Option ℕ))
    → AsksAtMost (4 * commands_in (write_steps part mem image)) (writing part mem image)
writing_most part mem image = search (rules, operation_most)
