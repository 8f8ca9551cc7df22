-- The steps of an operation, one after another.
use Rattle.std.proofs.Common.{Bool, ◌≡◌, ℕ, ◌+◌, ◌<◌, ◌≤◌, ◌^◌, List, [], ◌∷◌, ◌++◌, length, ◌-◌, true, false, ◌∙◌, Option, Ok, Err, Result, rules}
use Rattle.std.proofs.lemmas.List.{nil_from_length}
use Rattle.std.specs.Prelude.{OnOk, if◌then◌else◌, is_ok}
use Rattle.std.specs.Result.{result_and}
use Rattle.avr_part.specs.declared.part.Mem.{Mem}
use Rattle.avr_part.specs.Mem.{is_writable}
use Rattle.avr_part.specs.Part.{Part, IsPart, size_of}
use Rattle.stk_frame.specs.declared.command.Command.{Command}
use Rattle.stk_frame.specs.declared.answer.Shape.{Shape}
use Rattle.stk_frame.specs.Commands.{FitsShape}
use Rattle.stk_host.specs.declared.fault.HostFault.{HostFault}
use Rattle.stk_host.specs.declared.fault.HostFault.TheVariants.{ReadOnly}
use Rattle.stk_host.specs.Transcript.{LinkState}
use Rattle.stk_host.specs.Dialog.{Dialog, Done}
use Rattle.stk_host.specs.Play.{Progress, RunsOverLink}
use Rattle.stk_host.specs.Reach.{Reaches}
use Rattle.stk_host.specs.Steps.{StepOutcome, step, play}
use Rattle.stk_host.specs.Places.{each_from}
use Rattle.stk_host.specs.WriteSteps.{write_steps}
use Rattle.stk_host.specs.Operations.{checked_by, operation, writing, Difference, difference_from, differs, comparison}
use Rattle.stk_host.specs.Calls.{StopsSteps, EndsSteps, EndsCall, CompletesSteps, CompletesStepsWithData, IsSizedShape, data_count}
use Rattle.stk_host.proofs.ImagePlaces.PagesAndRuns.{next_place}
use Rattle.stk_host.proofs.Transcripts.Reached.{reaches_here, reaches_on, played_from, then_reaches}
use Rattle.stk_host.proofs.Operations.StepEnds.{stops_on, stop_ends, play_on, play_stops, play_done}

-- data of this size
pub counted_data : (of : Shape) (bytes : List ℕ) → IsSizedShape of → FitsShape of bytes → length bytes ≡ data_count of
counted_data of bytes counted sized = search rules

-- a step that was run goes on with those that follow
pub goes_with : (commands : List Command) (before bytes : List ℕ) {m n : Progress} {o p : LinkState}
    → RunsOverLink (step commands) m o p (Ok bytes) n → CompletesStepsWithData (commands ∷ []) before (before
    ++ bytes) m o p (Ok tt) n
goes_with commands before bytes f = λ steps. play_on commands steps before bytes f

pub stops_with : (commands : List Command) (before : List ℕ) (m n : Progress) (o p : LinkState) (fault : HostFault)
    → StopsSteps (step commands) m o p fault n
    → (steps : List (List Command)) → StopsSteps (play (commands ∷ steps) before) m o p fault n
stops_with commands before m n o p fault e = λ steps. play_stops commands steps before m n o p fault e

-- a step that brings no data
pub goes_quietly : (commands : List Command) (of : Shape) (bytes : List ℕ) (result : Result (Unit {0}) HostFault)
    (m n : Progress) (o p : LinkState) → IsSizedShape of → data_count of ≡ 0 → OnOk result (FitsShape of bytes)
    → EndsSteps (step commands) (λ done. bytes) m o p result n → CompletesSteps (commands ∷ []) m o p result n
goes_quietly commands of bytes (Ok done) m n o p counted zero sized e =
    rw (nil_from_length bytes (counted_data of bytes counted sized ∙ zero)) at (goes_with commands [] bytes e)
goes_quietly commands of bytes (Err fault) m n o p counted zero sized e = stops_with commands [] m n o p fault e

-- a step that nothing follows
pub alone : (commands : List Command) (result : Result (Unit {0}) HostFault) (m n : Progress) (o p : LinkState)
    → CompletesSteps (commands ∷ []) m o p result n → EndsSteps (play (commands ∷ []) []) (λ done. []) m o p result n
alone commands result m n o p e = search (rules, play_done)

pub none_played : (m : Progress) (o : LinkState) → RunsOverLink (play [] []) m o o (Ok []) m
none_played m o = play_done [] (reaches_here (play [] []) m o)

-- the steps of a place among those that are left of a dialog
module _ {a : Dialog ⊥ StepOutcome} {k m : Progress} {r o : LinkState} (steps_at : ℕ → List (List Command))
    (place end : ℕ) (before : List ℕ)
    (come : Reaches a k r (play (each_from steps_at place (end - place)) before) m o) (lt : place < end) where
  abbrev rest : List (List Command)
  rest = each_from steps_at (place + 1) (end - (place + 1))

  pub reaches_next : {n : Progress} {p : LinkState} (after : List ℕ)
      → CompletesStepsWithData (steps_at place) before after m o p (Ok tt) n → Reaches a k r (play rest after) n p
  reaches_next after e = search (rules, reaches_on, next_place)

  pub stops_next : (n : Progress) (p : LinkState) (fault : HostFault)
      → ((more : List (List Command)) → StopsSteps (play (steps_at place ++ more) before) m o p fault n)
      → StopsSteps a k r p fault n
  stops_next n p fault e = search (rules, stops_on, next_place)

-- a place without steps
pub passes : {these : List (List Command)} (m : Progress) (o : LinkState) → these ≡ []
    → CompletesSteps these m o o (Ok tt) m
passes m o none = λ steps. rw none (reaches_here (play steps []) m o)

-- after the last place
pub plays_all : {a : Dialog ⊥ StepOutcome} {k m : Progress} {r o : LinkState} (steps_at : ℕ → List (List Command))
    (place end : ℕ) {before : List ℕ} → Reaches a k r (play (each_from steps_at place (end - place)) before) m o
    → end ≤ place → RunsOverLink a k r o (Ok before) m
plays_all steps_at place end {before = before} come past = search (rules, play_done)

-- the outcome of an operation, from the outcome of its steps

-- a stop, as the host reports it
reported_ends : {A : Type 0} (allocates : Bool) (steps : List (List Command)) (judge : List ℕ → Result A HostFault)
    (fault : HostFault) (m n : Progress) (o p : LinkState)
    → StopsSteps (play steps []) m o p fault n → EndsCall allocates (operation steps judge) m o p (Err fault) n
unfolding operation
reported_ends allocates steps judge fault m n o p e = search (rules, stop_ends)

checked_from : {A : Type 0} (steps : List (List Command)) (judge : List ℕ → Result A HostFault) (bytes : List ℕ)
    {m n : Progress} {o p : LinkState}
    → RunsOverLink (play steps []) m o p (Ok bytes) n → RunsOverLink (operation steps judge) m o p (judge bytes) n
unfolding operation
checked_from steps judge bytes e = played_from (then_reaches (λ outcome. Done (checked_by judge outcome)) e)

-- an operation that reads nothing
pub done_ends : (steps : List (List Command)) (result : Result (Unit {0}) HostFault) (m n : Progress) (o p : LinkState)
    → EndsSteps (play steps []) (λ done. []) m o p result n
    → EndsCall false (operation steps (λ bytes. Ok tt)) m o p result n
done_ends steps (Ok done) m n o p e = checked_from steps (λ bytes. Ok tt) [] e
done_ends steps (Err fault) m n o p e = reported_ends false steps (λ bytes. Ok tt) fault m n o p e

pub writing_ends : (part : Part) (mem : Mem) (image : List (Option ℕ)) (result : Result (Unit {0}) HostFault)
    (m n : Progress) (o p : LinkState) → is_writable mem ≡ true
    → EndsSteps (play (write_steps part mem image) []) (λ done. []) m o p result n
    → EndsCall false (writing part mem image) m o p result n
writing_ends part mem image result m n o p can e = search (rules, done_ends)

pub writes_nothing : (part : Part) (mem : Mem) (image : List (Option ℕ)) (m : Progress) (o : LinkState)
    → is_writable mem ≡ false → EndsCall false (writing part mem image) m o o (Err (ReadOnly mem)) m
writes_nothing part mem image m o cannot = search (rules, played_from, reaches_here)

pub reading_ends : (steps : List (List Command)) (bytes : List ℕ) (result : Result (Unit {0}) HostFault)
    (m n : Progress) (o p : LinkState) → EndsSteps (play steps []) (λ done. bytes) m o p result n
    → EndsCall true (operation steps Ok) m o p (result_and result (Ok (if is_ok result then bytes else []))) n
reading_ends steps bytes (Ok done) m n o p e = checked_from steps Ok bytes e
reading_ends steps bytes (Err fault) m n o p e = reported_ends true steps Ok fault m n o p e

differs_ends : (dialog : Dialog ⊥ (Result (Unit {0}) HostFault)) (mem : Mem) (found : Option Difference)
    {m n : Progress} {o p : LinkState}
    → RunsOverLink dialog m o p (differs mem found) n → EndsCall true dialog m o p (differs mem found) n
differs_ends dialog mem found e = search rules

pub verifying_ends : (steps : List (List Command)) (mem : Mem) (image : List (Option ℕ)) (bytes : List ℕ)
    (result : Result (Unit {0}) HostFault) (m n : Progress) (o p : LinkState)
    → EndsSteps (play steps []) (λ done. bytes) m o p result n
    → EndsCall true (operation steps (comparison mem image)) m o p (result_and result (comparison mem image bytes)) n
verifying_ends steps mem image bytes (Ok done) m n o p e =
    differs_ends (operation steps (comparison mem image)) mem (difference_from 0 image bytes)
    (checked_from steps (comparison mem image) bytes e)
verifying_ends steps mem image bytes (Err fault) m n o p e = search (rules, reported_ends)

-- a loop over places begins
pub begins_at : (steps_at : ℕ → List (List Command)) (count : ℕ) (before : List ℕ) (m : Progress) (o : LinkState)
    → Reaches (play (each_from steps_at 0 count) before) m o (play (each_from steps_at 0 (count - 0)) before) m o
begins_at steps_at count before m o = search (rules, reaches_here)

-- the number of bytes kept of a memory that was read

pub read_sized : (taken : Result (Unit {0}) HostFault) (items : List ℕ) (n : ℕ) → OnOk taken (length items ≡ n)
    → OnOk taken (length (if is_ok taken then items else []) ≡ n)
read_sized taken items n size = search rules

pub read_short : (taken : Result (Unit {0}) HostFault) (items : List ℕ) (n : ℕ) → n < 2 ^ 32
    → OnOk taken (length items ≡ n) → length (if is_ok taken then items else []) < 2 ^ 32
read_short taken items n bound size = search rules

pub size_fits : (mem : Mem) (part : Part) → IsPart part → size_of mem part < 2 ^ 32
size_fits mem part is = search rules
