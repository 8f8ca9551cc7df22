-- A stage: output events and a result, as a function of what the openings of files give.
use Rattle.std.specs.Prelude.{ℕ, ◌||◌, nat_lt, List, [], ◌∷◌, ◌++◌, drop, length, Result, Ok, Err, if◌then◌else◌, ⊤}
use Rattle.avr_io.specs.Record.{Bytes}
use Rattle.avr_io.specs.declared.record.Opening.{Opening}
use Rattle.avr_io.specs.declared.record.Opening.TheVariants.{Absent, Found}
use Rattle.avr_io.specs.Lines.{not_opened_line}
use Rattle.avr_io.specs.OutputEvents.{OutputEvent, Opens, PrintsLine}

-- How a stage ends: with a result, or with a refusal, whose line this is. Or it ends without a result, because a file
-- was not read to its end or past its limit.
pub data StageOutcome (A : Type 0) : Type 0 where
  Produced : A → StageOutcome A
  Refused : Bytes → StageOutcome A
  NotReadToEnd : StageOutcome A

-- the events before the end, the end, and the openings that the stage didn't use
pub record StageResult (A : Type 0) : Type 0 where
  pub output_events : List OutputEvent
  pub stage_outcome : StageOutcome A
  pub openings_left : List Opening

-- all events, the line of a refusal last
abbrev pub events_with_refusal : {A : Type 0} → List OutputEvent → StageOutcome A → List OutputEvent
events_with_refusal events (Refused line) = events ++ PrintsLine line ∷ []
events_with_refusal events outcome = events

-- all events of a stage's result
abbrev pub all_events_of : {A : Type 0} → StageResult A → List OutputEvent
all_events_of p = events_with_refusal p.output_events p.stage_outcome

-- A stage is a function of what opening files gives.
abbrev pub Stage : Type 0 → Type 0
Stage A = List Opening → StageResult A

-- the result with these events before its own
abbrev pub with_events_before : {A : Type 0} → List OutputEvent → StageResult A → StageResult A
with_events_before events p = record p { output_events = events ++ p.output_events }

-- after these events: the next stage if there is a result, else the same end
abbrev pub continued_stage : {A B : Type 0} → List OutputEvent → List Opening → (A → Stage B) → StageOutcome A
    → StageResult B
continued_stage events openings go_on (Produced a) = with_events_before events (go_on a openings)
continued_stage events openings go_on (Refused line) =
    record { output_events = events; stage_outcome = Refused line; openings_left = openings }
continued_stage events openings go_on NotReadToEnd =
    record { output_events = events; stage_outcome = NotReadToEnd; openings_left = openings }

-- one stage, then the one that its result chooses
infixl 10 ◌>>=◌
abbrev pub ◌>>=◌ : {A B : Type 0} → Stage A → (A → Stage B) → Stage B
◌>>=◌ stage go_on openings =
    let p = stage openings in
    continued_stage p.output_events p.openings_left go_on p.stage_outcome

-- a stage that only has these events
abbrev pub output_stage : List OutputEvent → Stage ⊤
output_stage events openings = record { output_events = events; stage_outcome = Produced tt; openings_left = openings }

-- a stage without events: a result, or the line of its refusal
abbrev pub result_stage : {A : Type 0} → Result A Bytes → Stage A
result_stage (Ok a) openings = record { output_events = []; stage_outcome = Produced a; openings_left = openings }
result_stage (Err line) openings = record { output_events = []; stage_outcome = Refused line; openings_left = openings }

-- the same opening under another name
abbrev pub renamed_opening : Bytes → Opening → Opening
renamed_opening name (Absent other) = Absent name
renamed_opening name (Found reading) = Found (record reading { name = name })

-- The file of this name gives what the next opening gives. If no opening is left, the file is absent.
abbrev pub next_opening : Bytes → List Opening → Opening
next_opening name [] = Absent name
next_opening name (opening ∷ openings) = renamed_opening name opening

-- the stage that opens a file by this name
abbrev pub open_stage : Bytes → Stage Opening
open_stage name openings =
    let opening = next_opening name openings in
    record { output_events = Opens opening ∷ []; stage_outcome = Produced opening; openings_left = drop 1 openings }

-- the stage that checks what an opening gave, if that is the whole file or goes past `limit`
abbrev pub content_stage : {A : Type 0} → Bytes → ℕ → (Bytes → Result A Bytes) → Opening → Stage A
content_stage name limit judge (Absent other) = result_stage (Err (not_opened_line name))
content_stage name limit judge (Found reading) =
    if reading.ended || nat_lt limit (length reading.bytes) then result_stage (judge reading.bytes)
    else (λ openings. record { output_events = []; stage_outcome = NotReadToEnd; openings_left = openings })

-- the stage that opens a file, reads it to its end or past `limit`, and checks its bytes
abbrev pub file_stage : {A : Type 0} → Bytes → ℕ → (Bytes → Result A Bytes) → Stage A
file_stage name limit judge = open_stage name >>= content_stage name limit judge
